use Rattle.std.proofs.Common.{List, ℕ, length, ap, subst, arith}
use Rattle.log_segment.specs.declared.read.Front.{Front}
use Rattle.log_segment.specs.Reading.{BeginsWith, NoRecord, ShowsRecord}
use Rattle.log_segment.proofs.Lookings.{looks_not, looks_then}
use Rattle.log_segment.proofs.Lookups.{no_part, part_on, told_all, told_there}
use Rattle.log_segment.proofs.fetch.fetch_at.Goals as goal

pub loop-front-init : goal.loop-front-init
loop-front-init g c = record { looks = looks_not (g.D.Disk.state c.args.disk.now); within = omega (arith, c.requires.place, ap length c.new-ahead.ensures); told = no_part _ c.args.end c.args.place c.new-ahead.result c.new-ahead.ensures }

pub returns-in-Record-clause-told : goal.returns-in-Record-clause-told
returns-in-Record-clause-told g c =
    let shows = subst (λ (f : Front). ShowsRecord f c.args.prev c.bytes.result.now) c.in-Record.is c.in-Ok.ensures in
    told_there c.args.end c.args.place c.loop-front.ahead _ c.args.prev c.in-Record.window (subst (λ (l : List ℕ). BeginsWith c.args.prev c.in-Record.window l) c.bytes.ensures shows) c.loop-front.invariant.told

pub returns-in-Ok-eq0-clause-told : goal.returns-in-Ok-eq0-clause-told
returns-in-Ok-eq0-clause-told g c =
    let none = subst (λ (f : Front). ShowsRecord f c.args.prev c.bytes.result.now) c.in-Short.is c.in-Ok.ensures in
    told_all _ _ c.loop-front.invariant.looks.seen c.args.end c.args.place c.loop-front.ahead c.loop-front.invariant.told c.args.prev c.in-Ok-eq0.field-0 c.read_on.new.ahead c.in-Ok-eq0.field-0-test
    (subst (λ (l : List ℕ). NoRecord c.args.prev l) c.bytes.ensures none) c.in-Ok-eq0.ensures.told

pub loop-front-preserved : goal.loop-front-preserved
loop-front-preserved g c = record {
  looks = looks_then _ _ _ c.loop-front.invariant.looks c.read_on.ensures.looks;
  within = c.in-Ok-read_on.ensures.within;
  told = part_on _ _ c.loop-front.invariant.looks.seen c.args.end c.args.place c.loop-front.ahead c.loop-front.invariant.told c.in-Ok-read_on.field-0 c.read_on.new.ahead c.in-Ok-read_on.ensures.told;
}
