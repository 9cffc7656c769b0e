use Rattle.std.proofs.Common.{length, ap, arith}
use Rattle.log_segment.proofs.Lookings.{looks_not, looks_then}
use Rattle.log_segment.proofs.Headings.{begins_none, begins_more, begins_all}
use Rattle.log_segment.proofs.head.read_front.Goals as goal

pub loop-alloc-init : goal.loop-alloc-init
loop-alloc-init g c = record { looks = looks_not (g.D.Disk.state c.args.disk.now); within = omega (arith, ap length c.new-ahead.ensures); told = begins_none _ c.args.end c.new-ahead.result c.new-ahead.ensures }

pub returns-in-Ok-eq0-clause-told : goal.returns-in-Ok-eq0-clause-told
returns-in-Ok-eq0-clause-told g c =
    begins_all _ c.args.end _ c.in-Ok-eq0.field-0 c.loop-alloc.ahead c.read_on.new.ahead c.loop-alloc.invariant.looks.seen c.loop-alloc.invariant.told c.in-Ok-eq0.ensures.told c.in-Ok-eq0.field-0-test

pub loop-alloc-preserved : goal.loop-alloc-preserved
loop-alloc-preserved g c = record {
  looks = looks_then _ _ _ c.loop-alloc.invariant.looks c.read_on.ensures.looks;
  within = omega (arith, c.in-Ok.ensures.within);
  told = begins_more _ c.args.end _ c.in-Ok.field-0 c.loop-alloc.ahead c.read_on.new.ahead c.loop-alloc.invariant.looks.seen c.loop-alloc.invariant.told c.in-Ok.ensures.told;
}
