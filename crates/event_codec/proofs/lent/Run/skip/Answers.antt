use Rattle.event_codec.specs.View.{event_of}
use Rattle.event_codec.proofs.Lendings.{skip_next, skip_end}
use Rattle.std.proofs.Common.{arith}
use Rattle.event_codec.proofs.lent.Run.skip.Goals as goal

pub loop-left-preserved : goal.loop-left-preserved
loop-left-preserved c =
    let was = c.loop-left.invariant in
    record {
      within = omega (arith, was.within);
      behind = skip_next c.args.self.now c.loop-left.self c.next.new.self (event_of c.in-Some.field-0.0) c.loop-left.left c.args.count was.within c.loop-left-test.true was.behind c.in-Some.ensures.event;
    }

pub returns-in_default : goal.returns-in_default
returns-in_default c =
    let was = c.loop-left.invariant in
    let none = c.in_default.ensures.event in
    skip_end c.args.self.now c.loop-left.self c.next.new.self c.loop-left.left c.args.count was.within was.behind none.0 none.1
