use Rattle.std.proofs.Common.{arith}
use Rattle.bus_types.specs.Causes.{Rose}
use Rattle.bus_node.proofs.Visiting.{ran_none, ran_more, ran_all, ran_cut}
use Rattle.relay_node.specs.Serving.{ServesRelay}
use Rattle.relay_node.proofs.serving.serve_door.Goals as goal

pub loop-done-init : goal.loop-done-init
loop-done-init g c = record {
  ran = ran_none (ServesRelay g.T.Timeline.told) g.D.Peer.Source.given g.D.Peer.Source.left g.D.Peer.Sink.written _ _;
  later = omega arith;
}

pub loop-done-preserved : goal.loop-done-preserved
loop-done-preserved g c = record {
  ran = ran_more (ServesRelay g.T.Timeline.told) g.D.Peer.Source.given g.D.Peer.Source.left g.D.Peer.Sink.written _ _ _ _ _ _ _ _ _ _ c.loop-done.invariant.ran c.in-Ok.ensures.visited c.is_short-short.ensures;
  later = omega (arith, c.loop-done.invariant.later, c.visit.ensures.cause.later);
}

pub returns-in-Err-clause-served : goal.returns-in-Err-clause-served
returns-in-Err-clause-served g c =
    ran_cut (ServesRelay g.T.Timeline.told) g.D.Peer.Source.given g.D.Peer.Source.left g.D.Peer.Sink.written _ _ _ _ _ _ _ _ _ c.loop-done.invariant.ran
    c.in-Err.ensures.kept.0 c.in-Err.ensures.kept.1 (omega (arith, c.loop-done-test.true))

pub returns-in-Err-clause-later : goal.returns-in-Err-clause-later
returns-in-Err-clause-later g c = omega (arith, c.loop-done.invariant.later, c.visit.ensures.cause.later)

pub returns-in-Err-clause-cause : goal.returns-in-Err-clause-cause
returns-in-Err-clause-cause g c e =
    let rose : Rose (g.D.Accept.faults c.loop-done.door) (g.D.Accept.faults c.visit.new.door) = c.in-Err.ensures.cause.failed in
    omega (arith, c.loop-done.invariant.later, rose)

pub returns-clause-served : goal.returns-clause-served
returns-clause-served g c =
    ran_all (ServesRelay g.T.Timeline.told) g.D.Peer.Source.given g.D.Peer.Source.left g.D.Peer.Sink.written _ _ _ _ _ _ _ c.loop-done.invariant.ran
    (omega (arith, c.loop-done-test.false, c.loop-done.auto._done-end))

pub returns-clause-later : goal.returns-clause-later
returns-clause-later g c = c.loop-done.invariant.later
