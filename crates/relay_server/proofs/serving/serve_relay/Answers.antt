use Rattle.std.proofs.Common.{true, refl, arith}
use Rattle.bus_http.proofs.Servings.{progress_more, served_end, served_most, served_none, surely_served}
use Rattle.bus_http.specs.declared.route.Side.TheVariants.{Relay}
use Rattle.relay_server.specs.Shared.{MayShare, KeepsPass}
use Rattle.relay_server.proofs.Behind.{behind}
use Rattle.relay_server.proofs.serving.serve_relay.Goals as goal

pub returns-in_default-clause-served : goal.returns-in_default-clause-served
returns-in_default-clause-served g c = served_none Relay (MayShare g.T.Timeline.told) KeepsPass true _ _ _ _

pub returns-in-Some-clause-served : goal.returns-in-Some-clause-served
returns-in-Some-clause-served g c =
    served_end Relay (MayShare g.T.Timeline.told) KeepsPass true _ _ _ c.loop-answered.answered c.loop-answered.inbox c.turn.new.inbox _ _ _ _ _ _ _ _ _ c.in-Some.end
    c.loop-answered.invariant.progress c.in-Some.ensures.turned (omega (arith, c.loop-answered-test.true))

pub loop-answered-preserved : goal.loop-answered-preserved
loop-answered-preserved g c = record {
  progress =
      progress_more Relay (MayShare g.T.Timeline.told) KeepsPass true _ _ _ c.loop-answered.answered c.loop-answered.inbox c.turn.new.inbox _ _ _ _ _ _ _ _ _
      c.loop-answered.invariant.progress c.in_default-turn.ensures.turned (omega (arith, c.loop-answered-test.true));
  home = c.turn.ensures.home;
  within = omega (arith, c.loop-answered-test.true);
  reads = omega (arith, c.loop-answered.invariant.reads, c.turn.ensures.later.0);
  writes = omega (arith, c.loop-answered.invariant.writes, c.turn.ensures.later.1);
}

pub returns-clause-served : goal.returns-clause-served
returns-clause-served g c =
    served_most Relay (MayShare g.T.Timeline.told) KeepsPass true _ _ c.loop-answered.answered c.loop-answered.inbox _ _ _ _ _ _ c.loop-answered.invariant.progress
    (omega (arith, c.loop-answered-test.false, c.loop-answered.invariant.within))

pub returns-in_default-clause-surely : goal.returns-in_default-clause-surely
returns-in_default-clause-surely g c = surely_served Relay (MayShare g.T.Timeline.told) KeepsPass true _ _ _ _ _ _ _ _ _ (returns-in_default-clause-served g c) refl

pub returns-in-Some-clause-surely : goal.returns-in-Some-clause-surely
returns-in-Some-clause-surely g c = surely_served Relay (MayShare g.T.Timeline.told) KeepsPass true _ _ _ _ _ _ _ _ _ (returns-in-Some-clause-served g c) refl

pub returns-clause-surely : goal.returns-clause-surely
returns-clause-surely g c = surely_served Relay (MayShare g.T.Timeline.told) KeepsPass true _ _ _ _ _ _ _ _ _ (returns-clause-served g c) refl

pub returns-in_default-clause-behind : goal.returns-in_default-clause-behind
returns-in_default-clause-behind g c = behind g.T.Timeline.told _ _ _ _ _ _ _ _ _ (returns-in_default-clause-served g c)

pub returns-in-Some-clause-behind : goal.returns-in-Some-clause-behind
returns-in-Some-clause-behind g c = behind g.T.Timeline.told _ _ _ _ _ _ _ _ _ (returns-in-Some-clause-served g c)

pub returns-clause-behind : goal.returns-clause-behind
returns-clause-behind g c = behind g.T.Timeline.told _ _ _ _ _ _ _ _ _ (returns-clause-served g c)
