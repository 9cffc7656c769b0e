use Rattle.std.proofs.Common.{arith}
use Rattle.bus_http.proofs.Servings.{progress_more, served_end, served_most, served_none, surely_served}
use Rattle.bus_http.proofs.serving.serve.Goals as goal

pub returns-in_default-clause-served : goal.returns-in_default-clause-served
returns-in_default-clause-served g c = served_none g.S.Service.side g.S.Service.may g.S.Service.keeps g.S.Service.sure _ _ _ _

pub returns-in-Some-clause-served : goal.returns-in-Some-clause-served
returns-in-Some-clause-served g c =
    served_end g.S.Service.side g.S.Service.may g.S.Service.keeps g.S.Service.sure _ _ _ c.loop-answered.answered c.loop-answered.inbox c.turn.new.inbox _ _ _ _ _ _ _ _ _ c.in-Some.end
    c.loop-answered.invariant.progress c.in-Some.ensures.turned (omega (arith, c.loop-answered-test.true))

pub loop-answered-preserved : goal.loop-answered-preserved
loop-answered-preserved g c = record {
  progress =
      progress_more g.S.Service.side g.S.Service.may g.S.Service.keeps g.S.Service.sure _ _ _ c.loop-answered.answered c.loop-answered.inbox c.turn.new.inbox _ _ _ _ _ _ _ _ _
      c.loop-answered.invariant.progress c.in_default-turn.ensures.turned (omega (arith, c.loop-answered-test.true));
  within = omega (arith, c.loop-answered-test.true);
  reads = omega (arith, c.loop-answered.invariant.reads, c.turn.ensures.later.0);
  writes = omega (arith, c.loop-answered.invariant.writes, c.turn.ensures.later.1);
}

pub returns-clause-served : goal.returns-clause-served
returns-clause-served g c =
    served_most g.S.Service.side g.S.Service.may g.S.Service.keeps g.S.Service.sure _ _ c.loop-answered.answered c.loop-answered.inbox _ _ _ _ _ _ c.loop-answered.invariant.progress
    (omega (arith, c.loop-answered-test.false, c.loop-answered.invariant.within))

pub returns-in_default-clause-surely : goal.returns-in_default-clause-surely
returns-in_default-clause-surely g c = surely_served g.S.Service.side g.S.Service.may g.S.Service.keeps g.S.Service.sure _ _ _ _ _ _ _ _ _ (returns-in_default-clause-served g c)

pub returns-in-Some-clause-surely : goal.returns-in-Some-clause-surely
returns-in-Some-clause-surely g c = surely_served g.S.Service.side g.S.Service.may g.S.Service.keeps g.S.Service.sure _ _ _ _ _ _ _ _ _ (returns-in-Some-clause-served g c)

pub returns-clause-surely : goal.returns-clause-surely
returns-clause-surely g c = surely_served g.S.Service.side g.S.Service.may g.S.Service.keeps g.S.Service.sure _ _ _ _ _ _ _ _ _ (returns-clause-served g c)
