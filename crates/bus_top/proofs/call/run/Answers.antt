use Rattle.bus_top.proofs.Turns.{short_none}
use Rattle.bus_top.proofs.call.run.Goals as goal

pub returns-in-Some-clause-kept : goal.returns-in-Some-clause-kept
returns-in-Some-clause-kept g c = rw c.left_bus.ensures (c.in-Some.ensures.turned _ _ c.loop-status.invariant.reached).back

pub returns-in_default-clause-ended : goal.returns-in_default-clause-ended
returns-in_default-clause-ended g c = short_none _ _
