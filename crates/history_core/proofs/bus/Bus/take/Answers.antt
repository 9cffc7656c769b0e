use Rattle.history_core.proofs.bus.Bus.take.Goals as goal

pub returns-in-Show-clause-calls : goal.returns-in-Show-clause-calls
returns-in-Show-clause-calls g c = rw c.in-Show.is (c.show.ensures.calls)

pub returns-in-Sum-clause-calls : goal.returns-in-Sum-clause-calls
returns-in-Sum-clause-calls g c = rw c.in-Sum.is (c.sum.ensures.calls)
