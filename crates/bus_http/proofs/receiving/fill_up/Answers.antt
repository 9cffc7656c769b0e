use Rattle.bus_http.proofs.Drawings.{draws_more, drew_of}
use Rattle.bus_http.proofs.receiving.fill_up.Goals as goal

pub returns-in-Err-clause-failed : goal.returns-in-Err-clause-failed
returns-in-Err-clause-failed g c = drew_of _ _ _ _ _ _ (draws_more _ _ _ _ _ _ _ _ _ c.loop-count.invariant.draws c.in-Err.ensures.failed)
