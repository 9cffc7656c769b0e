use Rattle.history_core.proofs.Forward.{go_on}
use Rattle.history_core.proofs.laws.consumers_never_go_back.Goals as goal

pub returns : goal.returns
returns c = record { kept = λ s count used lines h. (go_on s count used lines h).0; forward = λ s count used lines h. (go_on s count used lines h).1 }
