use Rattle.history_core.proofs.BootMoves.{AppliesRest}
use Rattle.history_core.proofs.boot.apply_windows.Given as goal

abbrev pub invariant-loop-left : goal.invariant-loop-left
invariant-loop-left l = AppliesRest l.count l.left l.fn.boot l.boot

abbrev pub decreases-loop-left : goal.decreases-loop-left
decreases-loop-left l = l.left
