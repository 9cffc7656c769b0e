use Rattle.history_core.proofs.BootMoves.{LogsRest}
use Rattle.history_core.proofs.boot.log_windows.Given as goal

abbrev pub invariant-loop-left : goal.invariant-loop-left
invariant-loop-left g l = LogsRest (g.B.Buffer.relay l.relay) l.count l.left l.fn.boot l.boot

abbrev pub decreases-loop-left : goal.decreases-loop-left
decreases-loop-left g l = l.left
