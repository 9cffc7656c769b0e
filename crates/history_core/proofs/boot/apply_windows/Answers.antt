use Rattle.history_core.proofs.BootMoves.{applies_more}
use Rattle.history_core.proofs.boot.apply_windows.Goals as goal

pub loop-left-preserved : goal.loop-left-preserved
loop-left-preserved c = applies_more c.args.count c.loop-left.left _ c.args.boot.now c.loop-left.boot _ c.in_ok-left.ensures.most c.loop-left.invariant c.in_ok-left.ensures.applies
