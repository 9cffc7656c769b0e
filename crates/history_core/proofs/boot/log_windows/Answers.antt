use Rattle.history_core.proofs.BootMoves.{logs_more}
use Rattle.history_core.proofs.boot.log_windows.Goals as goal

pub loop-left-preserved : goal.loop-left-preserved
loop-left-preserved g c = logs_more (g.B.Buffer.relay c.args.relay.now) c.args.count c.loop-left.left _ c.args.boot.now c.loop-left.boot _ c.in_ok-left.ensures.most c.loop-left.invariant c.in_ok-left.ensures.logs
