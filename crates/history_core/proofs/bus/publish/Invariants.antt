use Rattle.history_core.proofs.Feeding.{Fed}
use Rattle.history_core.proofs.bus.publish.Given as goal

abbrev pub invariant-loop-i : goal.invariant-loop-i
invariant-loop-i g l = Fed l.count l._i l.fn.source l.source (g.B.Buffer.relay l.fn.relay) (g.B.Buffer.relay l.relay)
