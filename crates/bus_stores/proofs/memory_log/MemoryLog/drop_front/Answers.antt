use Rattle.std.proofs.Common.{◌∙◌, ap}
use Rattle.bus_stores.specs.MemoryLog.{without_front}
use Rattle.bus_stores.proofs.KeptWindows.{front_more}
use Rattle.bus_stores.proofs.memory_log.MemoryLog.drop_front.Goals as goal

pub loop-preserved : goal.loop-preserved
loop-preserved c = c.drop_oldest.ensures ∙ ap (without_front 1) c.loop.invariant ∙ front_more c.loop.counter c.args.self.now
