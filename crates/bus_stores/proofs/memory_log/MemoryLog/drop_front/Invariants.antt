use Rattle.std.proofs.Common.{◌≡◌}
use Rattle.bus_stores.specs.MemoryLog.{without_front}
use Rattle.bus_stores.proofs.memory_log.MemoryLog.drop_front.Given as goal

abbrev pub invariant-loop : goal.invariant-loop
invariant-loop l = l.self ≡ without_front l.counter l.fn.self
