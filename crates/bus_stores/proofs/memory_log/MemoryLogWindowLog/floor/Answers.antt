use Rattle.std.proofs.Common.{subst}
use Rattle.bus_stores.specs.MemoryLog.{MemoryWindows, AreKept}
use Rattle.bus_stores.proofs.KeptWindows.{kept_log}
use Rattle.bus_stores.proofs.memory_log.MemoryLogWindowLog.floor.Goals as goal

pub returns-clause-log : goal.returns-clause-log
returns-clause-log c =
    let size = c.self.inside.size in
    kept_log c.args.self.now size (subst (λ (s : MemoryWindows). AreKept s.floor s.windows size s.limit) c.self.view_is c.self.invariant)
