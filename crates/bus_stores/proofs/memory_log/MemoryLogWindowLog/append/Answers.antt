use Rattle.std.proofs.Common.{subst}
use Rattle.bus_stores.specs.Log.{AppendsWindow}
use Rattle.bus_stores.specs.MemoryLog.{log_of}
use Rattle.bus_stores.proofs.LogCalls.{pushes_appends}
use Rattle.bus_stores.proofs.memory_log.MemoryLogWindowLog.append.Goals as goal

pub returns-in-None-clause-append : goal.returns-in-None-clause-append
returns-in-None-clause-append c =
    let w = c.args.window.now in
    let new = c.push.new.self in
    subst (λ s. AppendsWindow w (log_of s) (log_of new) c.push.result) c.next_call.ensures.begun (pushes_appends w c.next_call.new.self new c.push.result c.push.ensures)
