use Rattle.std.proofs.Common.{sym, subst}
use Rattle.bus_stores.specs.Log.{Dropped}
use Rattle.bus_stores.specs.MemoryLog.{log_of}
use Rattle.bus_stores.proofs.KeptWindows.{front_dropped}
use Rattle.bus_stores.proofs.memory_log.MemoryLog.drop_upto.Goals as goal

pub returns-clause-drops : goal.returns-clause-drops
returns-clause-drops c =
    let now = c.args.self.now in
    let gone = front_dropped c.args.scn c.place_after.result now c.place_after.ensures.chained c.place_after.ensures.place in
    subst (λ s. Dropped c.args.scn (log_of now) (log_of s)) (sym c.drop_front.ensures) gone
