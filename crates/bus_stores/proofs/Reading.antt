-- A read that begins with another.
use Rattle.std.proofs.Common.{◌≡◌}
use Rattle.std.specs.Prelude.{Ok, Err, IfSome}
use Rattle.bus_stores.specs.declared.keeper.StoreFault.{StoreFault}
use Rattle.bus_stores.specs.declared.keeper.StoreFault.TheVariants.{Failed, NoMemory}
use Rattle.bus_stores.specs.Keeper.{KeeperState, Content, Reads}
use Rattle.bus_stores.specs.Memory.{MemoryStore, ReadLeaves}

-- it fails where that one failed
pub reads_failed : {X : Type 0} (asked : Content → X) (old new : KeeperState) (e : StoreFault) → Reads {X = Unit {0}} (λ c. tt) old new (Err e) → Reads asked old new (Err e)
reads_failed asked old new Failed r = record { counts = record { calls = r.counts.calls; faults = r.counts.faults; failed = r.counts.failed }; same = r.same; answer = tt; sound = r.sound }
reads_failed asked old new NoMemory r = record { counts = record { calls = r.counts.calls; faults = r.counts.faults; failed = tt }; same = r.same; answer = tt; sound = tt }

-- it may run out of memory afterwards
pub reads_none : {X : Type 0} (asked : Content → X) (old new : KeeperState) (u : Unit {0}) → Reads {X = Unit {0}} (λ c. tt) old new (Ok u) → Reads asked old new (Err NoMemory)
reads_none asked old new u r = record { counts = record { calls = r.counts.calls; faults = r.counts.faults; failed = tt }; same = r.same; answer = tt; sound = tt }

-- it answers afterwards
pub reads_ok : {X : Type 0} (asked : Content → X) (old new : KeeperState) (u : Unit {0}) (x : X) → Reads {X = Unit {0}} (λ c. tt) old new (Ok u) → IfSome new.content (λ c. x ≡ asked c) → Reads asked old new (Ok x)
reads_ok asked old new u x r e = record { counts = record { calls = r.counts.calls; faults = r.counts.faults; failed = tt }; same = r.same; answer = e; sound = tt }

-- what a read leaves exactly that begins with another, where that one failed
pub leaves_failed : (X : Type 0) (old new : MemoryStore) (e : StoreFault) → ReadLeaves {X = Unit {0}} old new (Err e) → ReadLeaves {X = X} old new (Err e)
leaves_failed X old new Failed l = l
leaves_failed X old new NoMemory l = l

pub ruleset reading = (reads_failed, reads_none, reads_ok, leaves_failed)
