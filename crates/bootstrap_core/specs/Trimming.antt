-- The steps of a trim, and how a bootstrap halts.
use Rattle.std.specs.Prelude.{◌≡◌, ℕ, ◌<◌, ◌≤◌, max, true, false, nat_le, if◌then◌else◌, Option, Some, None, IfSome, Result, Ok, Err, IfOk, ◌⊎◌}
use Rattle.bus_types.specs.Causes.{Rose}
use Rattle.bus_types.specs.Window.{Span}
use Rattle.bus_stores.specs.declared.log.LogFault.{LogFault}
use Rattle.bus_stores.specs.declared.log.LogFault.TheVariants as logs
use Rattle.bus_stores.specs.declared.keeper.StoreFault.{StoreFault}
use Rattle.bus_stores.specs.declared.keeper.StoreFault.TheVariants as stores
use Rattle.bus_stores.specs.Log.{LogState, LogCounts, SameLog, Dropped, OnFull, first_after}
use Rattle.bus_stores.specs.declared.boot_fault.BootFault.{BootFault}
use Rattle.bus_stores.specs.declared.boot_fault.BootFault.TheVariants.{LogFailed, StoreFailed, Halted, NoMemory}
use Rattle.bootstrap_core.specs.Boot.{BootParts, BootState}
use Rattle.bootstrap_core.specs.Moving.{SameParts, IsNewBase, DropsEach, BeginsBehind, SetsLater, DropsLater, SetsNone}

-- ---- faults

-- a bootstrap after a fault: want of memory halts none
abbrev pub halted_at : {G K : Type 0} → BootFault → BootParts G K → BootParts G K
halted_at LogFailed b = record b { halted = true }
halted_at StoreFailed b = record b { halted = true }
halted_at Halted b = record b { halted = true }
halted_at NoMemory b = b

abbrev pub of_log : LogFault → BootFault
of_log logs.Failed = LogFailed
of_log logs.Full = LogFailed
of_log logs.NoMemory = NoMemory

abbrev pub of_store : StoreFault → BootFault
of_store stores.Failed = StoreFailed
of_store stores.NoMemory = NoMemory

-- ---- the new base

-- the SCN of a window, where there is one that isn't above another SCN
abbrev pub scn_upto : ℕ → Option Span → Option ℕ
scn_upto upto None = None
scn_upto upto (Some w) = if nat_le w.scn upto then Some w.scn else None

-- a call that reads the SCN of the oldest window behind one SCN, where it isn't above another; it changes nothing
pub record ReadsUpto (scn upto : ℕ) (old new : LogState) (result : Result (Option ℕ) LogFault) : Type 0 where
  pub counts : LogCounts old new result
  pub same : SameLog old new
  pub within : IfOk result (λ found. IfSome found (λ n. (scn < n) × (n ≤ upto)))
  pub told : IfOk result (λ found. IfSome old.windows (λ ws. found ≡ scn_upto upto (first_after scn ws)))
  pub roomy : OnFull result ⊥

-- a call that reads the SCN of the newest window behind a base that isn't above an SCN, or the base; it changes nothing
pub record ReadsNewest (base upto : ℕ) (old new : LogState) (result : Result ℕ LogFault) : Type 0 where
  pub counts : LogCounts old new result
  pub same : SameLog old new
  pub low : IfOk result (λ found. base ≤ found)
  pub high : IfOk result (λ found. found ≤ max base upto)
  pub is : IfOk result (λ found. IsNewBase old base upto found)
  pub roomy : OnFull result ⊥

-- a log dropped windows up to an SCN, or kept them where memory ran out; or it failed
abbrev pub DropsOrFails : Result Unit BootFault → ℕ → LogState → LogState → Type 0
DropsOrFails (Ok done) scn old new = Dropped scn old new × (DropsEach old → BeginsBehind scn old new)
DropsOrFails (Err LogFailed) scn old new = Rose old.faults new.faults × IfSome old.room (λ room. room.sound ≡ false)
DropsOrFails (Err StoreFailed) scn old new = ⊥
DropsOrFails (Err Halted) scn old new = ⊥
DropsOrFails (Err NoMemory) scn old new = ⊥

-- a call that sets a later base, by its answer
abbrev pub SetsBase : Result ℕ BootFault → ℕ → BootState → BootState → Type 0
SetsBase (Ok scn) base old new = (scn ≡ base) × (new.halted ≡ false) × DropsLater base old new
SetsBase (Err LogFailed) base old new = (new.halted ≡ true) × Rose old.log.faults new.log.faults × SetsLater base old new
SetsBase (Err StoreFailed) base old new = (new.halted ≡ true) × Rose old.keeper.faults new.keeper.faults × SetsNone base old new
SetsBase (Err Halted) base old new = ⊥
SetsBase (Err NoMemory) base old new = (new.halted ≡ false) × SameParts old new
