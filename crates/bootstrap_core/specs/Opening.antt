-- How a bootstrap is opened over its log and its keeper.
use Rattle.std.specs.Prelude.{◌≡◌, ℕ, ◌<◌, ◌≤◌, false, List, Option, Some, IfSome}
use Rattle.bus_types.specs.Causes.{Rose}
use Rattle.bus_stores.specs.Keeper.{KeeperState, SameStore}
use Rattle.bus_stores.specs.Log.{LogState}
use Rattle.snapshot_applier.specs.declared.boot.BootMark.{BootMark}
use Rattle.snapshot_applier.specs.BootMark.{IsBootStored}
use Rattle.bootstrap_core.specs.declared.fault.BootOpen.{BootOpen}
use Rattle.bootstrap_core.specs.declared.fault.BootOpen.TheVariants.{BadMark, Ahead, Hole, LogFailed, StoreFailed, NoMemory}
use Rattle.bootstrap_core.specs.Boot.{BootState, IsBetween}

-- the keeper's stored text is this boot mark, where it tells its content
abbrev pub Stores : KeeperState → BootMark → Type 0
Stores keeper mark = IfSome keeper.content (λ c. IsBootStored c.mark mark)

-- a bootstrap was opened: at the boot mark that is stored, where that is told, over the same log, and a keeper that was only
-- read
pub record IsOpened (log : LogState) (keeper : KeeperState) (b : BootState) : Type 0 where
  pub log_same : b.log ≡ log
  pub keeper_same : SameStore keeper b.keeper
  pub mark : Stores b.keeper b.mark
  pub between : IsBetween log b.mark
  pub runs : b.halted ≡ false

-- why none was opened, where the keeper still tells its content
abbrev pub OpensNot : BootOpen → LogState → KeeperState → KeeperState → Type 0
OpensNot BadMark log old new = IfSome new.content (λ c. (mark : BootMark) → IsBootStored c.mark mark → ⊥)
OpensNot (Ahead applied high) log old new =
    (high ≡ log.high) × (high < applied) × IfSome new.content (λ c. (mark : BootMark) × IsBootStored c.mark mark × (mark.applied ≡ applied))
OpensNot (Hole base floor) log old new =
    (floor ≡ log.floor) × (base < floor)
    × IfSome new.content (λ c. (mark : BootMark) × IsBootStored c.mark mark × (mark.base ≡ base) × (mark.applied ≤ log.high))
OpensNot LogFailed log old new = ⊥
OpensNot StoreFailed log old new = Rose old.faults new.faults × IfSome old.stops (λ s. s.sound ≡ false)
OpensNot NoMemory log old new = Unit {0}

-- ---- the code's words

-- why what is stored gave no boot mark
abbrev pub Unread : Option (List ℕ) → BootOpen → Type 0
Unread stored BadMark = (mark : BootMark) → IsBootStored stored mark → ⊥
Unread stored (Ahead applied high) = ⊥
Unread stored (Hole base floor) = ⊥
Unread stored LogFailed = ⊥
Unread stored StoreFailed = ⊥
Unread stored NoMemory = Unit {0}

-- why a boot mark doesn't lie between the ends of a log
abbrev pub IsMisplaced : LogState → BootMark → BootOpen → Type 0
IsMisplaced log mark BadMark = ⊥
IsMisplaced log mark (Ahead applied high) = (high ≡ log.high) × (high < applied) × (mark.applied ≡ applied)
IsMisplaced log mark (Hole base floor) = (floor ≡ log.floor) × (base < floor) × (mark.base ≡ base) × (mark.applied ≤ log.high)
IsMisplaced log mark LogFailed = ⊥
IsMisplaced log mark StoreFailed = ⊥
IsMisplaced log mark NoMemory = ⊥
