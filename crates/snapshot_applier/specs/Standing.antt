-- Where a keeper stands in a timeline, by its boot mark and its rows.
use Rattle.std.specs.Prelude.{◌≡◌, ℕ, List, take, Some, IfSome, Result, Ok, Err, ◌⊎◌}
use Rattle.bus_types.specs.Window.{Span}
use Rattle.bus_types.specs.Timeline.{windows_between}
use Rattle.bus_types.specs.Table.{table}
use Rattle.bus_stores.specs.Keeper.{Content, KeeperState}
use Rattle.bus_stores.specs.Log.{LogState}
use Rattle.bus_stores.specs.declared.boot_fault.BootFault.{BootFault}
use Rattle.bus_stores.specs.declared.boot_fault.BootFault.TheVariants.{LogFailed, StoreFailed, Halted, NoMemory}
use Rattle.snapshot_applier.specs.declared.boot.BootMark.{BootMark}
use Rattle.snapshot_applier.specs.BootMark.{IsBootStored}
use Rattle.snapshot_applier.specs.Apply.{applied_after}

-- a log tells its windows, and they are those of a timeline from its floor up to its newest one
abbrev pub IsLogOf : List Span → LogState → Type 0
IsLogOf ws log = log.windows ≡ Some (windows_between log.floor log.high ws)

-- the boot mark is stored, and the rows are the table of the timeline up to which it says that windows were applied
pub record StandsAt (ws : List Span) (m : BootMark) (c : Content) : Type 0 where
  pub mark : IsBootStored c.mark m
  pub rows : c.rows ≡ table ws m.applied

-- the boot mark behind the next windows of a timeline, at most so many, up to an SCN
abbrev pub next_mark : List Span → BootMark → ℕ → ℕ → BootMark
next_mark ws m most high = applied_after m (take most (windows_between m.applied high ws))

-- where a keeper stands that tells its content and stood at a boot mark, after a call of the applier: by its answer at the
-- next one, at the same, or, after a failed commit, at either
abbrev pub StandsAfter : List Span → BootMark → BootMark → Result BootMark BootFault → KeeperState → Type 0
StandsAfter ws m next (Ok answer) new = (answer ≡ next) × IfSome new.content (StandsAt ws next)
StandsAfter ws m next (Err LogFailed) new = IfSome new.content (StandsAt ws m)
StandsAfter ws m next (Err StoreFailed) new = IfSome new.content (λ c. StandsAt ws m c ⊎ StandsAt ws next c)
StandsAfter ws m next (Err Halted) new = ⊥
StandsAfter ws m next (Err NoMemory) new = IfSome new.content (StandsAt ws m)
