-- What a bootstrap is to a contract, and when it stands for a timeline.
use Rattle.std.specs.Prelude.{◌≡◌, ℕ, ◌≤◌, Bool, true, false, List, Option, Some, None, IfSome}
use Rattle.bus_types.specs.Window.{Span}
use Rattle.bus_types.specs.Timeline.{windows_between}
use Rattle.bus_types.specs.Table.{table}
use Rattle.bus_types.specs.Relay.{is_place}
use Rattle.bus_stores.specs.Keeper.{KeeperState, Content}
use Rattle.bus_stores.specs.Log.{LogState}
use Rattle.bus_wire.specs.True.{Boot, IsBoot}
use Rattle.snapshot_applier.specs.declared.boot.BootMark.{BootMark}
use Rattle.snapshot_applier.specs.BootMark.{IsBootStored}

-- its log, its keeper, its boot mark, and whether it has met a fault of log or keeper
pub record BootParts (G K : Type 0) : Type 0 where
  pub log : G
  pub keeper : K
  pub mark : BootMark
  pub halted : Bool

-- the same, of log and keeper what they tell
pub record BootState : Type 0 where
  pub log : LogState
  pub keeper : KeeperState
  pub mark : BootMark
  pub halted : Bool

abbrev pub told : {G K : Type 0} → (G → LogState) → (K → KeeperState) → BootParts G K → BootState
told log keeper b = record { log = log b.log; keeper = keeper b.keeper; mark = b.mark; halted = b.halted }

-- the numbers of a bootstrap with this log and this boot mark
abbrev pub numbers : LogState → BootMark → Boot
numbers log mark = record { base = mark.base; applied = mark.applied; high = log.high }

-- a boot mark lies between the ends of a log
pub record IsBetween (log : LogState) (mark : BootMark) : Type 0 where
  pub low : log.floor ≤ mark.base
  pub order : mark.base ≤ mark.applied
  pub high : mark.applied ≤ log.high

-- the log's windows are those of a timeline behind its floor, up to its newest one
pub record HoldsStretch (ws : List Span) (log : LogState) : Type 0 where
  pub floor : is_place log.floor ws ≡ true
  pub windows : IfSome log.windows (λ held. held ≡ windows_between log.floor log.high ws)

-- the rows are the table at applied, and the stored mark is the boot mark
pub record HoldsTable (ws : List Span) (mark : BootMark) (c : Content) : Type 0 where
  pub rows : c.rows ≡ table ws mark.applied
  pub stored : IsBootStored c.mark mark

-- log, keeper and boot mark stand for a timeline, which may go beyond the log
pub record StandsForBoot (ws : List Span) (log : LogState) (keeper : KeeperState) (mark : BootMark) : Type 0 where
  pub lawful : IsBoot ws (numbers log mark)
  pub between : IsBetween log mark
  pub stretch : HoldsStretch ws log
  pub table : IfSome keeper.content (HoldsTable ws mark)

-- a bootstrap stands for a timeline
abbrev pub Stands : List Span → BootState → Type 0
Stands ws b = StandsForBoot ws b.log b.keeper b.mark
