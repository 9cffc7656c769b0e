-- What is read of a keeper's rows.
use Rattle.std.specs.Prelude.{◌≡◌, ℕ, ◌<◌, ◌≤◌, ◌^◌, false, List, IfSome, Result}
use Rattle.bus_types.specs.declared.change.Key.{Key}
use Rattle.bus_types.specs.declared.change.Change.{Change}
use Rattle.bus_types.specs.declared.row.Cursor.{Cursor}
use Rattle.bus_types.specs.declared.row.Cursor.TheVariants.{Start, After}
use Rattle.bus_types.specs.Change.{Test, IsKey}
use Rattle.bus_types.specs.Causes.{Rose}
use Rattle.bus_types.specs.Table.{RowList}
use Rattle.bus_types.specs.Rows.{rest_of, RiseAfter}
use Rattle.bus_stores.specs.Keeper.{KeeperState, SameStore, BothTold, OnFailed}
use Rattle.bus_stores.specs.declared.keeper.StoreFault.{StoreFault}
use Rattle.event_codec.specs.Chunks.{puts_of}
use Rattle.snapshot_scan.specs.Chunk.{scan_rows}
use Rattle.snapshot_scan.specs.Filling.{Filled, with_rows, with_items}

-- the numbers of a name are in their ranges
pub record IsName (source : ℕ) (key : Key) : Type 0 where
  pub low : source < 2 ^ 16
  pub within : IsKey key

-- the numbers of a cursor are
abbrev pub IsPlace : Cursor → Type 0
IsPlace Start = Unit {0}
IsPlace (After source key) = IsName source key

-- the chunk was filled from rows after the cursor; where the keeper tells its rows, from all of those
pub record FilledFrom (test : Test) (scn : ℕ) (cursor : Cursor) (state : KeeperState) (start end : Filled) : Type 0 where
  pub rows : RowList
  pub rising : RiseAfter cursor rows
  pub some : end ≡ with_rows test scn start rows
  pub all : IfSome state.content (λ c. end ≡ with_rows test scn start (rest_of cursor c.rows))

-- the items of a scan
abbrev pub scan_items : Test → ℕ → Cursor → RowList → List Change
scan_items test applied cursor rows = puts_of (rest_of cursor (scan_rows test applied rows))

-- the same of a table at an SCN, which is empty at 0
pub record ScannedFrom (test : Test) (applied : ℕ) (cursor : Cursor) (state : KeeperState) (start end : Filled) : Type 0 where
  pub rows : RowList
  pub rising : RiseAfter cursor rows
  pub some : end ≡ with_items applied start (scan_items test applied cursor rows)
  pub all : IfSome state.content (λ c. end ≡ with_items applied start (scan_items test applied cursor c.rows))

-- calls that only read a keeper
pub record OnlyReads {X : Type 0} (old new : KeeperState) (result : Result X StoreFault) : Type 0 where
  pub same : SameStore old new
  pub calls : BothTold (λ a b. a ≤ b) old.calls new.calls
  pub faults : old.faults ≤ new.faults
  pub failed : OnFailed result (Rose old.faults new.faults)
  pub sound : OnFailed result (IfSome old.stops (λ s. s.sound ≡ false))
