-- Rows, and the pages of a table.
use Rattle.std.specs.Prelude.{ℕ, ◌≤◌, Bool, true, IsTrue, List, [], ◌∷◌, length, filter, take}
use Rattle.std.specs.Ordering.{is_lt}
use Rattle.bus_types.specs.declared.change.RowName.{RowName}
use Rattle.bus_types.specs.declared.row.Row.{Row}
use Rattle.bus_types.specs.declared.row.Cursor.{Cursor}
use Rattle.bus_types.specs.declared.row.Cursor.TheVariants.{Start, After}
use Rattle.bus_types.specs.Change.{name_cmp}
use Rattle.bus_types.specs.Table.{RowList}

-- a row as a name and its payload
abbrev pub pair_of : Row → RowName × List ℕ
pair_of r = (record { source = r.source; key = r.key }, r.payload)

-- whether a name stands after a cursor
abbrev pub is_after : Cursor → RowName → Bool
is_after Start name = true
is_after (After source key) name = is_lt (name_cmp (record { source = source; key = key }) name)

-- the rows after a cursor
abbrev pub rest_of : Cursor → RowList → RowList
rest_of cursor rows = filter (λ r. is_after cursor r.0) rows

-- the first rows after a cursor, at most max
abbrev pub page_of : Cursor → ℕ → RowList → RowList
page_of cursor max rows = take max (rest_of cursor rows)

-- the cursor after rows that were read from a cursor on
abbrev pub last_from : Cursor → RowList → Cursor
last_from cursor [] = cursor
last_from cursor (r ∷ rs) = last_from (After r.0.source r.0.key) rs

-- names that rise strictly from a cursor on
abbrev pub RiseAfter : Cursor → RowList → Type 0
RiseAfter cursor [] = Unit {0}
RiseAfter cursor (r ∷ rs) = IsTrue (is_after cursor r.0) × RiseAfter (After r.0.source r.0.key) rs

-- a page, whether the table is told or not
pub record IsPage (cursor : Cursor) (max : ℕ) (rows : RowList) : Type 0 where
  pub few : length rows ≤ max
  pub rising : RiseAfter cursor rows
