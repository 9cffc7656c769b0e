-- Rows in memory: each name with its payload, or with room for one.
use Rattle.std.specs.Prelude.{ℕ, List, [], ◌∷◌, ◌++◌, Option, Some, None, IsSome}
use Rattle.std.specs.List.{AllByRecursion}
use Rattle.std.specs.Map.{lookup}
use Rattle.std.specs.BTreeMap.{is_at}
use Rattle.std.specs.declared.ops.Bound.{Bound}
use Rattle.std.specs.declared.ops.Bound.TheVariants.{Unbounded, Excluded}
use Rattle.bus_types.specs.declared.change.Change.{Change}
use Rattle.bus_types.specs.declared.change.RowName.{RowName}
use Rattle.bus_types.specs.declared.row.Cursor.{Cursor}
use Rattle.bus_types.specs.declared.row.Cursor.TheVariants.{Start, After}
use Rattle.bus_types.specs.Change.{name_cmp, name_of}
use Rattle.bus_types.specs.Table.{RowList, row_after}

-- names in order, each with its row's payload, or with room for one
abbrev pub EntryList : Type 0
EntryList = List (RowName × Option (List ℕ))

-- the row of an entry, where it has one
abbrev pub row_in : RowName → Option (List ℕ) → RowList
row_in name None = []
row_in name (Some payload) = (name, payload) ∷ []

-- the rows of entries
abbrev pub rows_in : EntryList → RowList
rows_in [] = []
rows_in (e ∷ es) = row_in e.0 e.1 ++ rows_in es

-- a change's name with its payload
abbrev pub entry_of : Change → RowName × Option (List ℕ)
entry_of c = (name_of c, c.put)

-- there is an entry for a name
abbrev pub HasRoom : EntryList → RowName → Type 0
HasRoom es name = IsSome (lookup (is_at (name_cmp name)) es)

-- there is an entry for each of these names
abbrev pub HaveRoom : EntryList → EntryList → Type 0
HaveRoom es before = AllByRecursion (λ b. HasRoom es b.0) before

-- the rows when names have again what they had, the last one first
abbrev pub undone : RowList → EntryList → RowList
undone rows [] = rows
undone rows (b ∷ before) = row_after (undone rows before) b.0 b.1

-- where the entries after a cursor begin
abbrev pub bound_of : Cursor → Bound RowName
bound_of Start = Unbounded
bound_of (After source key) = Excluded (record { source = source; key = key })
