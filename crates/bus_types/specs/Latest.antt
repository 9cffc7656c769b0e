-- The last change of each row that changes in a range of windows.
use Rattle.std.specs.Prelude.{ℕ, List, [], ◌∷◌, filter, map, Option}
use Rattle.std.specs.BTreeMap.{insert_entry}
use Rattle.bus_types.specs.declared.change.Change.{Change}
use Rattle.bus_types.specs.declared.change.RowName.{RowName}
use Rattle.bus_types.specs.declared.row.Cursor.{Cursor}
use Rattle.bus_types.specs.Change.{Test, accepted, name_cmp, name_of}
use Rattle.bus_types.specs.Window.{Span}
use Rattle.bus_types.specs.Timeline.{changes_between}
use Rattle.bus_types.specs.Rows.{is_after}

-- of each row that changes, its name and what the last change puts, in order of name
abbrev pub Latest : Type 0
Latest = List (RowName × Option (List ℕ))

abbrev pub latest_after : Latest → List Change → Latest
latest_after entries [] = entries
latest_after entries (c ∷ cs) = latest_after (insert_entry name_cmp entries (name_of c) c.put) cs

-- the last change of each accepted row that changes in the windows with low < SCN <= high, in order of name
abbrev pub last_changes : List Span → Test → ℕ → ℕ → List Change
last_changes ws test low high =
    map (λ e. record { source = e.0.source; key = e.0.key; put = e.1 }) (latest_after [] (accepted test (changes_between low high ws)))

-- those after a cursor
abbrev pub changes_after : Cursor → List Change → List Change
changes_after cursor cs = filter (λ c. is_after cursor (name_of c)) cs
