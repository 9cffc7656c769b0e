-- The last changes so far that can stand in a chunk.
use Rattle.std.specs.Prelude.{ℕ, if◌then◌else◌, List, [], ◌∷◌, take, map, Option}
use Rattle.std.specs.BTreeMap.{insert_entry}
use Rattle.bus_types.specs.declared.change.Change.{Change}
use Rattle.bus_types.specs.declared.change.RowName.{RowName}
use Rattle.bus_types.specs.declared.row.Cursor.{Cursor}
use Rattle.bus_types.specs.Change.{Test, name_cmp, name_of}
use Rattle.bus_types.specs.Rows.{is_after}
use Rattle.bus_types.specs.Latest.{Latest}

-- an entry more, or another value of one that there is, and of all the first so many
abbrev pub kept : ℕ → Latest → RowName → Option (List ℕ) → Latest
kept most es name put = take most (insert_entry name_cmp es name put)

-- a change more, where it is accepted and its row stands behind the cursor
abbrev pub kept_with : Test → Cursor → ℕ → Latest → Change → Latest
kept_with test cursor most es c = if test c.source c.key then (if is_after cursor (name_of c) then kept most es (name_of c) c.put else es) else es

-- changes more, in order
abbrev pub kept_after : Test → Cursor → ℕ → Latest → List Change → Latest
kept_after test cursor most es [] = es
kept_after test cursor most es (c ∷ cs) = kept_after test cursor most (kept_with test cursor most es c) cs

-- entries as changes
abbrev pub changes_of : Latest → List Change
changes_of es = map (λ e. record { source = e.0.source; key = e.0.key; put = e.1 }) es
