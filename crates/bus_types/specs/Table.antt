-- The source's table after the windows up to an SCN.
use Rattle.std.specs.Prelude.{◌≡◌, ℕ, true, if◌then◌else◌, List, [], ◌∷◌, Option, Some, None, option_and_then}
use Rattle.std.specs.Map.{lookup, remove_entry}
use Rattle.std.specs.BTreeMap.{is_at, insert_entry}
use Rattle.std.specs.FinMap.{is_sorted}
use Rattle.bus_types.specs.declared.change.Change.{Change}
use Rattle.bus_types.specs.declared.change.RowName.{RowName}
use Rattle.bus_types.specs.Change.{name_cmp, is_name, name_of}
use Rattle.bus_types.specs.Window.{Span}
use Rattle.bus_types.specs.Timeline.{changes_between}

-- rows, each a name and a payload, in order of name
abbrev pub RowList : Type 0
RowList = List (RowName × List ℕ)

-- the rows after a row was put or deleted
abbrev pub row_after : RowList → RowName → Option (List ℕ) → RowList
row_after rows name None = remove_entry (is_at (name_cmp name)) rows
row_after rows name (Some payload) = insert_entry name_cmp rows name payload

-- the rows after changes, in their order
abbrev pub rows_after : RowList → List Change → RowList
rows_after rows [] = rows
rows_after rows (c ∷ cs) = rows_after (row_after rows (name_of c) c.put) cs

-- the table after the windows up to an SCN
abbrev pub table : List Span → ℕ → RowList
table windows scn = rows_after [] (changes_between 0 scn windows)

abbrev pub payload_at : RowList → RowName → Option (List ℕ)
payload_at rows name = lookup (is_at (name_cmp name)) rows

-- the second where there is one, else the first
abbrev pub later : Option Change → Option Change → Option Change
later first None = first
later first (Some c) = Some c

-- the last change of a row among changes
abbrev pub last_change : RowName → List Change → Option Change
last_change name [] = None
last_change name (c ∷ cs) = later (if is_name name (name_of c) then Some c else None) (last_change name cs)

-- the last change of a row in the windows with low < SCN <= high
abbrev pub last_between : List Span → RowName → ℕ → ℕ → Option Change
last_between windows name low high = last_change name (changes_between low high windows)

-- what the table has of a row, said without the table: the payload of its last change, where that is a put
abbrev pub last_put : List Span → RowName → ℕ → Option (List ℕ)
last_put windows name scn = option_and_then (λ c. c.put) (last_between windows name 0 scn)

-- rows in strictly rising order of name, and each row exactly where its last change is a put, with that payload
pub record HoldsLastPuts (windows : List Span) (scn : ℕ) (rows : RowList) : Type 0 where
  pub ordered : is_sorted name_cmp rows ≡ true
  pub each : (name : RowName) → payload_at rows name ≡ last_put windows name scn
