-- Where the last changes lead.
use Rattle.std.specs.Prelude.{◌≡◌, ℕ, true, if◌then◌else◌, List, map, None, IfSome}
use Rattle.std.specs.FinMap.{is_sorted}
use Rattle.bus_types.specs.declared.change.Change.{Change}
use Rattle.bus_types.specs.declared.change.RowName.{RowName}
use Rattle.bus_types.specs.Change.{Test, name_cmp, name_of}
use Rattle.bus_types.specs.Window.{Span}
use Rattle.bus_types.specs.Table.{table, payload_at, last_change, last_between}

-- changes in strictly rising order of name; of each row the one that is its last change in the windows with low < SCN <= high,
-- where it is accepted and changes there, and none where not
pub record AreLast (ws : List Span) (test : Test) (low high : ℕ) (changes : List Change) : Type 0 where
  pub ordered : is_sorted name_cmp (map (λ c. (name_of c, c.put)) changes) ≡ true
  pub each : (name : RowName) → last_change name changes ≡ (if test name.source name.key then last_between ws name low high else None)

-- each of them puts what the table at an SCN has of its row, or deletes it where the table has no such row
abbrev pub LeadTo : List Span → ℕ → List Change → Type 0
LeadTo ws high changes = (name : RowName) → IfSome (last_change name changes) (λ c. c.put ≡ payload_at (table ws high) name)
