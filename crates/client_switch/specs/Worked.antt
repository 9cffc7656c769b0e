-- Changes and windows for worked rows.
use Rattle.std.specs.Prelude.{ℕ, List, [], ◌∷◌, Some, None}
use Rattle.bus_types.specs.declared.change.Change.{Change}
use Rattle.bus_types.specs.declared.change.Key.TheVariants.{Long}
use Rattle.bus_types.specs.Window.{Span}

-- a row of the first source with a payload of one byte
abbrev pub put : ℕ → Change
put key = record { source = 0; key = Long key; put = Some (170 ∷ []) }

-- and its deletion
abbrev pub gone : ℕ → Change
gone key = record { source = 0; key = Long key; put = None }

abbrev pub window : ℕ → ℕ → List Change → Span
window scn prev changes = record { scn = scn; prev = prev; changes = changes }
