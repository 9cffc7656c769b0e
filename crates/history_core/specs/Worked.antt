-- Steps one after the other, for worked rows.
use Rattle.std.specs.Prelude.{List, [], ◌∷◌, ◌++◌, ℕ, Option, Some, option_map, option_and_then}
use Rattle.bus_types.specs.declared.change.Change.{Change}
use Rattle.bus_types.specs.declared.change.Key.TheVariants.{Long}
use Rattle.history_core.specs.Script.{State}
use Rattle.history_core.specs.Steps.{Step}

-- what these lines print from a state on
abbrev pub printed : State → List (State → Step) → Option (List ℕ)
printed s [] = Some []
printed s (line ∷ lines) = option_and_then (λ r. option_map (λ text. r.1 ++ text) (printed r.0 lines)) (line s)

-- a row of the first source with a payload of one byte
abbrev pub put : ℕ → Change
put key = record { source = 0; key = Long key; put = Some (170 ∷ []) }
