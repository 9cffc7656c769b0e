-- What a ring keeps, and how it makes room.
use Rattle.std.specs.Prelude.{◌≡◌, ℕ, ◌+◌, ◌%◌, ◌==◌, true, if◌then◌else◌, List, [], ◌∷◌, ◌++◌, take, drop}
use Rattle.bus_types.specs.Window.{Span}
use Rattle.bus_types.specs.Timeline.{end_from}
use Rattle.bus_types.specs.Relay.{Room, sizes, has_room, surplus}

-- bytes, and how many there may be
pub record Bytes : Type 0 where
  pub bytes : List ℕ
  pub room : ℕ

-- windows, the SCN of the window before them, or 0, and the room for them
pub record Holds : Type 0 where
  pub room : Room
  pub floor : ℕ
  pub windows : List Span

-- the entry of a window: every sixteenth has one
abbrev pub entry_of : ℕ → ℕ → List (ℕ × ℕ)
entry_of number scn = if number % 16 == 0 then (scn, number) ∷ [] else []

abbrev pub dropped : ℕ → ℕ
dropped number = if number % 16 == 0 then 1 else 0

-- the entries of windows, of which the first has this number and follows this SCN
abbrev pub entries_of : ℕ → ℕ → List Span → List (ℕ × ℕ)
entries_of number scn [] = []
entries_of number scn (w ∷ ws) = entry_of number scn ++ entries_of (number + 1) w.scn ws

-- the fewest oldest windows are evicted that leave room for one more
pub record MakesRoom (old new : Holds) (w : Span) : Type 0 where
  pub room : new.room ≡ old.room
  pub kept : new.windows ++ w ∷ [] ≡ drop (surplus old.room (sizes (old.windows ++ w ∷ []))) (old.windows ++ w ∷ [])
  pub floor : new.floor ≡ end_from old.floor (take (surplus old.room (sizes (old.windows ++ w ∷ []))) (old.windows ++ w ∷ []))
  pub roomy : has_room old.room (sizes (new.windows ++ w ∷ [])) ≡ true
  pub end : end_from new.floor new.windows ≡ end_from old.floor old.windows
