-- What a read gives and a write takes.
use Rattle.std.specs.Prelude.{ℕ, ◌+◌, ◌<◌, ◌≤◌, List, length, take, Option, Some, None, Result, IfOk, MatchResult}
use Rattle.std.specs.Io.KnownBytes.{Appends, Keeps}

-- a write takes at least one byte where there is one
abbrev pub TakesSome : {E : Type 0} → Result ℕ E → List ℕ → Type 0
TakesSome result bytes = 0 < length bytes → IfOk result (λ n. 0 < n)

-- a read adds what it placed in the buffer to what was given, and nothing where it failed
abbrev pub ReadGives : {E : Type 0} → Option (List ℕ) → Option (List ℕ) → Result ℕ E → List ℕ → Type 0
ReadGives old new result buffer = MatchResult result (λ n. Appends old new (take n buffer)) (λ _. Keeps old new)

-- of the room that is told, no more is gone than so many bytes took
abbrev pub RoomLeft : Option ℕ → Option ℕ → ℕ → Type 0
RoomLeft None new taken = Unit {0}
RoomLeft (Some n) None taken = ⊥
RoomLeft (Some n) (Some m) taken = n ≤ m + taken
