-- Texts of several values, with one byte between two.
use Rattle.std.specs.Prelude.{ℕ, ◌==◌, List, [], ◌∷◌, map, Option, Some}
use Rattle.std.specs.List.{slice_split, join_with_byte}
use Rattle.bus_types.specs.Text.{◌>>=◌}

-- the values that texts spell, each text alone
unfoldable pub each_of : {X : Type 0} → (List ℕ → Option X) → List (List ℕ) → Option (List X)
each_of read [] = Some []
each_of read (text ∷ texts) = do
  x ← read text
  xs ← each_of read texts
  Some (x ∷ xs)

-- the values that a text spells, with the byte between two
abbrev pub listed_by : {X : Type 0} → ℕ → (List ℕ → Option X) → List ℕ → Option (List X)
listed_by byte read text = each_of read (slice_split (λ b. b == byte) text)

-- the text of values, with the byte between two
abbrev pub list_text : {X : Type 0} → ℕ → (X → List ℕ) → List X → List ℕ
list_text byte spell xs = join_with_byte byte (map spell xs)
