-- Claims that a range holds.
use Rattle.std.specs.Prelude.{◌≡◌, ℕ, ◌-◌, min, List, [], ◌∷◌, ◌++◌, length, Option, Some, None}
use Rattle.ring_cells.specs.Entries.{Held}

-- what stands in four places that are filled from the first one on
abbrev pub joined : Option Held → Option Held → Option Held → Option Held → List Held
joined None b c d = []
joined (Some a) None c d = a ∷ []
joined (Some a) (Some b) None d = a ∷ b ∷ []
joined (Some a) (Some b) (Some c) None = a ∷ b ∷ c ∷ []
joined (Some a) (Some b) (Some c) (Some d) = a ∷ b ∷ c ∷ d ∷ []

-- they are filled from the first one on
abbrev pub InOrder : Option Held → Option Held → Option Held → Option Held → Type 0
InOrder None None None None = Unit {0}
InOrder None None None (Some d) = ⊥
InOrder None None (Some c) d = ⊥
InOrder None (Some b) c d = ⊥
InOrder (Some a) None None None = Unit {0}
InOrder (Some a) None None (Some d) = ⊥
InOrder (Some a) None (Some c) d = ⊥
InOrder (Some a) (Some b) None None = Unit {0}
InOrder (Some a) (Some b) None (Some d) = ⊥
InOrder (Some a) (Some b) (Some c) d = Unit {0}

-- lists one after the other
abbrev pub flat : List (List Held) → List Held
flat [] = []
flat (x ∷ xs) = x ++ flat xs

-- so many stand in lists of four, which are filled from the first one on
abbrev pub Filled : ℕ → List (List Held) → Type 0
Filled count [] = count ≡ 0
Filled count (x ∷ xs) = (length x ≡ min count 4) × Filled (count - 4) xs
