-- What is handed back.
use Rattle.std.specs.Prelude.{ℕ, ◌+◌, List, [], ◌∷◌, ◌++◌, Option, Some, None}

-- what was handed back: the last one behind those before it, where there was one
abbrev pub list_after : {X : Type 0} → Option (List X) → Option X → List X
list_after None last = []
list_after (Some before) None = before
list_after (Some before) (Some last) = before ++ last ∷ []

-- what was handed back, and how many of the first ones are kept
pub record Shelf (X : Type 0) : Type 0 where
  pub all : List X
  pub room : ℕ

-- the sum of a count over a list
abbrev pub sum_over : {X : Type 0} → (X → ℕ) → List X → ℕ
sum_over f [] = 0
sum_over f (x ∷ xs) = f x + sum_over f xs
