-- The marks that a keeper set, of which it keeps the last one alone.
use Rattle.std.specs.Prelude.{ℕ, List, [], ◌∷◌, ◌++◌, Option, Some, None}

-- the marks that were set: the last one behind those before it, where one was set
abbrev pub marks_after : Option (List (List ℕ)) → Option (List ℕ) → List (List ℕ)
marks_after None last = []
marks_after (Some before) None = before
marks_after (Some before) (Some last) = before ++ last ∷ []
