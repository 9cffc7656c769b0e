-- Numbers in strictly rising order.
use Rattle.std.specs.Prelude.{ℕ, Bool, true, nat_lt, ◌&&◌, List, [], ◌∷◌, Option, Some, None}

-- whether a number is above the one before it, where there is one
abbrev pub is_above : Option ℕ → ℕ → Bool
is_above None number = true
is_above (Some before) number = nat_lt before number

-- whether each number is above the one before it
abbrev pub rises : Option ℕ → List ℕ → Bool
rises before [] = true
rises before (number ∷ numbers) = is_above before number && rises (Some number) numbers
