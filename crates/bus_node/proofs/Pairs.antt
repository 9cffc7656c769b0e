-- Words two by two.
use Rattle.std.proofs.Common.{◌≡◌, ℕ, ◌<◌, ◌≤◌, ◌&&◌, not, eqb, Bool, true, false, List, [], ◌∷◌, length, get_or, drop, map, None, refl, arith}
use Rattle.std.specs.Str.{bytes_eq}
use Rattle.std.proofs.lemmas.List.{length-map}
use Rattle.std.proofs.lemmas.List.Folds.{list_all-map}
use Rattle.bus_node.specs.Words.{in_pairs, values_of, option_word, is_plain_value}

-- the first two and the others
pub two_and_more : {A B : Type 0} (f : A → B) (xs : List A) (d e : A) → 2 ≤ length xs → map f xs ≡ f (get_or xs 0 d) ∷ f (get_or xs 1 e) ∷ map f (drop 2 xs)
two_and_more f [] d e h = absurd (omega (arith, h))
two_and_more f (x ∷ []) d e h = absurd (omega (arith, h))
two_and_more f (x ∷ y ∷ xs) d e h = refl

-- the first and the others
pub one_and_more : {A B : Type 0} (f : A → B) (xs : List A) (d : A) → 1 ≤ length xs → map f xs ≡ f (get_or xs 0 d) ∷ map f (drop 1 xs)
one_and_more f [] d h = absurd (omega (arith, h))
one_and_more f (x ∷ xs) d h = refl

-- fewer than two are no option
pub no_value : {A : Type 0} (f : A → List ℕ) (name : List ℕ) (xs : List A) → length xs < 2 → values_of (in_pairs (map f xs)) name ≡ None
no_value f name [] h = refl
no_value f name (x ∷ []) h = refl
no_value f name (x ∷ y ∷ xs) h = absurd (omega (arith, h))

pub ruleset pairs = (two_and_more)

pub ruleset values = (no_value)

pub ruleset sizes = (length-map, list_all-map)

-- a word is an option's where it has two hyphens and the name behind them
pub two_hyphens : (word name : List ℕ) (d e : ℕ) → 2 ≤ length word
    → bytes_eq word (option_word name) ≡ (eqb (get_or word 0 d) 45 && (eqb (get_or word 1 e) 45 && bytes_eq (drop 2 word) name))
two_hyphens [] name d e h = absurd (omega (arith, h))
two_hyphens (x ∷ []) name d e h = absurd (omega (arith, h))
two_hyphens (x ∷ y ∷ word) name d e h = refl

pub short_word : (word name : List ℕ) → length word < 2 → bytes_eq word (option_word name) ≡ false
short_word [] name h = refl
short_word (x ∷ []) name h = and_false (eqb x 45)
  where
    and_false : (t : Bool) → (t && false) ≡ false
    and_false true = refl
    and_false false = refl
short_word (x ∷ y ∷ word) name h = absurd (omega (arith, h))

-- a value by its first byte
pub first_byte : (value : List ℕ) (d : ℕ) → 1 ≤ length value → is_plain_value value ≡ not (eqb (get_or value 0 d) 45)
first_byte [] d h = absurd (omega (arith, h))
first_byte (b ∷ bs) d h = refl

pub no_byte : (value : List ℕ) → length value < 1 → is_plain_value value ≡ true
no_byte [] h = refl
no_byte (b ∷ bs) h = absurd (omega (arith, h))

pub ruleset hyphens = (two_hyphens, short_word, first_byte, no_byte)

pub ruleset firsts = (one_and_more)
