-- Searches in what rises.
use Rattle.std.proofs.Common.{◌≡◌, ℕ, zero, suc, ◌+◌, ◌<◌, ◌≤◌, Bool, true, false, ◌==◌, ◌&&◌, ◌||◌, nat_lt, ltb, inl, inr, List, [], ◌∷◌, length, map, get_or, Option, Some, None, Result, Ok, Err, refl, sym, ap, subst, arith}
use Rattle.std.specs.List.{list_any, AllByRecursion}
use Rattle.std.specs.List.Sorted.{IsNonDecreasingBy, IsPartitionPoint}
use Rattle.std.specs.Result.{MatchResult, is_ok}
use Rattle.std.proofs.lemmas.Bool.{and_parts, ltb-true, ltb-false, le-ltb, lt-ltb, ne_eqb, eq-eqb, cases_lt}
use Rattle.std.proofs.lemmas.Bool.Decides.{nat_tests}
use Rattle.std.proofs.lemmas.List.Elements.{All-from_get_or}
use Rattle.std.proofs.lemmas.List.Folds.{list_any_at, list_any_none}
use Rattle.partition_filter.specs.Rising.{is_above, rises}

-- ---- what rises

-- each number that rises behind one is above it
later : {X : Type 0} (n : X → ℕ) (b : ℕ) (xs : List X) (j : ℕ) (d : X) → rises (Some b) (map n xs) ≡ true → j < length xs → b < n (get_or xs j d)
later n b [] j d h lt = absurd (omega arith)
later n b (x ∷ xs) zero d h lt = ltb-true b (n x) (and_parts (nat_lt b (n x)) (rises (Some (n x)) (map n xs)) h).0
later n b (x ∷ xs) (suc j) d h lt =
    let parts = and_parts (nat_lt b (n x)) (rises (Some (n x)) (map n xs)) h in
    let first = ltb-true b (n x) parts.0 in
    let rest = later n (n x) xs j d parts.1 (omega arith) in
    omega arith

-- what rises doesn't fall
pub in_order : {X : Type 0} (n : X → ℕ) (before : Option ℕ) (xs : List X) → rises before (map n xs) ≡ true → IsNonDecreasingBy n xs
in_order n before [] h i j d le lt = absurd (omega arith)
in_order n before (x ∷ xs) h zero zero d le lt = omega arith
in_order n before (x ∷ xs) h zero (suc j) d le lt =
    let parts = and_parts (is_above before (n x)) (rises (Some (n x)) (map n xs)) h in
    let above = later n (n x) xs j d parts.1 (omega arith) in
    omega arith
in_order n before (x ∷ xs) h (suc i) zero d le lt = absurd (omega arith)
in_order n before (x ∷ xs) h (suc i) (suc j) d le lt =
    let parts = and_parts (is_above before (n x)) (rises (Some (n x)) (map n xs)) h in
    in_order n (Some (n x)) xs parts.1 i j d (omega arith) (omega arith)

-- ---- the one place of a number

-- what passes a test at a number
abbrev pub passes : {X : Type 0} → (X → ℕ) → (X → Bool) → ℕ → X → Bool
passes n t wanted x = n x == wanted && t x

-- none is at the number before those that rise
none_later : {X : Type 0} (n : X → ℕ) (t : X → Bool) (wanted b : ℕ) (xs : List X) → rises (Some b) (map n xs) ≡ true → wanted ≤ b → list_any (passes n t wanted) xs ≡ false
none_later n t wanted b [] h le = refl
none_later n t wanted b (x ∷ xs) h le =
    let parts = and_parts (nat_lt b (n x)) (rises (Some (n x)) (map n xs)) h in
    let above = ltb-true b (n x) parts.0 in
    let other = ne_eqb (n x) wanted (λ same. omega arith) in
    rw other (none_later n t wanted (n x) xs parts.1 (omega arith))

or_false : (b : Bool) → (b || false) ≡ b
or_false true = refl
or_false false = refl

shifted : (i j m n : ℕ) → j ≡ i + 1 → n ≡ m + 1 → nat_lt j n ≡ nat_lt i m
shifted i j m n e f = grind (arith, nat_tests)

-- a test at a number, where the list is parted at it, is the test at that place
pub only_there : {X : Type 0} (n : X → ℕ) (t : X → Bool) (wanted : ℕ) (before : Option ℕ) (xs : List X) (i : ℕ) (d : X) → rises before (map n xs) ≡ true
    → IsPartitionPoint (λ x. ltb (n x) wanted ≡ true) (λ x. ltb (n x) wanted ≡ false) xs i
    → list_any (passes n t wanted) xs ≡ (nat_lt i (length xs) && (n (get_or xs i d) == wanted && t (get_or xs i d)))
only_there n t wanted before [] i d h p = rw (le-ltb i 0 (omega arith)) refl
only_there n t wanted before (x ∷ xs) zero d h p =
    let parts = and_parts (is_above before (n x)) (rises (Some (n x)) (map n xs)) h in
    let le = ltb-false (n x) wanted (p.1 0 x (omega arith) (omega arith)) in
    let none = none_later n t wanted (n x) xs parts.1 le in
    let some = lt-ltb 0 (length (x ∷ xs)) (omega arith) in
    rw (none, some) (or_false (passes n t wanted x))
only_there n t wanted before (x ∷ xs) (suc i) d h p =
    let parts = and_parts (is_above before (n x)) (rises (Some (n x)) (map n xs)) h in
    let below = ltb-true (n x) wanted (p.0 0 x (omega arith) (omega arith)) in
    let other = ne_eqb (n x) wanted (λ same. omega arith) in
    let same = shifted i (suc i) (length xs) (length (x ∷ xs)) (omega arith) (omega arith) in
    rw (other, same) (only_there n t wanted (Some (n x)) xs i d parts.1
    (λ k e low high. p.0 (suc k) e (omega arith) (omega arith), λ k e low high. p.1 (suc k) e (omega arith) (omega arith)))

-- ---- numbers

map-same : (xs : List ℕ) → map (λ x. x) xs ≡ xs
map-same [] = refl
map-same (x ∷ xs) = ap (λ (l : List ℕ). x ∷ l) (map-same xs)

pub numbers_in_order : (xs : List ℕ) → rises None xs ≡ true → (i j : ℕ) → i ≤ j → j < length xs → get_or xs i 0 ≤ get_or xs j 0
numbers_in_order xs h i j le lt = in_order (λ x. x) None xs (rw (map-same xs) h) i j 0 le lt

pub found_is : (xs : List ℕ) (x : ℕ) (r : Result ℕ ℕ)
    → MatchResult r (λ i. (i < length xs) × (get_or xs i 0 ≡ x)) (λ i. (i ≤ length xs) × ((k : ℕ) → k < i → get_or xs k 0 < x) × ((k : ℕ) → i ≤ k → k < length xs → x < get_or xs k 0))
    → is_ok r ≡ list_any (λ b. b == x) xs
found_is xs x (Ok i) h = sym (list_any_at (λ b. b == x) xs i 0 h.0 (eq-eqb (get_or xs i 0) x h.1))
found_is xs x (Err i) h =
    sym (list_any_none (λ b. b == x) xs (All-from_get_or (λ b. (b == x) ≡ false) xs 0 (λ k lt. elim (cases_lt k i) [
      | inl low ↦ let below = h.1 k low in ne_eqb (get_or xs k 0) x (λ same. omega arith)
      | inr high ↦ let above = h.2 k high lt in ne_eqb (get_or xs k 0) x (λ same. omega arith)
    ])))

-- ---- each element

pub each_at : {X : Type 0} (P : X → Type 0) (xs : List X) (i : ℕ) (d : X) → AllByRecursion P xs → i < length xs → P (get_or xs i d)
each_at P [] i d h lt = absurd (omega arith)
each_at P (x ∷ xs) zero d h lt = h.0
each_at P (x ∷ xs) (suc i) d h lt = each_at P xs i d h.1 (omega arith)

-- ---- the first of what rises

-- what rises behind a number rises
pub rises_alone : (b : ℕ) (xs : List ℕ) → rises (Some b) xs ≡ true → rises None xs ≡ true
rises_alone b [] h = refl
rises_alone b (x ∷ xs) h = (and_parts (nat_lt b x) (rises (Some x) xs) h).1

-- what rises still rises behind its first
pub rises_behind : {X : Type 0} (n : X → ℕ) (all xs : List X) (x : X) → rises None (map n all) ≡ true → all ≡ x ∷ xs → rises None (map n xs) ≡ true
rises_behind n all xs x h is = rises_alone (n x) (map n xs) (subst (λ l. rises None (map n l) ≡ true) is h)

-- at the number of the first a test is the test of the first
pub only_first : {X : Type 0} (n : X → ℕ) (t : X → Bool) (wanted : ℕ) (x : X) (xs : List X) → rises None (map n (x ∷ xs)) ≡ true
    → n x ≡ wanted → t x ≡ list_any (passes n t wanted) (x ∷ xs)
only_first n t wanted x xs h same =
    let here = eq-eqb (n x) wanted same in
    let none = none_later n t wanted (n x) xs h (omega arith) in
    rw (here, none) (sym (or_false (t x)))
