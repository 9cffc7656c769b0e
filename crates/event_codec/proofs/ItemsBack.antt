-- Items that were spelled one after the other are read back.
use Rattle.std.proofs.Common.{◌≡◌, ℕ, suc, ◌<◌, ◌≤◌, List, [], ◌∷◌, ◌++◌, length, Option, Some, None, refl, sym, ap, ◌∙◌, append_assoc, arith}
use Rattle.std.specs.Prelude.{flat_map}
use Rattle.std.specs.List.{AllByRecursion}
use Rattle.event_codec.specs.Parsing.{in_front, item_and_others, read_within, read_all}

-- what is behind an item is shorter
abbrev pub Shortens : {A : Type 0} → (List ℕ → Option (A × List ℕ)) → Type 0
Shortens {A} one = (bytes rest : List ℕ) (x : A) → one bytes ≡ Some (x, rest) → length rest < length bytes

-- ---- the bound doesn't matter

none_of_nothing : {A : Type 0} (one : List ℕ → Option (A × List ℕ)) → Shortens one → (o : Option (A × List ℕ)) (bytes : List ℕ) → length bytes ≤ 0 → one bytes ≡ o → o ≡ None
none_of_nothing one shortens None bytes empty e = refl
none_of_nothing one shortens (Some x) bytes empty e = absurd (omega (arith, shortens bytes x.1 x.0 e))

nothing_within : {A : Type 0} (one : List ℕ → Option (A × List ℕ)) → Shortens one → (bound bytes : List ℕ) → length bytes ≤ 0 → read_within one bound bytes ≡ ([], bytes)
unfolding read_within
nothing_within one shortens [] bytes empty = refl
nothing_within one shortens (b ∷ bound) bytes empty = ap (item_and_others bytes (read_within one bound)) (none_of_nothing one shortens (one bytes) bytes empty refl)

same_others : {A : Type 0} (one : List ℕ → Option (A × List ℕ)) → Shortens one → (o : Option (A × List ℕ)) (bound more bytes : List ℕ) → one bytes ≡ o → length bytes ≤ suc (length bound) → length bytes ≤ suc (length more)
    → ((rest : List ℕ) → length rest ≤ length bound → length rest ≤ length more → read_within one bound rest ≡ read_within one more rest)
    → item_and_others bytes (read_within one bound) o ≡ item_and_others bytes (read_within one more) o
same_others one shortens None bound more bytes e fits fits_more others = refl
same_others one shortens (Some x) bound more bytes e fits fits_more others =
    let shorter = shortens bytes x.1 x.0 e in
    ap (in_front x.0) (others x.1 (omega (arith, shorter, fits)) (omega (arith, shorter, fits_more)))

same_within : {A : Type 0} (one : List ℕ → Option (A × List ℕ)) → Shortens one → (bound more bytes : List ℕ) → length bytes ≤ length bound → length bytes ≤ length more → read_within one bound bytes ≡ read_within one more bytes
unfolding read_within
same_within one shortens [] more bytes fits fits_more = sym (nothing_within one shortens more bytes fits)
same_within one shortens (b ∷ bound) [] bytes fits fits_more = nothing_within one shortens (b ∷ bound) bytes fits_more
same_within one shortens (b ∷ bound) (m ∷ more) bytes fits fits_more =
    same_others one shortens (one bytes) bound more bytes refl fits fits_more (λ rest short shorter. same_within one shortens bound more rest short shorter)

-- ---- a step, and the end

pub read_stop : {A : Type 0} (one : List ℕ → Option (A × List ℕ)) (bytes : List ℕ) → one bytes ≡ None → read_all one bytes ≡ ([], bytes)
unfolding read_within
read_stop one [] e = refl
read_stop one (b ∷ bytes) e = ap (item_and_others (b ∷ bytes) (read_within one bytes)) e

pub read_step : {A : Type 0} (one : List ℕ → Option (A × List ℕ)) → Shortens one → (bytes rest : List ℕ) (x : A) → one bytes ≡ Some (x, rest) → read_all one bytes ≡ in_front x (read_all one rest)
unfolding read_within
read_step one shortens [] rest x e = absurd (omega (arith, shortens [] rest x e))
read_step one shortens (b ∷ bytes) rest x e =
    let shorter = shortens (b ∷ bytes) rest x e in
    ap (item_and_others (b ∷ bytes) (read_within one bytes)) e ∙ ap (in_front x) (same_within one shortens bytes rest rest (omega (arith, shorter)) (omega arith))

left_shorter : {A : Type 0} (one : List ℕ → Option (A × List ℕ)) → Shortens one → (o : Option (A × List ℕ)) (bound bytes : List ℕ) → one bytes ≡ o → ((rest : List ℕ) → length (read_within one bound rest).1 ≤ length rest)
    → length (item_and_others bytes (read_within one bound) o).1 ≤ length bytes
left_shorter one shortens None bound bytes e others = omega arith
left_shorter one shortens (Some x) bound bytes e others = omega (arith, shortens bytes x.1 x.0 e, others x.1)

-- what is left is no longer than all
pub left_short : {A : Type 0} (one : List ℕ → Option (A × List ℕ)) → Shortens one → (bound bytes : List ℕ) → length (read_within one bound bytes).1 ≤ length bytes
unfolding read_within
left_short one shortens [] bytes = omega arith
left_short one shortens (b ∷ bound) bytes = left_shorter one shortens (one bytes) bound bytes refl (left_short one shortens bound)

-- ---- what was spelled

pub read_back : {A : Type 0} (Is : A → Type 0) (spell : A → List ℕ) (one : List ℕ → Option (A × List ℕ)) → Shortens one → ((x : A) (rest : List ℕ) → Is x → one (spell x ++ rest) ≡ Some (x, rest))
    → (xs : List A) (rest : List ℕ) → AllByRecursion Is xs → one rest ≡ None → read_all one (flat_map spell xs ++ rest) ≡ (xs, rest)
read_back Is spell one shortens back [] rest are none = read_stop one rest none
read_back Is spell one shortens back (x ∷ xs) rest are none =
    let left = flat_map spell xs ++ rest in
    let there : one (flat_map spell (x ∷ xs) ++ rest) ≡ Some (x, left) = ap one (append_assoc (spell x) (flat_map spell xs) rest) ∙ back x left are.0 in
    read_step one shortens (flat_map spell (x ∷ xs) ++ rest) left x there ∙ ap (in_front x) (read_back Is spell one shortens back xs rest are.1 none)
