-- One segment of a list changed.
use Rattle.std.proofs.Common.{◌≡◌, ◌∙◌, ◌+◌, ℕ, zero, suc, cond, Bool, true, false, List, [], ◌∷◌, get_or, nat_lt, Option, Some, None, sym, ap, refl, arith}
use Rattle.std.specs.Prelude.{if◌then◌else◌, slice_get, slice_set, not, option_map, IfSome}
use Rattle.std.proofs.lemmas.List.{length-set}
use Rattle.std.proofs.lemmas.Option.{same_Some, none-some, slice_get-get_or, get_or_from_slice_get}
use Rattle.std.proofs.lemmas.List.Folds.{position_or_len-set}
use Rattle.std.proofs.lemmas.List.Quantifiers.{position-Some}
use Rattle.log_disk.specs.Disk.{DiskState}
use Rattle.log_segment.specs.Segment.{SegmentParts, told, fault_count}
use Rattle.log_store.specs.Order.{numbers_in, numbers_at, is_free, free_place, used_at}
use Rattle.log_store.specs.Store.{faults_of, losses_of, windows_in, windows_at}

pub set_here : {A : Type 0} (xs : List A) (p : ℕ) (a b : A) → slice_get xs p ≡ Some b → slice_get (slice_set xs p a) p ≡ Some a
set_here [] p a b at = absurd (none-some b at)
set_here (x ∷ xs) zero a b at = refl
set_here (x ∷ xs) (suc p) a b at = set_here xs p a b at

pub set_else : {A : Type 0} (xs : List A) (p i : ℕ) (a : A) → (i ≡ p → ⊥) → slice_get (slice_set xs p a) i ≡ slice_get xs i
set_else [] p i a not = refl
set_else (x ∷ xs) zero zero a not = absurd (not refl)
set_else (x ∷ xs) zero (suc i) a not = refl
set_else (x ∷ xs) (suc p) zero a not = refl
set_else (x ∷ xs) (suc p) (suc i) a not = set_else xs p i a (λ e. not (ap suc e))

-- what an option tells, whether it was as it is told or not
pub if_told : {X : Type 0} (told : Bool) (x : X) (P : X → Type 0) → (told ≡ true → P x) → IfSome (if told then Some x else None) P
if_told true x P so = so refl
if_told false x P so = tt

pub if_same : {X : Type 0} (told : Bool) (x y : X) → (told ≡ true → x ≡ y) → (if told then Some x else None) ≡ (if told then Some y else None)
if_same true x y so = ap Some (so refl)
if_same false x y so = refl

pub if_map : {X : Type 0} (told : Bool) (f : X → X) (x y : X) → (told ≡ true → y ≡ f x) → (if told then Some y else None) ≡ option_map f (if told then Some x else None)
if_map true f x y so = ap Some (so refl)
if_map false f x y so = refl

pub set_same : {A : Type 0} (xs : List A) (p : ℕ) (a b : A) → slice_get xs p ≡ Some b → a ≡ b → slice_set xs p a ≡ xs
set_same [] p a b at same = absurd (none-some b at)
set_same (x ∷ xs) zero a b at same = ap (λ y. y ∷ xs) (same ∙ sym (same_Some x b at))
set_same (x ∷ xs) (suc p) a b at same = ap (λ ys. x ∷ ys) (set_same xs p a b at same)

module _ {D : Type 0} (state : D → DiskState) (ss : List (SegmentParts D)) (p : ℕ) (before after : SegmentParts D) (at : slice_get ss p ≡ Some before) where
  abbrev now : List (SegmentParts D)
  now = slice_set ss p after

  pub numbers_here : numbers_at now p ≡ after.numbers
  numbers_here = ap numbers_in (set_here ss p after before at)

  pub numbers_else : (i : ℕ) → (i ≡ p → ⊥) → numbers_at now i ≡ numbers_at ss i
  numbers_else i not = ap numbers_in (set_else ss p i after not)

  pub numbers_before : numbers_at ss p ≡ before.numbers
  numbers_before = ap numbers_in at

  pub windows_here : windows_at state now p ≡ windows_in state (Some after)
  windows_here = ap (windows_in state) (set_here ss p after before at)

  pub windows_others : (i : ℕ) → (i ≡ p → ⊥) → windows_at state now i ≡ windows_at state ss i
  windows_others i not = ap (windows_in state) (set_else ss p i after not)

  pub windows_before : windows_at state ss p ≡ windows_in state (Some before)
  windows_before = ap (windows_in state) at

-- ---- sums

pub faults_set : {D : Type 0} (state : D → DiskState) (ss : List (SegmentParts D)) (p : ℕ) (b a : SegmentParts D) → slice_get ss p ≡ Some b
    → faults_of state (slice_set ss p a) + fault_count (told state b) ≡ faults_of state ss + fault_count (told state a)
faults_set state [] p b a at = absurd (none-some b at)
faults_set state (s ∷ ss) zero b a at =
    let same : fault_count (told state s) ≡ fault_count (told state b) = ap (λ k. fault_count (told state k)) (same_Some s b at) in
    omega (arith, same)
faults_set state (s ∷ ss) (suc p) b a at = omega (arith, faults_set state ss p b a at)

pub losses_set : {D : Type 0} (ss : List (SegmentParts D)) (p : ℕ) (b a : SegmentParts D) → slice_get ss p ≡ Some b → losses_of (slice_set ss p a) + b.numbers.lost ≡ losses_of ss + a.numbers.lost
losses_set [] p b a at = absurd (none-some b at)
losses_set (s ∷ ss) zero b a at =
    let same : s.numbers.lost ≡ b.numbers.lost = ap (λ (k : SegmentParts _). k.numbers.lost) (same_Some s b at) in
    omega (arith, same)
losses_set (s ∷ ss) (suc p) b a at = omega (arith, losses_set ss p b a at)

-- ---- room

pub free_same : {D : Type 0} (ss : List (SegmentParts D)) (p : ℕ) (b a : SegmentParts D) → slice_get ss p ≡ Some b → a.numbers.in_use ≡ b.numbers.in_use → free_place (slice_set ss p a) ≡ free_place ss
free_same ss p b a at same =
    let found = position_or_len-set is_free ss p a b (ap not same ∙ ap is_free (sym (get_or_from_slice_get ss p b b at))) in
    λ i. cond (nat_lt (found i) (length-set ss p a i)) (Some (found i)) None

pub used_same : {D : Type 0} (ss now : List (SegmentParts D)) (place : Option ℕ) → ((i : ℕ) → (numbers_at now i).used ≡ (numbers_at ss i).used) → used_at now place ≡ used_at ss place
used_same ss now None same = refl
used_same ss now (Some i) same = ap Some (same i)

not_false : (b : Bool) → not b ≡ true → b ≡ false
not_false true e = absurd cc
not_false false e = refl

-- a place that was found free is
pub free_found : {D : Type 0} (ss : List (SegmentParts D)) (p : ℕ) → free_place ss ≡ Some p → (s : SegmentParts D) × (slice_get ss p ≡ Some s) × (s.numbers.in_use ≡ false)
free_found [] p found = absurd (none-some p found)
free_found (s ∷ ss) p found =
    let at = position-Some is_free (s ∷ ss) p s found in
    (get_or (s ∷ ss) p s, slice_get-get_or (s ∷ ss) p s at.0, not_false (get_or (s ∷ ss) p s).numbers.in_use at.1)

pub free_unused : {D : Type 0} (ss : List (SegmentParts D)) (p : ℕ) → free_place ss ≡ Some p → (numbers_at ss p).in_use ≡ false
free_unused ss p found =
    let at = free_found ss p found in
    ap (λ (o : Option (SegmentParts _)). (numbers_in o).in_use) at.1 ∙ at.2
