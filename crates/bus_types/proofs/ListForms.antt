-- Forms of lists with one byte between two values.
use Rattle.std.proofs.Common.{◌≡◌, ℕ, ◌+◌, ◌≤◌, Bool, true, false, ◌==◌, ◌||◌, nat_lt, inl, inr, List, [], ◌∷◌, ◌++◌, length, take, drop, map, Option, Some, None, option_map, refl, sym, ap, ◌∙◌, append_assoc, arith}
use Rattle.std.specs.List.{list_all, AllByRecursion, slice_split, join_with_byte, position, position_or_len}
use Rattle.std.proofs.lemmas.Bool.{eq-eqb, or_right, ltb-true, ltb-false}
use Rattle.std.proofs.lemmas.List.{length-map}
use Rattle.std.proofs.lemmas.List.Elements.{All-from_get_or}
use Rattle.std.proofs.lemmas.List.Splits.{slice_split_none, slice_split_first, slice_split_at, join_with_byte-slice_split, length-slice_split}
use Rattle.std.proofs.lemmas.List.Sums.{fails_before_first}
use Rattle.bus_types.specs.Text.{◌>>=◌, cut_at}
use Rattle.bus_types.proofs.Cuts.{Lacks}
use Rattle.bus_types.proofs.Options.{bind_some, map_some, chosen}
use Rattle.bus_types.specs.Form.{Form}
use Rattle.bus_types.specs.Lists.{each_of, listed_by, list_text}
use Rattle.bus_types.proofs.Tests.{list_all-join}
use Rattle.bus_types.proofs.Combinators.{wider_form, form_lacks}

-- ---- texts

-- the texts between such bytes are those that were joined by it
pub split_again : (byte : ℕ) (text : List ℕ) (texts : List (List ℕ)) → AllByRecursion (Lacks byte) (text ∷ texts)
    → slice_split (λ b. b == byte) (join_with_byte byte (text ∷ texts)) ≡ text ∷ texts
split_again byte text [] h = slice_split_none (λ b. b == byte) text h.0
split_again byte text (next ∷ texts) h =
    slice_split_at (λ b. b == byte) text byte (join_with_byte byte (next ∷ texts)) h.0 (eq-eqb byte byte refl)
    ∙ ap (λ (rest : List (List ℕ)). text ∷ rest) (split_again byte next texts h.1)

-- texts that were split at a byte, said by their values
pub split_taken : {X : Type 0} (byte : ℕ) (spell : X → List ℕ) (text : List ℕ) (xs : List X) → slice_split (λ b. b == byte) text ≡ map spell xs
    → (text ≡ list_text byte spell xs) × (1 ≤ length xs)
split_taken byte spell text xs same =
    let parts = length-slice_split (λ b. b == byte) text in
    let count : length (slice_split (λ b. b == byte) text) ≡ length xs = rw (same, length-map) refl in
    (sym (join_with_byte-slice_split byte text) ∙ ap (join_with_byte byte) same, omega arith)

-- ---- texts that are cut at such a byte

pub map_none : {A B : Type 0} (o : Option A) (f : A → B) → option_map f o ≡ None → o ≡ None
map_none None f h = refl
map_none (Some x) f h = cc h

-- a text that was cut at a byte is its first part and the parts behind it
pub split_cut : (byte : ℕ) (text : List ℕ) (parts : List ℕ × List ℕ) → cut_at byte text ≡ Some parts → slice_split (λ b. b == byte) text ≡ parts.0 ∷ slice_split (λ b. b == byte) parts.1
split_cut byte text parts h =
    let p : ℕ → Bool = λ b. b == byte in
    let first = position_or_len p text in
    let found = map_some (position p text) (λ i. (take i text, drop (i + 1) text)) parts h in
    elim (chosen (nat_lt first (length text)) (Some first) None (Some found.0) found.1) [
      | inl within ↦
          let same : first ≡ found.0 = cc (within.1) in
          slice_split_first p text 0 (ltb-true first (length text) within.0)
          ∙ ap (λ i. take i text ∷ slice_split p (drop (i + 1) text)) same
          ∙ ap (λ (parts : List ℕ × List ℕ). parts.0 ∷ slice_split p parts.1) found.2
      | inr past ↦ cc (past.1)
    ]

-- one without the byte is its only part
pub split_uncut : (byte : ℕ) (text : List ℕ) → cut_at byte text ≡ None → slice_split (λ b. b == byte) text ≡ text ∷ []
split_uncut byte text h =
    let p : ℕ → Bool = λ b. b == byte in
    let first = position_or_len p text in
    let none = map_none (position p text) (λ i. (take i text, drop (i + 1) text)) h in
    elim (chosen (nat_lt first (length text)) (Some first) None None none) [
      | inl within ↦ cc (within.1)
      | inr past ↦
          let far = ltb-false first (length text) past.0 in
          slice_split_none p text (All-from_get_or (λ b. p b ≡ false) text 0 (λ k lt. fails_before_first p text k 0 (omega (arith, far))))
    ]

-- ---- each text alone

-- a property of each text, from one of each value
pub all_texts : {X : Type 0} (Is : X → Type 0) (spell : X → List ℕ) (P : List ℕ → Type 0) → ((x : X) → Is x → P (spell x)) → (xs : List X) → AllByRecursion Is xs
    → AllByRecursion P (map spell xs)
all_texts Is spell P each [] h = tt
all_texts Is spell P each (x ∷ xs) h = (each x h.0, all_texts Is spell P each xs h.1)

pub each_taken : {X : Type 0} {Is : X → Type 0} {spell : X → List ℕ} {read : List ℕ → Option X} {test : ℕ → Bool} → Form Is spell read test
    → (texts : List (List ℕ)) (xs : List X) → each_of read texts ≡ Some xs → AllByRecursion Is xs × (texts ≡ map spell xs)
unfolding each_of
each_taken form [] xs h =
    let none : [] ≡ xs = cc in
    rw (← none) (tt, refl)
each_taken {read = read} form (text ∷ texts) xs h =
    let first = bind_some (read text) _ xs h in
    let more = bind_some (each_of read texts) _ xs first.2 in
    let whole : first.0 ∷ more.0 ≡ xs = cc (more.2) in
    let one = form.taken text first.0 first.1 in
    let rest = each_taken form texts more.0 more.1 in
    rw (← whole) ((one.0, rest.0), cc (one.1, rest.1))

pub each_again : {X : Type 0} {Is : X → Type 0} {spell : X → List ℕ} {read : List ℕ → Option X} {test : ℕ → Bool} → Form Is spell read test
    → (xs : List X) → AllByRecursion Is xs → each_of read (map spell xs) ≡ Some xs
unfolding each_of
each_again form [] h = refl
each_again form (x ∷ xs) h = rw (form.again x h.0, each_again form xs h.1) refl

-- ---- the form

-- at least one value, each of the form
abbrev pub AreListed : {X : Type 0} → (X → Type 0) → List X → Type 0
AreListed Is xs = (1 ≤ length xs) × AllByRecursion Is xs

list_again : {X : Type 0} {Is : X → Type 0} {spell : X → List ℕ} {read : List ℕ → Option X} {test : ℕ → Bool} (byte : ℕ) → test byte ≡ false → Form Is spell read test
    → (xs : List X) → AreListed Is xs → listed_by byte read (list_text byte spell xs) ≡ Some xs
list_again byte fails form [] h =
    let some = h.0 in
    absurd (omega arith)
list_again {Is = Is} {spell = spell} byte fails form (x ∷ xs) h =
    rw (split_again byte (spell x) (map spell xs) (all_texts Is spell (Lacks byte) (form_lacks byte fails form) (x ∷ xs) h.1)) (each_again form (x ∷ xs) h.1)

pub list_form : {X : Type 0} {Is : X → Type 0} {spell : X → List ℕ} {read : List ℕ → Option X} {test : ℕ → Bool} (byte : ℕ) → test byte ≡ false → Form Is spell read test
    → Form (AreListed Is) (list_text byte spell) (listed_by byte read) (λ b. test b || b == byte)
list_form {Is = Is} {spell = spell} {test = test} byte fails form =
    let wider : ℕ → Bool = λ b. test b || b == byte in
    record {
      taken = λ text xs h.
          let each = each_taken form (slice_split (λ b. b == byte) text) xs h in
          let whole = split_taken byte spell text xs each.1 in
          ((whole.1, each.0), whole.0);
      again = list_again byte fails form;
      bytes = λ xs h.
          list_all-join wider byte (map spell xs) (or_right (test byte) (byte == byte) (eq-eqb byte byte refl))
          (all_texts Is spell (λ text. list_all wider text ≡ true) (wider_form wider (λ b k. rw k refl) form).bytes xs h.1);
    }

-- ---- what was read, before what is still to read

abbrev pub with_front : {X : Type 0} → List X → Option (List X) → Option (List X)
with_front front read = option_map (λ xs. front ++ xs) read

pub with_front-none : {X : Type 0} (read : Option (List X)) → with_front [] read ≡ read
with_front-none None = refl
with_front-none (Some xs) = refl

pub with_front-cons : {X : Type 0} (front : List X) (x : X) (read : Option (List X)) → with_front (front ++ x ∷ []) read ≡ with_front front (read >>= λ xs. Some (x ∷ xs))
with_front-cons front x None = refl
with_front-cons front x (Some xs) = rw append_assoc refl
