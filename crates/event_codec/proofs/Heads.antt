-- A head that is read is the one that was written, and one that was written is read again.
use Rattle.std.proofs.Common.{◌≡◌, ℕ, suc, ◌^◌, ◌<◌, ◌≤◌, Bool, true, false, cond, eqb, ltb, leb, ◌&&◌, ◌||◌, ◌⊎◌, inl, inr, List, [], ◌∷◌, ◌++◌, length, get_or, take, drop, Option, Some, None, refl, sym, ap, subst, ◌∙◌, arith}
use Rattle.std.proofs.Math.Seq.{take-add}
use Rattle.std.proofs.lemmas.Bool.{ltb-false, le-ltb, eqb-true, eqb-false, eq-eqb, ne_eqb, leb-true, le-leb, or_parts, or_cases, or_from, or_left, or_right, and_parts, and_from}
use Rattle.std.proofs.lemmas.List.{length-append}
use Rattle.std.proofs.lemmas.Nat.{from_be_bytes-to_be_bytes_2, from_be_bytes-to_be_bytes_4, from_be_bytes-to_be_bytes_8}
use Rattle.bus_types.specs.declared.limits.TheConstants.{MAX_SCN, MAX_PAYLOAD}
use Rattle.event_codec.specs.declared.head.Head.{Head}
use Rattle.event_codec.specs.Head.{spelled}
use Rattle.event_codec.specs.Reading.{number_at, is_sized, head_of, checked, head_front}
use Rattle.event_codec.proofs.Numbers.{IsBytes, spells_2, spells_4, spells_8}

-- the kind of an event, and the size of its payload
abbrev pub IsSized : ℕ → ℕ → Type 0
IsSized kind len = ((kind ≡ 1) × (len ≤ MAX_PAYLOAD)) ⊎ ((kind ≡ 2) × (len ≡ 0))

-- the numbers of a head are in their ranges
pub record IsHead (h : Head) : Type 0 where
  pub positive : 0 < h.scn
  pub scn : h.scn ≤ MAX_SCN
  pub source : h.source < 2 ^ 16
  pub key : h.key < 2 ^ 64
  pub sized : IsSized h.kind h.len

-- the choice that gave a value
pub some_else : {A : Type 0} (b : Bool) (o : Option A) (y : A) → cond b None o ≡ Some y → (b ≡ false) × (o ≡ Some y)
some_else true o y e = absurd cc
some_else false o y e = (refl, e)

some_then : {A : Type 0} (b : Bool) (x y : A) → cond b (Some x) None ≡ Some y → (b ≡ true) × (x ≡ y)
some_then true x y e = (refl, cc)
some_then false x y e = absurd cc

-- ---- what is read

sized_of : (kind len : ℕ) → is_sized kind len ≡ true → IsSized kind len
sized_of kind len e =
    elim (or_cases (eqb kind 1 && leb len MAX_PAYLOAD) (eqb kind 2 && eqb len 0) e) [
      | inl put ↦ (let p = and_parts (eqb kind 1) (leb len MAX_PAYLOAD) put in inl (eqb-true kind 1 p.0, leb-true len MAX_PAYLOAD p.1))
      | inr delete ↦ (let p = and_parts (eqb kind 2) (eqb len 0) delete in inr (eqb-true kind 2 p.0, eqb-true len 0 p.1))
    ]

-- a head that passed the tests
pub record Passed (g h : Head) : Type 0 where
  pub same : g ≡ h
  pub positive : 0 < g.scn
  pub scn : g.scn ≤ MAX_SCN
  pub sized : IsSized g.kind g.len

passed : (g h : Head) → checked g ≡ Some h → Passed g h
passed g h e =
    let a = some_else (eqb g.scn 0 || ltb MAX_SCN g.scn) (cond (is_sized g.kind g.len) (Some g) None) h e in
    let b = some_then (is_sized g.kind g.len) g h a.1 in
    let p = or_parts (eqb g.scn 0) (ltb MAX_SCN g.scn) a.0 in
    let not_zero = eqb-false g.scn 0 p.0 in
    record { same = b.1; positive = omega (arith, not_zero); scn = ltb-false MAX_SCN g.scn p.1; sized = sized_of g.kind g.len b.0 }

-- the first byte and those after it
pub first : (n : ℕ) (bytes : List ℕ) → 1 ≤ length bytes → get_or bytes 0 0 ∷ take n (drop 1 bytes) ≡ take (suc n) bytes
first n [] long = absurd (omega arith)
first n (b ∷ bytes) long = refl

fields : (bytes : List ℕ) → 23 ≤ length bytes → get_or bytes 0 0 ∷ take 2 (drop 1 bytes) ++ take 8 (drop 3 bytes) ++ take 8 (drop 11 bytes) ++ take 4 (drop 19 bytes) ≡ take 23 bytes
fields bytes long =
    ap (λ (a : List ℕ). a ++ take 8 (drop 3 bytes) ++ take 8 (drop 11 bytes) ++ take 4 (drop 19 bytes)) (first 2 bytes (omega arith))
    ∙ ap (λ (a : List ℕ). a ++ take 8 (drop 11 bytes) ++ take 4 (drop 19 bytes)) (sym (take-add 3 8 bytes))
    ∙ ap (λ (a : List ℕ). a ++ take 4 (drop 19 bytes)) (sym (take-add 11 8 bytes))
    ∙ sym (take-add 19 4 bytes)

-- the first bytes are the spelling of what they are read as
spelled_of : (bytes : List ℕ) → IsBytes bytes → 23 ≤ length bytes → take 23 bytes ≡ spelled (head_of bytes)
spelled_of bytes h long =
    let source = (spells_2 1 bytes h (omega arith)).spelled in
    let scn = (spells_8 3 bytes h (omega arith)).spelled in
    let key = (spells_8 11 bytes h (omega arith)).spelled in
    let len = (spells_4 19 bytes h (omega arith)).spelled in
    sym (fields bytes long) ∙ sym (λ i. get_or bytes 0 0 ∷ source i ++ scn i ++ key i ++ len i)

-- a head that is read is spelled so
pub record HeadTaken (bytes : List ℕ) (h : Head) : Type 0 where
  pub head : IsHead h
  pub long : 23 ≤ length bytes
  pub there : take 23 bytes ≡ spelled h

pub head_taken : (bytes : List ℕ) (h : Head) → IsBytes bytes → head_front bytes ≡ Some h → HeadTaken bytes h
unfolding head_front
head_taken bytes h fits e =
    let a = some_else (ltb (length bytes) 23) (checked (head_of bytes)) h e in
    let long : 23 ≤ length bytes = ltb-false (length bytes) 23 a.0 in
    let p = passed (head_of bytes) h a.1 in
    subst (HeadTaken bytes) p.same (record {
      head = record {
        positive = p.positive;
        scn = p.scn;
        source = (spells_2 1 bytes fits (omega arith)).below;
        key = (spells_8 11 bytes fits (omega arith)).below;
        sized = p.sized;
      };
      long = long;
      there = spelled_of bytes fits long;
    })

-- ---- what was written

is_sized_of : (kind len : ℕ) → IsSized kind len → is_sized kind len ≡ true
is_sized_of kind len (inl p) = or_left _ _ (and_from _ _ (eq-eqb kind 1 p.0) (le-leb len MAX_PAYLOAD p.1))
is_sized_of kind len (inr p) = or_right _ _ (and_from _ _ (eq-eqb kind 2 p.0) (eq-eqb len 0 p.1))

passes : (h : Head) → IsHead h → checked h ≡ Some h
passes h is =
    let scn : (eqb h.scn 0 || ltb MAX_SCN h.scn) ≡ false = or_from _ _ (ne_eqb h.scn 0 (λ e. omega (arith, is.positive, e))) (le-ltb MAX_SCN h.scn is.scn) in
    rw (scn, is_sized_of h.kind h.len is.sized) refl

head_of-spelled : (h : Head) (rest : List ℕ) → IsHead h → h.len < 2 ^ 32 → head_of (spelled h ++ rest) ≡ h
unfolding number_at
head_of-spelled h rest is short = λ i. record {
  kind = h.kind;
  source = from_be_bytes-to_be_bytes_2 h.source is.source i;
  scn = from_be_bytes-to_be_bytes_8 h.scn (omega (arith, is.scn)) i;
  key = from_be_bytes-to_be_bytes_8 h.key is.key i;
  len = from_be_bytes-to_be_bytes_4 h.len short i;
}

pub sized_short : (kind len : ℕ) → IsSized kind len → len ≤ MAX_PAYLOAD
sized_short kind len (inl p) = p.1
sized_short kind len (inr p) = omega (arith, p.1)

-- a head that was written is read again
pub head_again : (h : Head) (rest : List ℕ) → IsHead h → head_front (spelled h ++ rest) ≡ Some h
unfolding head_front
head_again h rest is =
    let long : ltb (length (spelled h ++ rest)) 23 ≡ false = le-ltb _ _ (omega (arith, length-append (spelled h) rest)) in
    let read = head_of-spelled h rest is (omega (arith, sized_short h.kind h.len is.sized)) in
    ap (λ b. cond b None (checked (head_of (spelled h ++ rest)))) long ∙ ap checked read ∙ passes h is
