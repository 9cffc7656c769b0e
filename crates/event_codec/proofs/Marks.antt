-- A mark that is read is the one that was written, and one that was written is read again.
use Rattle.std.proofs.Common.{◌≡◌, ℕ, ◌≤◌, Bool, true, false, cond, eqb, ltb, leb, ◌||◌, List, ◌∷◌, ◌++◌, length, get_or, take, drop, Option, Some, None, refl, sym, ap, subst, ◌∙◌, arith}
use Rattle.std.proofs.Math.Seq.{take-add}
use Rattle.std.proofs.lemmas.Bool.{ltb-false, le-ltb, eqb-true, leb-false, lt-leb, or_parts, or_from}
use Rattle.std.proofs.lemmas.List.{length-append, append_cancel_left}
use Rattle.std.proofs.lemmas.Nat.{from_be_bytes-to_be_bytes_8}
use Rattle.std.proofs.lemmas.Option.{same_Some}
use Rattle.bus_types.specs.declared.limits.TheConstants.{MAX_SCN}
use Rattle.std.specs.Int.{w64}
use Rattle.event_codec.specs.Bytes.{IsMark, mark_bytes}
use Rattle.event_codec.specs.Reading.{number_at, mark_front}
use Rattle.event_codec.proofs.Numbers.{IsBytes, spells_8}
use Rattle.event_codec.proofs.Heads.{some_else, first}

some_if : {A : Type 0} (b : Bool) (o : Option A) (y : A) → cond b o None ≡ Some y → (b ≡ true) × (o ≡ Some y)
some_if true o y e = (refl, e)
some_if false o y e = absurd cc

fields : (bytes : List ℕ) → 17 ≤ length bytes → get_or bytes 0 0 ∷ take 8 (drop 1 bytes) ++ take 8 (drop 9 bytes) ≡ take 17 bytes
fields bytes long = ap (λ (a : List ℕ). a ++ take 8 (drop 9 bytes)) (first 8 bytes (omega arith)) ∙ sym (take-add 9 8 bytes)

-- a mark that is read is spelled so
pub record MarkTaken (bytes : List ℕ) (scn prev : ℕ) : Type 0 where
  pub mark : IsMark scn prev
  pub there : take 17 bytes ≡ mark_bytes scn prev

spelled_of : (bytes : List ℕ) → IsBytes bytes → 17 ≤ length bytes → get_or bytes 0 0 ≡ 3 → take 17 bytes ≡ mark_bytes (number_at w64 1 bytes) (number_at w64 9 bytes)
spelled_of bytes fits long kind =
    let scn = (spells_8 1 bytes fits (omega arith)).spelled in
    let prev = (spells_8 9 bytes fits (omega arith)).spelled in
    sym (fields bytes long) ∙ (λ i. kind i ∷ sym scn i ++ sym prev i)

pub mark_taken : (bytes : List ℕ) (scn prev : ℕ) → IsBytes bytes → mark_front bytes ≡ Some (scn, prev) → MarkTaken bytes scn prev
unfolding mark_front
mark_taken bytes scn prev fits e =
    let first = number_at w64 1 bytes in
    let second = number_at w64 9 bytes in
    let a = some_else (ltb (length bytes) 17) (cond (eqb (get_or bytes 0 0) 3) (cond (ltb MAX_SCN first || leb first second) None (Some (first, second))) None) (scn, prev) e in
    let b = some_if (eqb (get_or bytes 0 0) 3) (cond (ltb MAX_SCN first || leb first second) None (Some (first, second))) (scn, prev) a.1 in
    let d = some_else (ltb MAX_SCN first || leb first second) (Some (first, second)) (scn, prev) b.1 in
    let p = or_parts (ltb MAX_SCN first) (leb first second) d.0 in
    subst (λ (x : ℕ × ℕ). MarkTaken bytes x.0 x.1) (same_Some (first, second) (scn, prev) d.1) (record {
      mark = record { bound = ltb-false MAX_SCN first p.0; order = leb-false first second p.1 };
      there = spelled_of bytes fits (ltb-false (length bytes) 17 a.0) (eqb-true (get_or bytes 0 0) 3 b.0);
    })

numbers_again : (scn prev : ℕ) (rest : List ℕ) → IsMark scn prev → (number_at w64 1 (mark_bytes scn prev ++ rest) ≡ scn) × (number_at w64 9 (mark_bytes scn prev ++ rest) ≡ prev)
unfolding number_at
numbers_again scn prev rest is = (from_be_bytes-to_be_bytes_8 scn (omega (arith, is.bound)), from_be_bytes-to_be_bytes_8 prev (omega (arith, is.bound, is.order)))

-- a mark that was written is read again
pub mark_again : (scn prev : ℕ) (rest : List ℕ) → IsMark scn prev → mark_front (mark_bytes scn prev ++ rest) ≡ Some (scn, prev)
unfolding mark_front
mark_again scn prev rest is =
    let bytes = mark_bytes scn prev ++ rest in
    let n = numbers_again scn prev rest is in
    let long : ltb (length bytes) 17 ≡ false = le-ltb _ _ (omega (arith, length-append (mark_bytes scn prev) rest)) in
    let tests : (ltb MAX_SCN scn || leb scn prev) ≡ false = or_from _ _ (le-ltb MAX_SCN scn is.bound) (lt-leb scn prev is.order) in
    let seen : ℕ → ℕ → Option (ℕ × ℕ) = λ a b. cond (ltb MAX_SCN a || leb a b) None (Some (a, b)) in
    ap (λ b. cond b None (seen (number_at w64 1 bytes) (number_at w64 9 bytes))) long
    ∙ ap (λ a. seen a (number_at w64 9 bytes)) n.0
    ∙ ap (λ b. seen scn b) n.1
    ∙ ap (λ b. cond b None (Some (scn, prev))) tests

-- bytes begin with one mark at most
pub one_mark : (scn prev other before : ℕ) (r s : List ℕ) → IsMark scn prev → IsMark other before → mark_bytes scn prev ++ r ≡ mark_bytes other before ++ s → (scn ≡ other) × (prev ≡ before) × (r ≡ s)
one_mark scn prev other before r s is is_other same =
    let read : Some (scn, prev) ≡ Some (other, before) = sym (mark_again scn prev r is) ∙ ap mark_front same ∙ mark_again other before s is_other in
    let pair = same_Some (scn, prev) (other, before) read in
    (ap (λ (x : ℕ × ℕ). x.0) pair, ap (λ (x : ℕ × ℕ). x.1) pair, append_cancel_left (mark_bytes other before) r s (ap (λ (x : ℕ × ℕ). mark_bytes x.0 x.1 ++ r) (sym pair) ∙ same))
