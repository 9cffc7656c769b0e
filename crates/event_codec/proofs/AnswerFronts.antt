-- An answer that is read is the one that was written, and one that was written is read again.
use Rattle.std.proofs.Common.{◌≡◌, ℕ, ◌+◌, ◌≤◌, Bool, true, false, cond, eqb, ltb, List, ◌∷◌, ◌++◌, length, get_or, take, drop, Option, Some, None, refl, sym, ap, subst, ◌∙◌, arith}
use Rattle.std.specs.Prelude.{IfSome, IfNone}
use Rattle.std.specs.Int.{w64, to_be_bytes}
use Rattle.std.proofs.lemmas.Bool.{ltb-false, le-ltb, eqb-true}
use Rattle.std.proofs.lemmas.List.{length-append}
use Rattle.std.proofs.lemmas.Nat.{from_be_bytes-to_be_bytes_8}
use Rattle.std.proofs.lemmas.Option.{none-some}
use Rattle.bus_types.specs.declared.limits.TheConstants.{MAX_SCN}
use Rattle.event_codec.specs.declared.answer.Answer.{Answer}
use Rattle.event_codec.specs.declared.answer.Answer.TheVariants.{NotFound, Empty, TooSmall, Behind, LogGone, StartDelta, StartSnapshot, Target}
use Rattle.event_codec.specs.Bytes.{StandsAt}
use Rattle.event_codec.specs.Frames.{answer_kind, answer_number, IsAnswer, answer_bytes}
use Rattle.event_codec.specs.Reading.{number_at, answer_of, answer_front}
use Rattle.event_codec.proofs.Numbers.{IsBytes, IsBytes-drop, spells_8}
use Rattle.event_codec.proofs.Heads.{some_else, first}
use Rattle.event_codec.proofs.Places.{stands_parts}

-- ---- what is read

abbrev Is : ℕ → ℕ → Answer → Type 0
Is kind number a = (answer_kind a ≡ kind) × (answer_number a ≡ number)

one_of : (b : Bool) (k kind number : ℕ) (a : Answer) (others : Option Answer) → eqb kind k ≡ b → answer_kind a ≡ k → answer_number a ≡ number → IfSome others (Is kind number)
    → IfSome (cond b (Some a) others) (Is kind number)
one_of true k kind number a others test kind_is number_is rest = (kind_is ∙ sym (eqb-true kind k test), number_is)
one_of false k kind number a others test kind_is number_is rest = rest

-- an answer of a kind is of that kind and has the number
kinds : (kind n : ℕ) → IfSome (answer_of kind n) (Is kind n)
kinds kind n =
    one_of (eqb kind 32) 32 kind n (NotFound n) _ refl refl refl
    (one_of (eqb kind 33) 33 kind n (Empty n) _ refl refl refl
    (one_of (eqb kind 34) 34 kind n (TooSmall n) _ refl refl refl
    (one_of (eqb kind 35) 35 kind n (Behind n) _ refl refl refl
    (one_of (eqb kind 36) 36 kind n (LogGone n) _ refl refl refl
    (one_of (eqb kind 37) 37 kind n (StartDelta n) _ refl refl refl
    (one_of (eqb kind 38) 38 kind n (StartSnapshot n) _ refl refl refl
    (one_of (eqb kind 39) 39 kind n (Target n) None refl refl refl tt)))))))

-- an answer that is read is spelled so
pub record AnswerTaken (bytes : List ℕ) (a : Answer) : Type 0 where
  pub answer : IsAnswer a
  pub there : take 9 bytes ≡ answer_bytes a

pub answer_taken : (bytes : List ℕ) (a : Answer) → IsBytes bytes → answer_front bytes ≡ Some a → AnswerTaken bytes a
unfolding answer_front
answer_taken bytes a fits e =
    let kind = get_or bytes 0 0 in
    let n = number_at w64 1 bytes in
    let x = some_else (ltb (length bytes) 9) (cond (ltb MAX_SCN n) None (answer_of kind n)) a e in
    let y = some_else (ltb MAX_SCN n) (answer_of kind n) a x.1 in
    let long : 9 ≤ length bytes = ltb-false (length bytes) 9 x.0 in
    let is : Is kind n a = subst (λ (o : Option Answer). IfSome o (Is kind n)) y.1 (kinds kind n) in
    let number = sym (spells_8 1 bytes fits (omega (arith, long))).spelled ∙ ap (to_be_bytes w64) (sym is.1) in
    record {
      answer = record { number = omega (arith, is.1, ltb-false MAX_SCN n y.0) };
      there = sym (first 8 bytes (omega (arith, long))) ∙ (λ i. sym is.0 i ∷ number i);
    }

-- ---- what was written

kind_back : (a : Answer) → answer_of (answer_kind a) (answer_number a) ≡ Some a
kind_back (NotFound n) = refl
kind_back (Empty n) = refl
kind_back (TooSmall n) = refl
kind_back (Behind n) = refl
kind_back (LogGone n) = refl
kind_back (StartDelta n) = refl
kind_back (StartSnapshot n) = refl
kind_back (Target n) = refl

-- an answer that was written is read again
pub answer_again : (a : Answer) (rest : List ℕ) → IsAnswer a → answer_front (answer_bytes a ++ rest) ≡ Some a
unfolding answer_front number_at
answer_again a rest is =
    let kind = answer_kind a in
    let seen : ℕ → Option Answer = λ n. cond (ltb MAX_SCN n) None (answer_of kind n) in
    let long : ltb (length (answer_bytes a ++ rest)) 9 ≡ false = le-ltb _ _ (omega (arith, length-append (answer_bytes a) rest)) in
    ap (λ b. cond b None (seen (number_at w64 1 (answer_bytes a ++ rest)))) long
    ∙ ap seen (from_be_bytes-to_be_bytes_8 (answer_number a) (omega (arith, is.number)))
    ∙ ap (λ b. cond b None (answer_of kind (answer_number a))) (le-ltb MAX_SCN (answer_number a) is.number)
    ∙ kind_back a

-- ---- at a place

-- an answer that is read stands there
pub answer_found : (bytes : List ℕ) (place : ℕ) (seen : List ℕ) (found : Option Answer) → IsBytes bytes → seen ≡ drop place bytes → found ≡ answer_front seen
    → IfSome found (λ a. IsAnswer a × StandsAt bytes place (answer_bytes a) (place + 9))
answer_found bytes place seen None fits is read = tt
answer_found bytes place seen (Some a) fits is read =
    let t = answer_taken (drop place bytes) a (IsBytes-drop place bytes fits) (sym (read ∙ ap answer_front is)) in
    (t.answer, record { after = refl; there = t.there })

-- where none is read, none stands there
pub answer_none : (bytes : List ℕ) (place : ℕ) (seen : List ℕ) (found : Option Answer) → seen ≡ drop place bytes → found ≡ answer_front seen
    → IfNone found ((a : Answer) (next : ℕ) → IsAnswer a → StandsAt bytes place (answer_bytes a) next → ⊥)
answer_none bytes place seen None is read = λ a next is_answer stands.
    none-some a (read ∙ ap answer_front (is ∙ stands_parts bytes place (answer_bytes a) next stands) ∙ answer_again a (drop next bytes) is_answer)
answer_none bytes place seen (Some a) is read = tt
