-- The front of a segment, as it is read.
use Rattle.std.proofs.Common.{◌≡◌, ◌⊎◌, inl, inr, ℕ, ◌+◌, ◌^◌, ◌<◌, ◌≤◌, List, [], ◌∷◌, ◌++◌, length, take, drop, codes, Option, Some, None, IfSome, refl, sym, ap, subst, ◌∙◌, append_assoc, length-append, length-take, length-drop, arith}
use Rattle.std.proofs.lemmas.List.{append-nil, take_at, drop_at, take-append-le, take-append-drop}
use Rattle.std.proofs.lemmas.Nat.{from_be_bytes-to_be_bytes_8, be_bytes_8}
use Rattle.std.specs.Int.{w64, from_be_bytes, to_be_bytes}
use Rattle.bus_types.specs.declared.limits.TheConstants.{MAX_SCN}
use Rattle.event_codec.proofs.Numbers.{IsBytes, IsBytes-take, IsBytes-drop}
use Rattle.log_segment.specs.declared.head.TheConstants.{TAG}
use Rattle.log_segment.specs.Image.{head_bytes}
use Rattle.log_segment.specs.Faults.{IsBadAt}
use Rattle.log_segment.specs.Heading.{IsNumber, HasFloor, Fills}
use Rattle.log_segment.specs.Looking.{ReadsOn}
use Rattle.log_segment.proofs.Records.{empty}
use Rattle.log_segment.proofs.Scannings.{told_then}
use Rattle.std.proofs.lemmas.Bool.{cases_lt}

abbrev tag : List ℕ
tag = codes "DBUSLOG1"

tag_spelled : to_be_bytes w64 TAG ≡ tag
tag_spelled = refl

-- eight bytes that are a number
number_spelled : (bytes rest : List ℕ) (n : ℕ) → IsBytes bytes → IsNumber bytes n rest → bytes ≡ to_be_bytes w64 n ++ rest
number_spelled bytes rest n fits is =
    let spelled : to_be_bytes w64 n ≡ take 8 bytes = be_bytes_8 (take 8 bytes) n (omega (arith, is.long, length-take 8 bytes)) (IsBytes-take 8 bytes fits) is.value in
    sym (take-append-drop 8 bytes) ∙ (λ i. sym spelled i ++ sym is.rest i)

-- bytes and what follows begin with another number
number_other : (bytes rest more behind : List ℕ) (n m : ℕ) → IsNumber bytes n rest → m < 2 ^ 64 → bytes ++ more ≡ to_be_bytes w64 m ++ behind → n ≡ m
number_other bytes rest more behind n m is below same =
    let front : take 8 bytes ≡ to_be_bytes w64 m = sym (take-append-le 8 bytes more is.long) ∙ ap (λ (l : List ℕ). take 8 l) same ∙ take_at (to_be_bytes w64 m) behind 8 refl in
    is.value ∙ ap (from_be_bytes w64) front ∙ from_be_bytes-to_be_bytes_8 m below

-- fewer than eight bytes begin with no number
none_whole : (bytes behind : List ℕ) (n : ℕ) → length bytes < 8 → bytes ≡ to_be_bytes w64 n ++ behind → ⊥
none_whole bytes behind n short is = omega (arith, short, ap length is, length-append (to_be_bytes w64 n) behind)

module _ (bytes rest : List ℕ) (n : ℕ) (fits : IsBytes bytes) (is : IsNumber bytes n rest) (right : n ≡ TAG) where
  tagged : bytes ≡ tag ++ rest
  tagged = number_spelled bytes rest n fits is ∙ ap (λ (k : ℕ). to_be_bytes w64 k ++ rest) right

  no_floor : (more : List ℕ) → ((floor : ℕ) (behind : List ℕ) → floor ≤ MAX_SCN → rest ++ more ≡ to_be_bytes w64 floor ++ behind → ⊥) → IsBadAt 9 (165 ∷ (bytes ++ more))
  no_floor more wrong = inr (inr (inl (record {
    rest = rest ++ more;
    parts = ap (λ (l : List ℕ). 165 ∷ (l ++ more)) tagged ∙ ap (λ (l : List ℕ). 165 ∷ l) (append_assoc tag rest more);
    wrong = wrong;
    place_is = refl;
  })))

  long : length bytes ≡ 8 + length rest
  long = omega (arith, is.long, ap length is.rest, length-drop 8 bytes)

  pub floor_short : length rest < 8 → (more : List ℕ) → (16 ≤ length bytes) ⊎ (more ≡ []) → IsBadAt 9 (165 ∷ (bytes ++ more))
  floor_short short more enough = no_floor more (λ floor behind low same. elim enough [
    | inl whole ↦ omega (arith, whole, short, long)
    | inr none ↦ none_whole rest behind floor short (sym (append-nil rest) ∙ ap (λ (l : List ℕ). rest ++ l) (sym none) ∙ same)
  ])

  module _ (behind : List ℕ) (floor : ℕ) (of : IsNumber rest floor behind) where
    pub floor_above : MAX_SCN < floor → (more : List ℕ) → (16 ≤ length bytes) ⊎ (more ≡ []) → IsBadAt 9 (165 ∷ (bytes ++ more))
    floor_above above more enough = no_floor more (λ other tail low same. omega (arith, above, low, number_other rest behind more tail floor other of (omega (arith, low)) same))

    pub floor_stands : floor ≤ MAX_SCN → HasFloor floor bytes
    unfolding head_bytes
    floor_stands low = record {
      low = low;
      rest = behind;
      parts =
          tagged ∙ ap (λ (l : List ℕ). tag ++ l) (number_spelled rest behind floor (subst IsBytes (sym is.rest) (IsBytes-drop 8 bytes fits)) of)
          ∙ sym (append_assoc tag (to_be_bytes w64 floor) behind);
    }

-- ---- the first bytes are read

abbrev Begins : List ℕ → List ℕ → Type 0
Begins bytes a = (rest : List ℕ) × (bytes ≡ a ++ rest)

module _ (end count : ℕ) (bytes a b : List ℕ) (so_far : Begins bytes a) (on : ReadsOn 0 end count bytes a b) where
  abbrev rest : List ℕ
  rest = so_far.0

  behind : drop (0 + length a) bytes ≡ rest
  behind = ap (λ (l : List ℕ). drop (0 + length a) l) so_far.1 ∙ drop_at a rest (0 + length a) (omega arith)

  more : Begins bytes b
  more =
      let piece : b ≡ a ++ take count rest = on.parts ∙ ap (λ (l : List ℕ). a ++ l) (on.given ∙ ap (λ (l : List ℕ). take count l) behind) in
      (drop count rest, so_far.1 ∙ ap (λ (l : List ℕ). a ++ l) (sym (take-append-drop count rest)) ∙ sym (append_assoc a (take count rest) (drop count rest)) ∙ ap (λ (l : List ℕ). l ++ drop count rest) (sym piece))

  filled : end ≡ length bytes → count ≡ 0 → Fills bytes b
  unfolding more
  filled is none =
      let all : length rest ≡ 0 = elim (cases_lt (0 + length a) end) [
        | inl left ↦ absurd (omega (arith, none, on.some left))
        | inr done ↦ omega (arith, done, is, ap length so_far.1, length-append a rest)
      ] in
      record { rest = drop count rest; parts = more.1; enough = inr (empty (drop count rest) (omega (arith, all, length-drop count rest))) }

begins_of : (end : ℕ) (a : List ℕ) → a ≡ [] → (o : Option (List ℕ)) → IfSome o (λ bytes. end ≡ length bytes → Begins bytes a)
begins_of end a none None = tt
begins_of end a none (Some bytes) = λ is. (bytes, ap (λ (l : List ℕ). l ++ bytes) (sym none))

module _ (seen : Option (List ℕ)) (end : ℕ) where
  pub begins_none : (a : List ℕ) → a ≡ [] → IfSome seen (λ bytes. end ≡ length bytes → Begins bytes a)
  begins_none a none = begins_of end a none seen

  module _ (now : Option (List ℕ)) (count : ℕ) (a b : List ℕ) (same : now ≡ seen) (so_far : IfSome seen (λ bytes. end ≡ length bytes → Begins bytes a)) (on : IfSome now (λ bytes. end ≤ length bytes → ReadsOn 0 end count bytes a b)) where
    pub begins_more : IfSome seen (λ bytes. end ≡ length bytes → Begins bytes b)
    begins_more = told_then seen now (λ bytes. end ≡ length bytes → Begins bytes a) (λ bytes. end ≤ length bytes → ReadsOn 0 end count bytes a b) (λ bytes. end ≡ length bytes → Begins bytes b) same
        (λ bytes p q is. more end count bytes a b (p is) (q (omega (arith, is)))) so_far on

    pub begins_all : count ≡ 0 → IfSome seen (λ bytes. end ≡ length bytes → Fills bytes b)
    begins_all none = told_then seen now (λ bytes. end ≡ length bytes → Begins bytes a) (λ bytes. end ≤ length bytes → ReadsOn 0 end count bytes a b) (λ bytes. end ≡ length bytes → Fills bytes b) same
        (λ bytes p q is. filled end count bytes a b (p is) (q (omega (arith, is))) is none) so_far on
