-- Texts that are cut at the first byte of a kind.
use Rattle.std.proofs.Common.{◌≡◌, ℕ, ◌+◌, Bool, true, false, ◌==◌, List, [], ◌∷◌, ◌++◌, length, get_or, drop, Some, None, refl, sym, ap, append_assoc, arith}
use Rattle.std.specs.List.{list_all, position, All}
use Rattle.std.proofs.lemmas.Bool.{and_parts, eqb-true, eq-eqb, lt-ltb, le-ltb, false_from_ne_true}
use Rattle.std.proofs.lemmas.List.{drop_more, take-append-drop, get_or_append_left, get_or_at, length-append, take_at, drop_at}
use Rattle.std.proofs.lemmas.List.Elements.{All-nil, All-cons, All-get_or}
use Rattle.std.proofs.lemmas.List.Quantifiers.{position-Some}
use Rattle.std.proofs.lemmas.List.Sums.{position_or_len_is}
use Rattle.bus_types.specs.Text.{cut_at}
use Rattle.bus_types.proofs.Options.{map_some}

-- no byte is this one
abbrev pub Lacks : ℕ → List ℕ → Type 0
Lacks byte bytes = All (λ b. (b == byte) ≡ false) bytes

-- bytes that pass a test that this one doesn't pass
pub Lacks-from_test : (test : ℕ → Bool) (byte : ℕ) (bytes : List ℕ) → test byte ≡ false → list_all test bytes ≡ true → Lacks byte bytes
Lacks-from_test test byte [] fails all = All-nil (λ b. (b == byte) ≡ false)
Lacks-from_test test byte (b ∷ bs) fails all =
    let parts = and_parts (test b) (list_all test bs) all in
    All-cons (λ x. (x == byte) ≡ false) b bs
    (false_from_ne_true (b == byte) (λ same. cc (ap test (eqb-true b byte same), parts.0, fails)))
    (Lacks-from_test test byte bs fails parts.1)

pub cut_taken : (byte : ℕ) (bytes : List ℕ) (parts : List ℕ × List ℕ) → cut_at byte bytes ≡ Some parts → bytes ≡ parts.0 ++ byte ∷ parts.1
cut_taken byte bytes parts h =
    let found = map_some (position (λ b. b == byte) bytes) _ parts h in
    let place = position-Some (λ b. b == byte) bytes found.0 0 found.1 in
    let at : get_or bytes found.0 0 ≡ byte = eqb-true (get_or bytes found.0 0) byte place.1 in
    let rest = drop_more bytes found.0 0 place.0 in
    let whole = take-append-drop found.0 bytes in
    rw (← found.2) (sym (rw (rest, at) at whole))

pub cut_again : (byte : ℕ) (front rest : List ℕ) → Lacks byte front → cut_at byte (front ++ byte ∷ rest) ≡ Some (front, rest)
cut_again byte front rest lacks =
    let long = length-append front (byte ∷ rest) in
    let place = position_or_len_is (λ b. b == byte) (front ++ byte ∷ rest) (length front) 0 (omega arith)
    (λ k lt. rw (get_or_append_left front (byte ∷ rest) 0 k lt) (All-get_or (λ b. (b == byte) ≡ false) front k 0 lt lacks))
    (λ lt. eq-eqb _ _ (get_or_at front byte rest 0 (length front) refl)) in
    let within = lt-ltb (length front) (length (front ++ byte ∷ rest)) (omega arith) in
    let regroup : (front ++ byte ∷ []) ++ rest ≡ front ++ byte ∷ rest = append_assoc front (byte ∷ []) rest in
    let behind : drop (length front + 1) (front ++ byte ∷ rest) ≡ rest =
    rw (← regroup) (drop_at (front ++ byte ∷ []) rest (length front + 1) (length-append front (byte ∷ []))) in
    rw (place, within, take_at front (byte ∷ rest) (length front) refl, behind) refl

pub cut_none : (byte : ℕ) (bytes : List ℕ) → Lacks byte bytes → cut_at byte bytes ≡ None
cut_none byte bytes lacks =
    let place = position_or_len_is (λ b. b == byte) bytes (length bytes) 0 (omega arith)
    (λ k lt. All-get_or (λ b. (b == byte) ≡ false) bytes k 0 lt lacks) (λ lt. absurd (omega arith)) in
    rw (place, le-ltb (length bytes) (length bytes) (omega arith)) refl
