-- Texts that are appended with one byte between two.
use Rattle.std.proofs.Common.{◌≡◌, ℕ, ◌-◌, ◌≤◌, List, [], ◌∷◌, ◌++◌, length, get_or, take, drop, map, Result, ap, ◌∙◌, append_assoc, append-nil, arith}
use Rattle.std.specs.Prelude.{flat_map, OnOk}
use Rattle.std.specs.List.{join_with_byte}
use Rattle.std.proofs.lemmas.List.{take_rest}
use Rattle.std.proofs.lemmas.Result.{on_ok_weaker}

-- a text and more texts, each with the byte before it, are the joined texts
joined : {X : Type 0} (byte : ℕ) (text : X → List ℕ) (x : X) (xs : List X) → text x ++ flat_map (λ y. byte ∷ text y) xs ≡ join_with_byte byte (map text (x ∷ xs))
joined byte text x [] = append-nil (text x)
joined byte text x (y ∷ ys) = ap (λ (l : List ℕ). text x ++ byte ∷ l) (joined byte text y ys)

-- the text of the first of them and of those behind it, appended one after another
pub joined-after : {X T E : Type 0} (r : Result T E) (byte : ℕ) (text : X → List ℕ) (all : List X) (x d : X) (old mid new : List ℕ) → 1 ≤ length all → x ≡ get_or all 0 d → mid ≡ old ++ text x
    → OnOk r (new ≡ mid ++ flat_map (λ y. byte ∷ text y) (take (length all - 1) (drop 1 all))) → OnOk r (new ≡ old ++ join_with_byte byte (map text all))
joined-after r byte text [] x d old mid new some first front h = absurd (omega arith)
joined-after r byte text (y ∷ ys) x d old mid new some first front h =
    let rest : take (length (y ∷ ys) - 1) (drop 1 (y ∷ ys)) ≡ ys = take_rest (y ∷ ys) 1 in
    on_ok_weaker r
    (λ (k : new ≡ mid ++ flat_map (λ z. byte ∷ text z) (take (length (y ∷ ys) - 1) (drop 1 (y ∷ ys)))).
    k ∙ rw (rest, front, first) (append_assoc old (text y) (flat_map (λ z. byte ∷ text z) ys) ∙ ap (λ (l : List ℕ). old ++ l) (joined byte text y ys)))
    h
