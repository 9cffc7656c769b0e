-- The header that says how long a body is.
use Rattle.std.proofs.Common.{◌≡◌, ℕ, ◌+◌, ◌-◌, ◌<◌, true, List, ◌∷◌, length, map, take, drop, get_or, Some, refl, sym, ap, ◌∙◌, add-one, drop-cons}
use Rattle.std.proofs.lemmas.List.{take_rest}
use Rattle.bus_http.specs.Answers.{says_length, first_length}

front_header : {H : Type 0} (hs : List H) (i : ℕ) (d : H) → i < length hs → drop i hs ≡ get_or hs i d ∷ drop (i + 1) hs
front_header hs i d lt = rw (add-one, drop-cons hs i d) refl

found_front : (h : List ℕ × List ℕ) (hs : List (List ℕ × List ℕ)) (value : List ℕ) → says_length h ≡ true → value ≡ h.1 → Some (value, hs) ≡ first_length (h ∷ hs)
found_front h hs value says is = rw (says, is) refl

-- the first of some headers says it
pub first_at : {H : Type 0} (f : H → List ℕ × List ℕ) (hs : List H) (i : ℕ) (d : H) (value : List ℕ) → i < length hs → says_length (f (get_or hs i d)) ≡ true → value ≡ (f (get_or hs i d)).1
    → first_length (map f hs) ≡ first_length (map f (drop i hs)) → Some (value, map f (take (length hs - (i + 1)) (drop (i + 1) hs))) ≡ first_length (map f hs)
first_at f hs i d value lt says is same =
    let front : first_length (map f (drop i hs)) ≡ first_length (map f (get_or hs i d ∷ drop (i + 1) hs)) = ap (λ l. first_length (map f l)) (front_header hs i d lt) in
    let rest : take (length hs - (i + 1)) (drop (i + 1) hs) ≡ drop (i + 1) hs = take_rest hs (i + 1) in
    ap (λ l. Some (value, map f l)) rest ∙ found_front (f (get_or hs i d)) (map f (drop (i + 1) hs)) value says is ∙ sym front ∙ sym same
