-- Bytes that others begin with.
use Rattle.std.proofs.Common.{◌≡◌, ℕ, List, [], ◌∷◌, ◌++◌, length, take, refl, sym, ap, ◌∙◌, append_assoc, append-nil}
use Rattle.snapshot_scan.specs.Filling.{Extends}

pub extends_none : (a : List ℕ) → Extends a a
extends_none a = record { more = []; is = sym (append-nil a) }

pub extends_on : (a b c : List ℕ) → Extends a b → Extends b c → Extends a c
extends_on a b c p q = record { more = p.more ++ q.more; is = q.is ∙ ap (λ l. l ++ q.more) p.is ∙ append_assoc a p.more q.more }

front : (a more : List ℕ) → take (length a) (a ++ more) ≡ a
front [] more = refl
front (x ∷ a) more = ap (λ l. x ∷ l) (front a more)

-- what stood before stands again
pub cut_back : (a b : List ℕ) (n : ℕ) → n ≡ length a → Extends a b → take n b ≡ a
cut_back a b n e h = ap (λ m. take m b) e ∙ ap (take (length a)) h.is ∙ front a h.more
