-- Whether a search finds a byte.
use Rattle.std.proofs.Common.{◌≡◌, ℕ, zero, suc, ◌<◌, ◌==◌, Bool, true, false, List, [], ◌∷◌, length, slice_index, Option, None, Some, is_some, refl, sym, arith}
use Rattle.std.specs.List.{list_any}
use Rattle.std.proofs.lemmas.List.Folds.{list_any_at}
use Rattle.memchr.specs.Find.{IsFirstByte, is_byte}

not_true : (b : Bool) → (b ≡ true → ⊥) → b ≡ false
not_true true h = absurd (h refl)
not_true false h = refl

nowhere : (a : ℕ) (bytes : List ℕ) → ((k : ℕ) → k < length bytes → (slice_index bytes k == a) ≡ true → ⊥) → list_any (λ b. b == a) bytes ≡ false
nowhere a [] h = refl
nowhere a (b ∷ bs) h = rw (not_true (b == a) (h 0 (omega arith))) (nowhere a bs (λ k lt is. h (suc k) (omega (arith, lt)) is))

-- a search answers a place exactly where the byte stands
pub is_there : (a : ℕ) (bytes : List ℕ) (found : Option ℕ) → IsFirstByte (is_byte a) bytes found → is_some found ≡ list_any (λ b. b == a) bytes
is_there a bytes (Some k) h = sym (list_any_at (λ b. b == a) bytes k 0 h.0.high h.1)
is_there a bytes None h = sym (nowhere a bytes (λ k lt is. h k (omega arith) lt is))
