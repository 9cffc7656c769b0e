-- The end of a head, byte by byte.
use Rattle.std.proofs.Common.{◌≡◌, ℕ, ◌+◌, ◌<◌, true, false, List, ◌∷◌, ◌++◌, length, drop, get_or, Some, refl, ap, add-one, drop-cons, arith}
use Rattle.bus_http.specs.declared.ending.Seen.{Seen}
use Rattle.bus_http.specs.Ending.{seen_after, ends_with, end_after}

-- one byte at the front
front_byte : (bytes : List ℕ) (i : ℕ) → i < length bytes → drop i bytes ≡ get_or bytes i 0 ∷ drop (i + 1) bytes
front_byte bytes i lt = rw (add-one, drop-cons bytes i 0) refl

-- a byte at which the head doesn't end
pub moves_on : (place i : ℕ) (seen : Seen) (bytes : List ℕ) → i < length bytes → ends_with seen (get_or bytes i 0) ≡ false → (rest : List ℕ)
    → end_after (place + i) seen (drop i bytes ++ rest) ≡ end_after (place + (i + 1)) (seen_after seen (get_or bytes i 0)) (drop (i + 1) bytes ++ rest)
moves_on place i seen bytes lt not rest = rw (front_byte bytes i lt, not) (ap (λ n. end_after n (seen_after seen (get_or bytes i 0)) (drop (i + 1) bytes ++ rest)) (omega arith))

-- a byte at which it does
pub ends_here : (place i : ℕ) (seen : Seen) (bytes : List ℕ) → i < length bytes → ends_with seen (get_or bytes i 0) ≡ true → (rest : List ℕ)
    → end_after (place + i) seen (drop i bytes ++ rest) ≡ Some (place + i + 1)
ends_here place i seen bytes lt ends rest = rw (front_byte bytes i lt, ends) refl
