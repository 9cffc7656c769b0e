-- Numbers of several bytes, read and written.
use Rattle.std.proofs.Common.{◌≡◌, ℕ, ◌+◌, ◌^◌, ◌<◌, ◌≤◌, List, [], ◌∷◌, length, get_or, take, drop, refl, ap, ◌∙◌, add-zero, lit<, arith, inl, inr}
use Rattle.std.specs.Int.{Width, w16, w32, w64, byte_len, from_be_bytes, to_be_bytes}
use Rattle.std.proofs.lemmas.Bool.{cases_lt}
use Rattle.std.proofs.lemmas.List.{get_or-drop, get_or-take, get_or_past, length-take, length-drop}
use Rattle.std.proofs.lemmas.Nat.{be_bytes_2, be_bytes_4, be_bytes_8}
use Rattle.event_codec.specs.Reading.{number_at}

-- each element is a byte
abbrev pub IsBytes : List ℕ → Type 0
IsBytes bytes = (i : ℕ) → get_or bytes i 0 < 256

pub IsBytes-drop : (n : ℕ) (bytes : List ℕ) → IsBytes bytes → IsBytes (drop n bytes)
IsBytes-drop n bytes h i = rw get_or-drop (h (n + i))

pub IsBytes-take : (n : ℕ) (bytes : List ℕ) → IsBytes bytes → IsBytes (take n bytes)
IsBytes-take n bytes h i =
    elim (cases_lt i n) [
      | inl lt ↦ rw (get_or-take n bytes i 0 lt) (h i)
      | inr le ↦ rw (get_or_past (take n bytes) i 0 (omega (arith, length-take n bytes))) (omega arith)
    ]

byte_in : (n i place : ℕ) (bytes : List ℕ) → i < n → get_or (take n (drop place bytes)) i 0 ≡ get_or bytes (place + i) 0
byte_in n i place bytes lt = get_or-take n (drop place bytes) i 0 lt ∙ get_or-drop place bytes i 0

first_in : (n place : ℕ) (bytes : List ℕ) → 0 < n → get_or (take n (drop place bytes)) 0 0 ≡ get_or bytes place 0
first_in n place bytes lt = byte_in n 0 place bytes lt ∙ ap (λ p. get_or bytes p 0) (add-zero place)

-- two, four and eight bytes at a place, as one number
pub number_at_2 : (bytes : List ℕ) (place : ℕ) → from_be_bytes w16 (get_or bytes place 0 ∷ get_or bytes (place + 1) 0 ∷ []) ≡ number_at w16 place bytes
unfolding number_at
number_at_2 bytes place = rw (first_in 2 place bytes (lit< tt), byte_in 2 1 place bytes (lit< tt)) refl

pub number_at_4 : (bytes : List ℕ) (place : ℕ)
    → from_be_bytes w32 (get_or bytes place 0 ∷ get_or bytes (place + 1) 0 ∷ get_or bytes (place + 2) 0 ∷ get_or bytes (place + 3) 0 ∷ []) ≡ number_at w32 place bytes
unfolding number_at
number_at_4 bytes place =
    rw (first_in 4 place bytes (lit< tt), byte_in 4 1 place bytes (lit< tt), byte_in 4 2 place bytes (lit< tt), byte_in 4 3 place bytes (lit< tt)) refl

pub number_at_8 : (bytes : List ℕ) (place : ℕ)
    → from_be_bytes w64 (get_or bytes place 0 ∷ get_or bytes (place + 1) 0 ∷ get_or bytes (place + 2) 0 ∷ get_or bytes (place + 3) 0 ∷ get_or bytes (place + 4) 0 ∷ get_or bytes (place + 5) 0 ∷ get_or bytes (place + 6) 0 ∷ get_or bytes (place + 7) 0 ∷ [])
    ≡ number_at w64 place bytes
unfolding number_at
number_at_8 bytes place =
    rw (first_in 8 place bytes (lit< tt), byte_in 8 1 place bytes (lit< tt), byte_in 8 2 place bytes (lit< tt), byte_in 8 3 place bytes (lit< tt), byte_in 8 4 place bytes (lit< tt), byte_in 8 5 place bytes (lit< tt), byte_in 8 6 place bytes (lit< tt), byte_in 8 7 place bytes (lit< tt)) refl

pub ruleset numbers = (number_at_2, number_at_4, number_at_8)

-- a number that was read is spelled so, and is in its range
pub record Spells (w : Width) (limit place : ℕ) (bytes : List ℕ) : Type 0 where
  pub spelled : to_be_bytes w (number_at w place bytes) ≡ take (byte_len w) (drop place bytes)
  pub below : number_at w place bytes < limit

long_at : (n place : ℕ) (bytes : List ℕ) → place + n ≤ length bytes → length (take n (drop place bytes)) ≡ n
long_at n place bytes long = omega (arith, length-take n (drop place bytes), length-drop place bytes)

pub spells_2 : (place : ℕ) (bytes : List ℕ) → IsBytes bytes → place + 2 ≤ length bytes → Spells w16 (2 ^ 16) place bytes
unfolding number_at
spells_2 place bytes h long =
    let part = take 2 (drop place bytes) in
    let fits = IsBytes-take 2 (drop place bytes) (IsBytes-drop place bytes h) in
    record { spelled = be_bytes_2 part _ (long_at 2 place bytes long) fits refl; below = omega (arith, fits 0, fits 1) }

pub spells_4 : (place : ℕ) (bytes : List ℕ) → IsBytes bytes → place + 4 ≤ length bytes → Spells w32 (2 ^ 32) place bytes
unfolding number_at
spells_4 place bytes h long =
    let part = take 4 (drop place bytes) in
    let fits = IsBytes-take 4 (drop place bytes) (IsBytes-drop place bytes h) in
    record { spelled = be_bytes_4 part _ (long_at 4 place bytes long) fits refl; below = omega (arith, fits 0, fits 1, fits 2, fits 3) }

pub spells_8 : (place : ℕ) (bytes : List ℕ) → IsBytes bytes → place + 8 ≤ length bytes → Spells w64 (2 ^ 64) place bytes
unfolding number_at
spells_8 place bytes h long =
    let part = take 8 (drop place bytes) in
    let fits = IsBytes-take 8 (drop place bytes) (IsBytes-drop place bytes h) in
    record { spelled = be_bytes_8 part _ (long_at 8 place bytes long) fits refl; below = omega (arith, fits 0, fits 1, fits 2, fits 3, fits 4, fits 5, fits 6, fits 7) }
