-- Lower-case hex text.
use Rattle.std.proofs.Common.{◌≡◌, ℕ, zero, suc, ◌+◌, ◌*◌, ◌/◌, ◌%◌, ◌<◌, ◌≤◌, Bool, true, not, ◌||◌, ◌==◌, nat_le, List, [], ◌∷◌, length, slice_index, Option, Some, None, unwrap_or, Result, Ok, Err, refl, sym, ◌∙◌, arith, cond, inl, inr, lit<}
use Rattle.std.specs.List.{list_all, AllByRecursion}
use Rattle.std.specs.Result.{result_ok}
use Rattle.std.proofs.lemmas.Bool.{and_parts, agree_below_at, eqb-true, leb-true, le-leb}
use Rattle.std.proofs.lemmas.Bool.Decides.{nat_tests}
use Rattle.std.proofs.lemmas.Option.{cond_some}
use Rattle.hex.specs.declared.error.FromHexError.{FromHexError}
use Rattle.hex.specs.Hex.{IsBytes, decode_of, decode_pairs, digit_or_error, encode_with, encode_lower, hex_digit_value, lower_digits, pair_value, value_at, ◌>>=◌}
use Rattle.hex.proofs.HexLemmas.{decode_of-encode_lower, decode_of-even, decode_of-ok}
use Rattle.bus_types.specs.declared.limits.TheConstants.{MAX_PAYLOAD}
use Rattle.bus_types.specs.Form.{Form}
use Rattle.trace_script.specs.Words.{is_lower_hex, payload_of}
use Rattle.bus_types.proofs.Options.{bind_some, chosen}

-- ---- digits

-- the value of a lower-case digit is its place among the digits
abbrev reads_back : ℕ → Bool
reads_back c = not (is_lower_hex c) || slice_index lower_digits (unwrap_or (hex_digit_value c) 99) == c

lower_digit : (c v : ℕ) → is_lower_hex c ≡ true → hex_digit_value c ≡ Some v → slice_index lower_digits v ≡ c
lower_digit c v lower value =
    let small : c < 103 = grind (arith, nat_tests) in
    let back : reads_back c ≡ true = agree_below_at reads_back (λ _. true) 103 c refl small in
    eqb-true (slice_index lower_digits v) c (rw (lower, value) at back)

-- ---- pairs of digits

bind_ok : {A B : Type 0} (r : Result A FromHexError) (f : A → Result B FromHexError) (y : B) → (r >>= f) ≡ Ok y → (x : A) × (r ≡ Ok x) × (f x ≡ Ok y)
bind_ok (Ok x) f y h = (x, refl, h)
bind_ok (Err e) f y h = cc h

digit_read : (c i : ℕ) (o : Option ℕ) (v : ℕ) → digit_or_error c i o ≡ Ok v → o ≡ Some v
digit_read c i (Some w) v h = cc
digit_read c i None v h = cc h

small_digit : (c v : ℕ) → hex_digit_value c ≡ Some v → v < 16
small_digit c v h = grind (arith)

-- what is written of the bytes that were read is what was read
encode-decode_pairs : (i : ℕ) (text bytes : List ℕ) → decode_pairs i text ≡ Ok bytes → list_all is_lower_hex text ≡ true → encode_lower bytes ≡ text
unfolding decode_pairs encode_with
encode-decode_pairs i [] bytes h lower =
    let e : [] ≡ bytes = cc in
    rw (← e) refl
encode-decode_pairs i (a ∷ []) bytes h lower = cc h
encode-decode_pairs i (a ∷ b ∷ rest) bytes h lower =
    let pair = bind_ok (pair_value a b i) _ bytes h in
    let high = bind_ok (value_at a i) _ pair.0 pair.1 in
    let low = bind_ok (value_at b (i + 1)) _ pair.0 high.2 in
    let more = bind_ok (decode_pairs (i + 2) rest) _ bytes pair.2 in
    let first = and_parts (is_lower_hex a) (list_all is_lower_hex (b ∷ rest)) lower in
    let second = and_parts (is_lower_hex b) (list_all is_lower_hex rest) first.1 in
    let tail = encode-decode_pairs (i + 2) rest more.0 more.1 second.1 in
    let whole : pair.0 ∷ more.0 ≡ bytes = cc (more.2) in
    let byte : high.0 * 16 + low.0 ≡ pair.0 = cc (low.2) in
    let high_value = digit_read a i (hex_digit_value a) high.0 high.1 in
    let low_value = digit_read b (i + 1) (hex_digit_value b) low.0 low.1 in
    let small = small_digit b low.0 low_value in
    let over : pair.0 / 16 ≡ high.0 = omega arith in
    let under : pair.0 % 16 ≡ low.0 = omega arith in
    rw (← whole, over, under, lower_digit a high.0 first.0 high_value, lower_digit b low.0 second.0 low_value, tail) refl

-- ---- payloads

-- as many bytes as a payload may have
abbrev pub IsPayload : List ℕ → Type 0
IsPayload bytes = (length bytes ≤ MAX_PAYLOAD) × AllByRecursion (λ b. b < 256) bytes

result_ok-some : (r : Result (List ℕ) FromHexError) (bytes : List ℕ) → result_ok r ≡ Some bytes → r ≡ Ok bytes
result_ok-some (Ok x) bytes h = cc
result_ok-some (Err e) bytes h = cc h

IsBytes-from_all : (bytes : List ℕ) → AllByRecursion (λ b. b < 256) bytes → IsBytes bytes
IsBytes-from_all [] h i = lit< tt
IsBytes-from_all (b ∷ bs) h zero = h.0
IsBytes-from_all (b ∷ bs) h (suc i) = IsBytes-from_all bs h.1 i

pub all_bytes : (bytes : List ℕ) → IsBytes bytes → AllByRecursion (λ b. b < 256) bytes
all_bytes [] h = tt
all_bytes (b ∷ bs) h = (h 0, all_bytes bs (λ i. h (suc i)))

payload_taken : (text bytes : List ℕ) → payload_of text ≡ Some bytes → IsPayload bytes × (text ≡ encode_lower bytes)
unfolding payload_of
payload_taken text bytes h =
    let read = bind_some (cond (list_all is_lower_hex text) (result_ok (decode_of text)) None) _ bytes h in
    let limit = cond_some (nat_le (length read.0) MAX_PAYLOAD) read.0 bytes read.2 in
    elim (chosen (list_all is_lower_hex text) (result_ok (decode_of text)) None (Some read.0) read.1) [
      | inl lower ↦
          let ok = result_ok-some (decode_of text) read.0 lower.1 in
          let even = decode_of-ok text read.0 ok in
          let pairs = sym (decode_of-even text even.0) ∙ ok in
          let back = encode-decode_pairs 0 text read.0 pairs lower.0 in
          rw (← limit.1) ((leb-true (length read.0) MAX_PAYLOAD limit.0, all_bytes read.0 even.3), sym back)
      | inr other ↦ cc other.1
    ]

-- digits of bytes are lower-case
lower_below : (d : ℕ) → d < 16 → is_lower_hex (slice_index lower_digits d) ≡ true
lower_below d lt = agree_below_at (λ v. is_lower_hex (slice_index lower_digits v)) (λ _. true) 16 d refl lt

all_lower-encode_lower : (bytes : List ℕ) → AllByRecursion (λ b. b < 256) bytes → list_all is_lower_hex (encode_lower bytes) ≡ true
unfolding encode_with
all_lower-encode_lower [] h = refl
all_lower-encode_lower (b ∷ bs) h =
    let small : b < 256 = h.0 in
    rw (lower_below (b / 16) (omega arith), lower_below (b % 16) (omega arith)) (all_lower-encode_lower bs h.1)

payload_again : (bytes : List ℕ) → IsPayload bytes → payload_of (encode_lower bytes) ≡ Some bytes
unfolding payload_of
payload_again bytes h =
    rw (all_lower-encode_lower bytes h.1, decode_of-encode_lower bytes (IsBytes-from_all bytes h.1), le-leb (length bytes) MAX_PAYLOAD h.0) refl

pub payload_form : Form IsPayload encode_lower payload_of is_lower_hex
payload_form = record { taken = payload_taken; again = payload_again; bytes = λ bytes h. all_lower-encode_lower bytes h.1 }
