-- Lower-case hex digits, two for each byte.
use Rattle.std.proofs.Common.{◌≡◌, ℕ, ◌+◌, ◌*◌, ◌/◌, ◌%◌, ◌<◌, ◌≤◌, ◌-◌, Bool, true, not, ◌||◌, ◌&&◌, ◌==◌, List, [], ◌∷◌, ◌++◌, length, take, drop, take_all, get_or, Option, Some, None, is_some, unwrap_or, Ok, refl, sym, ap, subst, ◌∙◌, arith, lit<}
use Rattle.std.specs.List.{list_all}
use Rattle.std.proofs.Common.{append_assoc, append-nil, le_refl}
use Rattle.std.proofs.lemmas.Bool.{and_parts, agree_below_at, eqb-true}
use Rattle.std.proofs.lemmas.Bool.Decides.{nat_tests}
use Rattle.std.proofs.lemmas.List.{length-append}
use Rattle.hex.specs.Hex.{decode_of, decode_pairs, hex_digit_value}
use Rattle.trace_script.specs.Words.{is_lower_hex}

abbrev pub value : ℕ → ℕ
value c = c % 16 + c / 64 * 9

some_of : (o : Option ℕ) (v : ℕ) → is_some o ≡ true → unwrap_or o 99 ≡ v → o ≡ Some v
some_of (Some w) v h e = ap (λ x. Some x) e
some_of None v h e = cc h

abbrev is_valued : ℕ → Bool
is_valued c = not (is_lower_hex c) || (is_some (hex_digit_value c) && (unwrap_or (hex_digit_value c) 99 == value c))

-- the value of a digit, with no case
pub digit_value : (c : ℕ) → is_lower_hex c ≡ true → hex_digit_value c ≡ Some (value c)
digit_value c lower =
    let small : c < 103 = grind (arith, nat_tests) in
    let valued : is_valued c ≡ true = agree_below_at is_valued (λ _. true) 103 c refl small in
    let both = and_parts (is_some (hex_digit_value c)) (unwrap_or (hex_digit_value c) 99 == value c) (rw lower at valued) in
    some_of (hex_digit_value c) (value c) both.0 (eqb-true (unwrap_or (hex_digit_value c) 99) (value c) both.1)

pub small_digit : (c v : ℕ) → hex_digit_value c ≡ Some v → v < 16
small_digit c v h = grind (arith)

-- what is read of the rest, with what was read of the pairs before it, is what the digits spell
abbrev pub ReadsOn : List ℕ → List ℕ → List ℕ → Type 0
ReadsOn digits done rest = (more : List ℕ) → decode_pairs (2 * length done) rest ≡ Ok more → decode_pairs 0 digits ≡ Ok (done ++ more)

pair_step : (i a b h l : ℕ) (rest more : List ℕ) → hex_digit_value a ≡ Some h → hex_digit_value b ≡ Some l → decode_pairs (i + 2) rest ≡ Ok more → decode_pairs i (a ∷ b ∷ rest) ≡ Ok ((h * 16 + l) ∷ more)
unfolding decode_pairs
pair_step i a b h l rest more high low read = rw (high, low, read) refl

pub reads_on : (digits done new rest after : List ℕ) (a b h l : ℕ) → rest ≡ a ∷ b ∷ after → new ≡ done ++ (h * 16 + l) ∷ [] → hex_digit_value a ≡ Some h → hex_digit_value b ≡ Some l → ReadsOn digits done rest → ReadsOn digits new after
reads_on digits done new rest after a b h l front made high low before more read =
    let longer : length new ≡ length done + 1 = ap length made ∙ length-append done ((h * 16 + l) ∷ []) in
    let index : 2 * length new ≡ 2 * length done + 2 = omega (arith, longer) in
    let step = pair_step (2 * length done) a b h l after more high low (subst (λ i. decode_pairs i after ≡ Ok more) index read) in
    let whole = before ((h * 16 + l) ∷ more) (subst (λ r. decode_pairs (2 * length done) r ≡ Ok ((h * 16 + l) ∷ more)) (sym front) step) in
    whole ∙ ap (λ bytes. Ok bytes) (sym (append_assoc done ((h * 16 + l) ∷ []) more) ∙ ap (λ n. n ++ more) (sym made))

-- what stands behind the first two
abbrev pub behind_two : List ℕ → List ℕ
behind_two rest = take (length rest - 2) (drop 2 rest)

whole : (n : ℕ) (xs : List ℕ) → n ≡ length xs → take n xs ≡ xs
whole n xs e = ap (λ m. take m xs) e ∙ take_all (length xs) xs (le_refl (length xs))

two : (rest : List ℕ) → 2 ≤ length rest → rest ≡ get_or rest 0 0 ∷ get_or rest 1 0 ∷ behind_two rest
two [] h = let none : ⊥ = omega (arith, h) in absurd none
two (a ∷ []) h = let none : ⊥ = omega (arith, h) in absurd none
two (a ∷ b ∷ rest) h =
    let size : length (a ∷ b ∷ rest) - 2 ≡ length rest = omega arith in
    ap (λ l. a ∷ b ∷ l) (sym (whole (length (a ∷ b ∷ rest) - 2) rest size))

pub lower_left : (rest : List ℕ) → 2 ≤ length rest → list_all is_lower_hex rest ≡ true → list_all is_lower_hex (behind_two rest) ≡ true
lower_left rest h lower =
    let all = subst (λ l. list_all is_lower_hex l ≡ true) (two rest h) lower in
    let more = and_parts (is_lower_hex (get_or rest 0 0)) (list_all is_lower_hex (get_or rest 1 0 ∷ behind_two rest)) all in
    (and_parts (is_lower_hex (get_or rest 1 0)) (list_all is_lower_hex (behind_two rest)) more.1).1

pub even_left : (rest : List ℕ) → 2 ≤ length rest → length rest % 2 ≡ 0 → length (behind_two rest) % 2 ≡ 0
even_left rest h even =
    let size : length rest ≡ length (behind_two rest) + 2 = ap length (two rest h) ∙ omega arith in
    omega (arith, size, even)

pub room_left : (rest : List ℕ) (before now : ℕ) → 2 ≤ length rest → now ≡ before + 1 → 2 * before + length rest ≤ 48 → 2 * now + length (behind_two rest) ≤ 48
room_left rest before now h more room =
    let size : length rest ≡ length (behind_two rest) + 2 = ap length (two rest h) ∙ omega arith in
    omega (arith, size, more, room)

pub reads_left : (digits done new rest : List ℕ) (h l : ℕ) → 2 ≤ length rest → new ≡ done ++ (h * 16 + l) ∷ [] → hex_digit_value (get_or rest 0 0) ≡ Some h → hex_digit_value (get_or rest 1 0) ≡ Some l → ReadsOn digits done rest
    → ReadsOn digits new (behind_two rest)
reads_left digits done new rest h l long made high low before = reads_on digits done new rest (behind_two rest) (get_or rest 0 0) (get_or rest 1 0) h l (two rest long) made high low before

none_of : (rest : List ℕ) → length rest < 2 → length rest % 2 ≡ 0 → rest ≡ []
none_of [] short even = refl
none_of (a ∷ []) short even = let none : ⊥ = omega (arith, even) in absurd none
none_of (a ∷ b ∷ rest) short even = let none : ⊥ = omega (arith, short) in absurd none

-- nothing is left
pub reads_all : (digits done rest : List ℕ) → length digits % 2 ≡ 0 → length rest < 2 → length rest % 2 ≡ 0 → ReadsOn digits done rest → decode_of digits ≡ Ok done
unfolding decode_pairs
reads_all digits done rest even short left before =
    let read : decode_pairs 0 digits ≡ Ok (done ++ []) = before [] (rw (none_of rest short left) refl) in
    rw even (read ∙ ap (λ bytes. Ok bytes) (append-nil done))
