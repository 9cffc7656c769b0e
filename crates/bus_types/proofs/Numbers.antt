-- Numbers and their decimal text.
use Rattle.std.proofs.Common.{◌≡◌, ℕ, ◌^◌, ◌<◌, ◌≤◌, true, ◌&&◌, ◌||◌, ◌==◌, nat_lt, nat_le, inl, inr, List, [], ◌∷◌, length, get_or, slice_index, Some, refl, sym, arith, rules, lit<}
use Rattle.std.specs.Prelude.{decimal}
use Rattle.std.specs.List.{list_all}
use Rattle.std.proofs.lemmas.Bool.{and_parts, and_from, or_cases, or_right, leb-true, le-leb, ltb-true, lt-ltb, eqb-true, cases_eq}
use Rattle.std.proofs.lemmas.Fmt.{decimal-digits_value, digits_decimal, digits_value-decimal, decimal_nonempty, first_decimal, decimal_digit}
use Rattle.std.proofs.lemmas.Option.{cond_some}
use Rattle.std.proofs.lemmas.Str.Parse.{IsNumeralModel, numerals_by_fold}
use Rattle.bus_types.specs.Text.{is_digit, is_numeral, number_of, value_from}

own : IsNumeralModel (λ digits. list_all is_digit digits ≡ true) (value_from 0)
own = numerals_by_fold _ (search rules) value_from (search rules)

pub all_digits-decimal : (n : ℕ) → n < 2 ^ 64 → list_all is_digit (decimal n) ≡ true
all_digits-decimal n fits = digits_decimal own n fits

-- a leading zero stands alone
lone_zero : (bytes : List ℕ) → (length bytes == 1 || nat_lt 48 (slice_index bytes 0)) ≡ true → get_or bytes 0 0 ≡ 48 → length bytes ≡ 1
lone_zero bytes h first =
    elim (or_cases (length bytes == 1) (nat_lt 48 (slice_index bytes 0)) h) [
      | inl one ↦ eqb-true (length bytes) 1 one
      | inr above ↦ let more = ltb-true 48 (get_or bytes 0 0) above in absurd (omega arith)
    ]

pub number_taken : (max n : ℕ) (bytes : List ℕ) → max < 2 ^ 64 → number_of max bytes ≡ Some n → (bytes ≡ decimal n) × (n ≤ max)
unfolding number_of
number_taken max n bytes limit h =
    let taken = cond_some (is_numeral bytes && nat_le (value_from 0 bytes) max) (value_from 0 bytes) n h in
    let tests = and_parts (is_numeral bytes) (nat_le (value_from 0 bytes) max) taken.0 in
    let parts = and_parts (list_all is_digit bytes && nat_lt 0 (length bytes)) (length bytes == 1 || nat_lt 48 (slice_index bytes 0)) tests.0 in
    let digits = and_parts (list_all is_digit bytes) (nat_lt 0 (length bytes)) parts.0 in
    let small : value_from 0 bytes ≤ max = leb-true (value_from 0 bytes) max tests.1 in
    let text = decimal-digits_value own bytes digits.0 (ltb-true 0 (length bytes) digits.1) (lone_zero bytes parts.1) (omega arith) in
    rw (← taken.1) (sym text, small)

zero_alone : (n : ℕ) → n < 2 ^ 64 → (length (decimal n) == 1 || nat_lt 48 (slice_index (decimal n) 0)) ≡ true
zero_alone n fits =
    elim (cases_eq n 0) [
      | inl none ↦
          let one : decimal n ≡ 48 ∷ [] = rw none (decimal_digit 0 (lit< tt)) in
          rw one refl
      | inr some ↦ or_right (length (decimal n) == 1) (nat_lt 48 (slice_index (decimal n) 0)) (lt-ltb 48 (get_or (decimal n) 0 0) (first_decimal n (omega arith) fits))
    ]

pub number_again : (max n : ℕ) → max < 2 ^ 64 → n ≤ max → number_of max (decimal n) ≡ Some n
unfolding number_of
number_again max n limit le =
    let fits : n < 2 ^ 64 = omega arith in
    let value = digits_value-decimal own n fits in
    let some = lt-ltb 0 (length (decimal n)) (decimal_nonempty n fits) in
    let numeral = and_from _ _ (and_from _ _ (all_digits-decimal n fits) some) (zero_alone n fits) in
    rw (numeral, value, le-leb n max le) refl
