-- Words, and texts of words with one space between two.
use Rattle.std.proofs.Common.{◌≡◌, ℕ, ◌^◌, ◌<◌, ◌≤◌, Bool, true, false, ◌&&◌, ◌==◌, nat_le, List, [], ◌∷◌, length, codes, Some, None, refl, arith}
use Rattle.std.specs.Prelude.{decimal}
use Rattle.std.specs.List.{list_all, list_any, AllByRecursion, join_with_byte}
use Rattle.std.proofs.lemmas.Bool.{and_parts, or_right, ne_eqb, leb-true, le-leb}
use Rattle.std.proofs.lemmas.Bool.Decides.{nat_tests}
use Rattle.std.proofs.lemmas.Fmt.{decimal_nonempty}
use Rattle.std.proofs.lemmas.Option.{cond_some}
use Rattle.bus_types.specs.Text.{is_digit}
use Rattle.bus_types.proofs.Cuts.{Lacks, Lacks-from_test}
use Rattle.bus_types.proofs.Numbers.{all_digits-decimal}
use Rattle.bus_types.specs.Form.{Form}
use Rattle.bus_types.proofs.Tests.{list_all-weaker, list_all-join, each_weaker}
use Rattle.bus_types.proofs.Combinators.{number_form, where_form, same_form, by_name}
use Rattle.bus_types.proofs.ListForms.{split_again}
use Rattle.trace_script.specs.Words.{words_of, number_in, name_of, is_word_byte, is_line_byte, is_name_byte, is_name_text}
use Rattle.trace_script.specs.Lines.{when_of}
use Rattle.trace_script.specs.Spelling.{IsName, when_text}

-- at least one byte, and only bytes that words have
abbrev pub IsWord : List ℕ → Type 0
IsWord word = (0 < length word) × (list_all is_word_byte word ≡ true)

-- ---- texts of words

pub words_again : (word : List ℕ) (words : List (List ℕ)) → AllByRecursion IsWord (word ∷ words) → words_of (join_with_byte 32 (word ∷ words)) ≡ word ∷ words
words_again word words h = split_again 32 word words (each_weaker IsWord (Lacks 32) (λ w k. Lacks-from_test is_word_byte 32 w refl k.1) (word ∷ words) h)

pub line_bytes : (words : List (List ℕ)) → AllByRecursion IsWord words → list_all is_line_byte (join_with_byte 32 words) ≡ true
line_bytes words h =
    list_all-join is_line_byte 32 words refl
    (each_weaker IsWord (λ w. list_all is_line_byte w ≡ true) (λ w k. list_all-weaker is_word_byte is_line_byte (λ b. or_right (b == 32) (is_word_byte b)) w k.1) words h)

-- none of the bytes is a CR
no_return_byte : (b : ℕ) → is_line_byte b ≡ true → (b == 13) ≡ false
no_return_byte b h = grind (arith, nat_tests)

no_return_there : (text : List ℕ) → list_all is_line_byte text ≡ true → list_any (λ b. b == 13) text ≡ false
no_return_there [] h = refl
no_return_there (b ∷ bs) h =
    let parts = and_parts (is_line_byte b) (list_all is_line_byte bs) h in
    rw (no_return_byte b parts.0) (no_return_there bs parts.1)

pub no_return : (words : List (List ℕ)) → AllByRecursion IsWord words → list_any (λ b. b == 13) (join_with_byte 32 words) ≡ false
no_return words h = no_return_there (join_with_byte 32 words) (line_bytes words h)

-- none of the words is empty
pub none_empty : (words : List (List ℕ)) → AllByRecursion IsWord words → list_any (λ word. length word == 0) words ≡ false
none_empty [] h = refl
none_empty (word ∷ words) h = rw (ne_eqb (length word) 0 (λ e. omega (arith, h.0.0))) (none_empty words h.1)

-- ---- words

pub digit_in_word : (b : ℕ) → is_digit b ≡ true → is_word_byte b ≡ true
digit_in_word b h = grind (arith, nat_tests)

name_byte_in_word : (b : ℕ) → is_name_byte b ≡ true → is_word_byte b ≡ true
name_byte_in_word b h = grind (arith, nat_tests)

pub number_in_form : (min max : ℕ) → max < 2 ^ 64 → Form (λ n. (min ≤ n) × (n ≤ max)) decimal (number_in min max) is_digit
unfolding number_in
number_in_form min max fits = same_form (λ n h. (leb-true min n h.1, h.0)) (λ n h. (h.1, le-leb min n h.0)) (where_form (nat_le min) (number_form max fits))

pub IsWord-decimal : (n : ℕ) → n < 2 ^ 64 → IsWord (decimal n)
IsWord-decimal n fits = (decimal_nonempty n fits, list_all-weaker is_digit is_word_byte digit_in_word (decimal n) (all_digits-decimal n fits))

pub name_form : Form IsName (λ name. name) name_of is_name_byte
unfolding name_of
name_form = record {
  taken = λ word name h. let taken = cond_some (is_name_text word) word name h in (rw (← taken.1) taken.0, taken.1);
  again = λ name h. rw h refl;
  bytes = λ name h. (and_parts (nat_le 1 (length name) && nat_le (length name) 16) (list_all is_name_byte name) h).1;
}

pub IsWord-name : (name : List ℕ) → IsName name → IsWord name
IsWord-name name h =
    let sizes = and_parts (nat_le 1 (length name) && nat_le (length name) 16) (list_all is_name_byte name) h in
    let some = leb-true 1 (length name) (and_parts (nat_le 1 (length name)) (nat_le (length name) 16) sizes.0).0 in
    (omega arith, list_all-weaker is_name_byte is_word_byte name_byte_in_word name (name_form.bytes name h))

when_taken : (word : List ℕ) (after : Bool) → when_of word ≡ Some after → word ≡ when_text after
unfolding when_of
when_taken word after h =
    by_name (λ w. w ≡ when_text after) word (codes "before") (Some false) _ after h (λ k. let is : false ≡ after = cc k in rw (← is) refl)
    (λ other. by_name (λ w. w ≡ when_text after) word (codes "after") (Some true) None after other (λ k. let is : true ≡ after = cc k in rw (← is) refl) (λ k. cc k))

when_again : (after : Bool) → when_of (when_text after) ≡ Some after
unfolding when_of
when_again false = refl
when_again true = refl

pub IsWord-when : (after : Bool) → IsWord (when_text after)
IsWord-when false = (omega arith, refl)
IsWord-when true = (omega arith, refl)

pub when_form : Form (λ after. Unit {0}) when_text when_of is_word_byte
when_form = record { taken = λ word after h. (tt, when_taken word after h); again = λ after h. when_again after; bytes = λ after h. (IsWord-when after).1 }
