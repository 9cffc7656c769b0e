-- Filters and their texts as words.
use Rattle.std.proofs.Common.{◌≡◌, ℕ, ◌<◌, true, List, [], ◌∷◌, length, map, Some, Result, Ok, Err, refl, arith}
use Rattle.std.specs.Prelude.{decimal}
use Rattle.std.specs.Result.{result_ok}
use Rattle.std.specs.List.{list_all, join_with_byte}
use Rattle.std.proofs.lemmas.Bool.Decides.{nat_tests}
use Rattle.std.proofs.lemmas.Fmt.{decimal_nonempty}
use Rattle.std.proofs.lemmas.List.{length-append}
use Rattle.bus_types.specs.Form.{Form}
use Rattle.bus_types.proofs.Tests.{list_all-join}
use Rattle.bus_types.proofs.Combinators.{wider_form}
use Rattle.bus_types.proofs.ListForms.{all_texts}
use Rattle.partition_filter.specs.Selection.{Selection}
use Rattle.partition_filter.specs.Selection.Selection.{All, Rules}
use Rattle.partition_filter.specs.Spelling.{keys_text, rule_text, filter_text, IsRule, IsFilter}
use Rattle.partition_filter.specs.Grammar.{filter_of}
use Rattle.partition_filter.proofs.RuleTexts.{is_rule_byte, rule_form}
use Rattle.partition_filter.proofs.FilterTexts.{filter_taken, filter_again}
use Rattle.trace_script.specs.Words.{is_word_byte, selection_of}
use Rattle.trace_script.proofs.WordTexts.{IsWord}

ok_some : {A E : Type 0} (r : Result A E) (x : A) → result_ok r ≡ Some x → r ≡ Ok x
ok_some (Ok y) x h = cc
ok_some (Err e) x h = absurd cc

rule_byte_in_word : (b : ℕ) → is_rule_byte b ≡ true → is_word_byte b ≡ true
rule_byte_in_word b h = grind (arith, nat_tests)

filter_bytes : (filter : Selection) → IsFilter filter → list_all is_word_byte (filter_text filter) ≡ true
filter_bytes All h = refl
filter_bytes (Rules rules) h =
    list_all-join is_word_byte 59 (map rule_text rules) refl
    (all_texts IsRule rule_text (λ text. list_all is_word_byte text ≡ true) (wider_form is_word_byte rule_byte_in_word rule_form).bytes rules h.each)

pub filter_form : Form IsFilter filter_text selection_of is_word_byte
filter_form = record {
  taken = λ word filter h. filter_taken word filter (ok_some (filter_of word) filter h);
  again = λ filter h. rw (filter_again (filter_text filter) filter h refl) refl;
  bytes = filter_bytes;
}

-- ---- the text isn't empty

joined_nonempty : (byte : ℕ) (word : List ℕ) (words : List (List ℕ)) → 0 < length word → 0 < length (join_with_byte byte (word ∷ words))
joined_nonempty byte word [] some = some
joined_nonempty byte word (next ∷ words) some = omega (arith, length-append word (byte ∷ join_with_byte byte (next ∷ words)))

filter_nonempty : (filter : Selection) → IsFilter filter → 0 < length (filter_text filter)
filter_nonempty All h = omega arith
filter_nonempty (Rules []) h = absurd (omega (arith, h.some))
filter_nonempty (Rules (r ∷ rs)) h =
    let small = h.each.0.0 in
    let some = decimal_nonempty r.source (omega arith) in
    joined_nonempty 59 (rule_text r) (map rule_text rs) (omega (arith, length-append (decimal r.source) (keys_text r.keys)))

pub IsWord-filter : (filter : Selection) → IsFilter filter → IsWord (filter_text filter)
IsWord-filter filter h = (filter_nonempty filter h, filter_bytes filter h)
