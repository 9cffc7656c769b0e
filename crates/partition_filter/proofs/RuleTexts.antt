-- Rules and their text.
use Rattle.std.proofs.Common.{◌≡◌, ℕ, ◌-◌, ◌^◌, ◌<◌, ◌≤◌, Bool, true, false, ◌==◌, ◌||◌, nat_le, List, [], ◌∷◌, ◌++◌, length, Option, Some, None, refl, ap, arith, lit<}
use Rattle.std.specs.Prelude.{decimal}
use Rattle.std.specs.List.{list_all}
use Rattle.std.proofs.lemmas.Bool.{leb-true, le-leb, eqb-true}
use Rattle.std.proofs.lemmas.List.{nil_from_length}
use Rattle.std.proofs.lemmas.List.Elements.{All-nil, All-cons, All-append}
use Rattle.std.proofs.lemmas.Option.{cond_some}
use Rattle.bus_types.specs.Text.{is_digit, number_of, cut_at, max_u64}
use Rattle.bus_types.proofs.Cuts.{Lacks, Lacks-from_test, cut_taken, cut_again, cut_none}
use Rattle.bus_types.proofs.Options.{bind_some}
use Rattle.bus_types.specs.Form.{Form}
use Rattle.bus_types.proofs.Tests.{list_all-weaker, list_all-both}
use Rattle.bus_types.proofs.Combinators.{number_form, where_form, same_form, below_form, form_lacks, both, parted_again, parted_bytes}
use Rattle.partition_filter.specs.declared.rule.Keys.{Keys}
use Rattle.partition_filter.specs.declared.rule.Keys.TheVariants.{Every, Remainder, Quotient}
use Rattle.partition_filter.specs.declared.rule.Rule.{Rule}
use Rattle.partition_filter.specs.Grammar.{listed_of, divisor_of, remainder_of, quotient_of, every_of, rule_from, rule_by, rule_of}
use Rattle.partition_filter.specs.Spelling.{listed_text, keys_text, rule_text, IsListed, IsKeys, IsRule}
use Rattle.partition_filter.proofs.ListedTexts.{is_listed_byte, listed_form}

-- ---- numbers

source_form : Form (λ n. n < 2 ^ 16) decimal (number_of 65535) is_digit
source_form = below_form 65535 (2 ^ 16) refl (lit< tt)

divisor_form : (max : ℕ) → max < 2 ^ 64 → Form (λ n. (1 ≤ n) × (n ≤ max)) decimal (divisor_of max) is_digit
unfolding divisor_of
divisor_form max fits = same_form (λ n h. (leb-true 1 n h.1, h.0)) (λ n h. (h.1, le-leb 1 n h.0)) (where_form (nat_le 1) (number_form max fits))

-- what is listed behind a number that keys are divided by
remainders_form : (by : ℕ) → (1 ≤ by) × (by ≤ 65536) → Form (IsListed by) listed_text (listed_of (by - 1)) is_listed_byte
remainders_form by h =
    let some = h.0 in
    let small = h.1 in
    listed_form (by - 1) by (omega arith) (omega arith)

quotients_form : (by : ℕ) → (1 ≤ by) × (by ≤ max_u64) → Form (IsListed (2 ^ 64)) listed_text (listed_of max_u64) is_listed_byte
quotients_form by h = listed_form max_u64 (2 ^ 64) refl (lit< tt)

-- ---- keys

remainder_taken : (text : List ℕ) (keys : Keys) → remainder_of text ≡ Some keys → (37 ∷ text ≡ keys_text keys) × IsKeys keys
unfolding remainder_of
remainder_taken text keys h =
    let parts = bind_some (cut_at 58 text) _ keys h in
    let p = both (divisor_form 65536 (lit< tt)) remainders_form Remainder parts.0.0 parts.0.1 keys parts.2 in
    rw (← p.made, ← p.first_text, ← p.second_text) (ap (λ (l : List ℕ). 37 ∷ l) (cut_taken 58 text parts.0 parts.1), (p.first_is.0, p.first_is.1, p.second_is))

quotient_taken : (text : List ℕ) (keys : Keys) → quotient_of text ≡ Some keys → (47 ∷ text ≡ keys_text keys) × IsKeys keys
unfolding quotient_of
quotient_taken text keys h =
    let parts = bind_some (cut_at 58 text) _ keys h in
    let p = both (divisor_form max_u64 (lit< tt)) quotients_form Quotient parts.0.0 parts.0.1 keys parts.2 in
    let small = p.first_is.1 in
    rw (← p.made, ← p.first_text, ← p.second_text) (ap (λ (l : List ℕ). 47 ∷ l) (cut_taken 58 text parts.0 parts.1), (p.first_is.0, omega arith, p.second_is))

every_taken : (text : List ℕ) (keys : Keys) → every_of text ≡ Some keys → (42 ∷ text ≡ keys_text keys) × IsKeys keys
unfolding every_of
every_taken text keys h =
    let taken = cond_some (length text == 0) Every keys h in
    let none = nil_from_length text (eqb-true (length text) 0 taken.0) in
    rw (← taken.1, none) (refl, tt)

-- ---- rules

-- a text that was cut at the byte before its keys
parts_taken : (byte : ℕ) (text : List ℕ) (parts : List ℕ × List ℕ) (keys : Option Keys) (rule : Rule) → cut_at byte text ≡ Some parts → rule_from parts.0 keys ≡ Some rule
    → ((known : Keys) → keys ≡ Some known → (byte ∷ parts.1 ≡ keys_text known) × IsKeys known) → IsRule rule × (text ≡ rule_text rule)
unfolding rule_from
parts_taken byte text parts keys rule cut h each =
    let source = bind_some (number_of 65535 parts.0) _ rule h in
    let known = bind_some keys _ rule source.2 in
    let whole : record { source = source.0; keys = known.0 } ≡ rule = cc (known.2) in
    let front = source_form.taken parts.0 source.0 source.1 in
    let behind = each known.0 known.1 in
    rw (← whole) ((front.0, behind.1), rw (← front.1, ← behind.0) (cut_taken byte text parts cut))

by_taken : (text : List ℕ) (percent slash star : Option (List ℕ × List ℕ)) (rule : Rule) → cut_at 37 text ≡ percent → cut_at 47 text ≡ slash → cut_at 42 text ≡ star
    → rule_by percent slash star ≡ Some rule → IsRule rule × (text ≡ rule_text rule)
unfolding rule_by
by_taken text (Some parts) slash star rule p s t h = parts_taken 37 text parts (remainder_of parts.1) rule p h (remainder_taken parts.1)
by_taken text None (Some parts) star rule p s t h = parts_taken 47 text parts (quotient_of parts.1) rule s h (quotient_taken parts.1)
by_taken text None None (Some parts) rule p s t h = parts_taken 42 text parts (every_of parts.1) rule t h (every_taken parts.1)
by_taken text None None None rule p s t h = absurd cc

rule_taken : (text : List ℕ) (rule : Rule) → rule_of text ≡ Some rule → IsRule rule × (text ≡ rule_text rule)
unfolding rule_of
rule_taken text rule h = by_taken text (cut_at 37 text) (cut_at 47 text) (cut_at 42 text) rule refl refl refl h

-- ---- the bytes of a rule

-- digits, `,` and `:`
abbrev is_number_byte : ℕ → Bool
is_number_byte b = is_listed_byte b || b == 58

-- digits, `,`, `:` and the three signs
abbrev pub is_rule_byte : ℕ → Bool
is_rule_byte b = is_number_byte b || b == 37 || b == 47 || b == 42

quotient_bytes : (by : ℕ) (listed : List ℕ) → IsKeys (Quotient by listed) → list_all is_number_byte (decimal by ++ 58 ∷ listed_text listed) ≡ true
quotient_bytes by listed h =
    let fits : (1 ≤ by) × (by ≤ max_u64) = (h.0, omega (arith, h.1)) in
    parted_bytes (divisor_form max_u64 (lit< tt)) (quotients_form by fits) is_number_byte 58 (λ b k. rw k refl) (λ b k. rw k refl) refl by listed fits h.2

remainder_bytes : (by : ℕ) (listed : List ℕ) → IsKeys (Remainder by listed) → list_all is_number_byte (decimal by ++ 58 ∷ listed_text listed) ≡ true
remainder_bytes by listed h =
    parted_bytes (divisor_form 65536 (lit< tt)) (remainders_form by (h.0, h.1)) is_number_byte 58 (λ b k. rw k refl) (λ b k. rw k refl) refl by listed (h.0, h.1) h.2

keys_bytes : (keys : Keys) → IsKeys keys → list_all is_rule_byte (keys_text keys) ≡ true
keys_bytes Every h = refl
keys_bytes (Remainder by listed) h = list_all-weaker is_number_byte is_rule_byte (λ b k. rw k refl) (decimal by ++ 58 ∷ listed_text listed) (remainder_bytes by listed h)
keys_bytes (Quotient by listed) h = list_all-weaker is_number_byte is_rule_byte (λ b k. rw k refl) (decimal by ++ 58 ∷ listed_text listed) (quotient_bytes by listed h)

rule_bytes : (rule : Rule) → IsRule rule → list_all is_rule_byte (rule_text rule) ≡ true
rule_bytes rule h =
    list_all-both is_rule_byte (decimal rule.source) (keys_text rule.keys)
    (list_all-weaker is_digit is_rule_byte (λ b k. rw k refl) (decimal rule.source) (source_form.bytes rule.source h.0)) (keys_bytes rule.keys h.1)

-- ---- rules again

from_again : (source : ℕ) (keys : Keys) → source < 2 ^ 16 → rule_from (decimal source) (Some keys) ≡ Some (record { source = source; keys = keys })
unfolding rule_from
from_again source keys small = rw (source_form.again source small) refl

remainder_again : (by : ℕ) (listed : List ℕ) → IsKeys (Remainder by listed) → remainder_of (decimal by ++ 58 ∷ listed_text listed) ≡ Some (Remainder by listed)
unfolding remainder_of
remainder_again by listed h = parted_again (divisor_form 65536 (lit< tt)) remainders_form Remainder 58 refl by listed (h.0, h.1) h.2

quotient_again : (by : ℕ) (listed : List ℕ) → IsKeys (Quotient by listed) → quotient_of (decimal by ++ 58 ∷ listed_text listed) ≡ Some (Quotient by listed)
unfolding quotient_of
quotient_again by listed h = parted_again (divisor_form max_u64 (lit< tt)) quotients_form Quotient 58 refl by listed (h.0, omega (arith, h.1)) h.2

-- a source, a sign and what is behind it lack what each of them lacks
sign_lacks : (byte source sign : ℕ) (rest : List ℕ) → source < 2 ^ 16 → is_digit byte ≡ false → (sign == byte) ≡ false → Lacks byte rest → Lacks byte (decimal source ++ sign ∷ rest)
sign_lacks byte source sign rest small other apart behind =
    All-append (λ b. (b == byte) ≡ false) (decimal source) (sign ∷ rest) (form_lacks byte other source_form source small) (All-cons (λ b. (b == byte) ≡ false) sign rest apart behind)

keys_again : (source : ℕ) (keys : Keys) → source < 2 ^ 16 → IsKeys keys → rule_of (decimal source ++ keys_text keys) ≡ Some (record { source = source; keys = keys })
unfolding rule_of rule_by every_of
keys_again source Every small h =
    let percent = cut_none 37 (decimal source ++ 42 ∷ []) (sign_lacks 37 source 42 [] small refl refl (All-nil (λ b. (b == 37) ≡ false))) in
    let slash = cut_none 47 (decimal source ++ 42 ∷ []) (sign_lacks 47 source 42 [] small refl refl (All-nil (λ b. (b == 47) ≡ false))) in
    let cut = cut_again 42 (decimal source) [] (form_lacks 42 refl source_form source small) in
    rw (percent, slash, cut) (from_again source Every small)
keys_again source (Remainder by listed) small h =
    let cut = cut_again 37 (decimal source) (decimal by ++ 58 ∷ listed_text listed) (form_lacks 37 refl source_form source small) in
    rw (cut, remainder_again by listed h) (from_again source (Remainder by listed) small)
keys_again source (Quotient by listed) small h =
    let behind = Lacks-from_test is_number_byte 37 (decimal by ++ 58 ∷ listed_text listed) refl (quotient_bytes by listed h) in
    let percent = cut_none 37 (decimal source ++ 47 ∷ (decimal by ++ 58 ∷ listed_text listed)) (sign_lacks 37 source 47 (decimal by ++ 58 ∷ listed_text listed) small refl refl behind) in
    let cut = cut_again 47 (decimal source) (decimal by ++ 58 ∷ listed_text listed) (form_lacks 47 refl source_form source small) in
    rw (percent, cut, quotient_again by listed h) (from_again source (Quotient by listed) small)

pub rule_form : Form IsRule rule_text rule_of is_rule_byte
rule_form = record { taken = rule_taken; again = λ rule h. keys_again rule.source rule.keys h.0 h.1; bytes = rule_bytes }
