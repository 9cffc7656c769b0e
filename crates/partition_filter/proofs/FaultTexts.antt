-- Texts that are no filters, found part by part.
use Rattle.std.proofs.Common.{◌≡◌, ℕ, ◌+◌, ◌<◌, Bool, true, false, cond, ◌&&◌, ◌==◌, nat_lt, nat_le, inl, inr, List, [], ◌∷◌, length, Option, Some, None, option_map, Result, Ok, Err, refl, sym, ap, ◌∙◌, arith}
use Rattle.std.specs.Prelude.{is_some, IsOk}
use Rattle.std.specs.List.{slice_split}
use Rattle.std.proofs.lemmas.Bool.{ltb-true, le-leb, and_parts, and_left, and_right}
use Rattle.std.proofs.lemmas.Bool.Decides.{nat_tests}
use Rattle.std.proofs.lemmas.Option.{cond_some}
use Rattle.bus_types.specs.Text.{◌>>=◌, number_of}
use Rattle.bus_types.proofs.Options.{bind_some, map_some, chosen}
use Rattle.bus_types.proofs.ListForms.{map_none}
use Rattle.partition_filter.specs.declared.rule.Keys.{Keys}
use Rattle.partition_filter.specs.declared.rule.Rule.{Rule}
use Rattle.partition_filter.specs.Rising.{is_above, rises}
use Rattle.partition_filter.specs.Spelling.{most_numbers, most_rules}
use Rattle.partition_filter.specs.Grammar.{numbers_of, listed_of, rule_from, rule_of, next_rule, with_rule, rules_on, rules_of, selection_of}
use Rattle.partition_filter.specs.Faults.{fault_of, next_number, listed_behind}

-- ---- numbers

some_chosen : {A : Type 0} (b : Bool) (x : A) → is_some (cond b (Some x) None) ≡ b
some_chosen true x = refl
some_chosen false x = refl

tests_agree : (count long short : ℕ) (above rising : Bool) → long ≡ short + 1
    → (nat_le (count + long) most_numbers && (above && rising)) ≡ ((nat_lt count most_numbers && above) && (nat_le (count + 1 + short) most_numbers && rising))
tests_agree count long short above rising e = grind (arith, nat_tests)

numbers_agree : (count n : ℕ) (before : Option ℕ) (read : Option (List ℕ))
    → is_some ((read >>= λ numbers. Some (n ∷ numbers)) >>= λ numbers. cond (nat_le (count + length numbers) most_numbers && rises before numbers) (Some numbers) None)
    ≡ ((nat_lt count most_numbers && is_above before n) && is_some (read >>= λ numbers. cond (nat_le (count + 1 + length numbers) most_numbers && rises (Some n) numbers) (Some numbers) None))
numbers_agree count n before None = sym (and_right (nat_lt count most_numbers && is_above before n) false refl)
numbers_agree count n before (Some numbers) =
    rw (
      some_chosen (nat_le (count + length (n ∷ numbers)) most_numbers && rises before (n ∷ numbers)) (n ∷ numbers),
      some_chosen (nat_le (count + 1 + length numbers) most_numbers && rises (Some n) numbers) numbers,
    )
    (tests_agree count (length (n ∷ numbers)) (length numbers) (is_above before n) (rises (Some n) numbers) (omega arith))

-- what is no number there
pub listed_bad : (max count : ℕ) (before : Option ℕ) (text : List ℕ) (texts : List (List ℕ)) → next_number max count before text ≡ None → is_some (listed_behind max count before (text ∷ texts)) ≡ false
unfolding listed_behind numbers_of next_number
listed_bad max count before text texts h = bad (number_of max text) h
  where
    bad : (read : Option ℕ) → (read >>= λ number. cond (nat_lt count most_numbers && is_above before number) (Some number) None) ≡ None
        → is_some ((read >>= λ number. numbers_of max texts >>= λ numbers. Some (number ∷ numbers)) >>= λ numbers. cond (nat_le (count + length numbers) most_numbers && rises before numbers) (Some numbers) None) ≡ false
    bad None h = refl
    bad (Some n) h =
        elim (chosen (nat_lt count most_numbers && is_above before n) (Some n) None None h) [
          | inl fine ↦ cc (fine.1)
          | inr other ↦ numbers_agree count n before (numbers_of max texts) ∙ and_left (nat_lt count most_numbers && is_above before n) _ other.0
        ]

-- a number and what is listed behind it
pub listed_more : (max count n : ℕ) (before : Option ℕ) (text : List ℕ) (texts : List (List ℕ)) → next_number max count before text ≡ Some n
    → is_some (listed_behind max count before (text ∷ texts)) ≡ is_some (listed_behind max (count + 1) (Some n) texts)
unfolding listed_behind numbers_of next_number
listed_more max count n before text texts h =
    let read = bind_some (number_of max text) _ n h in
    let taken = cond_some (nat_lt count most_numbers && is_above before read.0) read.0 n read.2 in
    let fine : (nat_lt count most_numbers && is_above before n) ≡ true = rw (← taken.1) taken.0 in
    let number : number_of max text ≡ Some n = rw (← taken.1) read.1 in
    rw number (numbers_agree count n before (numbers_of max texts) ∙ rw fine refl)

next_few : (max count n : ℕ) (before : Option ℕ) (text : List ℕ) → next_number max count before text ≡ Some n → count < most_numbers
unfolding next_number
next_few max count n before text h =
    let read = bind_some (number_of max text) _ n h in
    let taken = cond_some (nat_lt count most_numbers && is_above before read.0) read.0 n read.2 in
    ltb-true count most_numbers (and_parts (nat_lt count most_numbers) (is_above before read.0) taken.0).0

none_listed : (max count n : ℕ) → count < most_numbers → is_some (listed_behind max (count + 1) (Some n) []) ≡ true
unfolding listed_behind numbers_of
none_listed max count n lt = rw (le-leb (count + 1 + 0) most_numbers (omega arith)) refl

-- the last number
pub listed_last : (max count : ℕ) (before : Option ℕ) (text : List ℕ) → is_some (listed_behind max count before (text ∷ [])) ≡ is_some (next_number max count before text)
listed_last max count before text = last (next_number max count before text) refl
  where
    last : (next : Option ℕ) → next_number max count before text ≡ next → is_some (listed_behind max count before (text ∷ [])) ≡ is_some next
    last None h = listed_bad max count before text [] h
    last (Some n) h = listed_more max count n before text [] h ∙ none_listed max count n (next_few max count n before text h)

pub listed_first : (max : ℕ) (text : List ℕ) → is_some (listed_of max text) ≡ is_some (listed_behind max 0 None (slice_split (λ b. b == 44) text))
unfolding listed_of listed_behind
listed_first max text = first (numbers_of max (slice_split (λ b. b == 44) text))
  where
    first : (read : Option (List ℕ)) → is_some (read >>= λ numbers. cond (nat_le (length numbers) most_numbers && rises None numbers) (Some numbers) None)
        ≡ is_some (read >>= λ numbers. cond (nat_le (0 + length numbers) most_numbers && rises None numbers) (Some numbers) None)
    first None = refl
    first (Some numbers) =
        let same : length numbers ≡ 0 + length numbers = omega arith in
        ap (λ n. is_some (cond (nat_le n most_numbers && rises None numbers) (Some numbers) None)) same

-- ---- rules

pub some_made : {A B : Type 0} (o : Option A) (f : A → B) → is_some (o >>= λ x. Some (f x)) ≡ is_some o
some_made None f = refl
some_made (Some x) f = refl

pub source_known : (text : List ℕ) (keys : Option Keys) → option_map (λ (r : Rule). r.source) (rule_from text keys) ≡ cond (is_some keys) (number_of 65535 text) None
unfolding rule_from
source_known text keys = known (number_of 65535 text) keys
  where
    known : (source : Option ℕ) (keys : Option Keys) → option_map (λ (r : Rule). r.source) (source >>= λ s. keys >>= λ k. Some (record { source = s; keys = k })) ≡ cond (is_some keys) source None
    known None None = refl
    known None (Some k) = refl
    known (Some s) None = refl
    known (Some s) (Some k) = refl

pub next_known : (count : ℕ) (before : Option ℕ) (text : List ℕ)
    → option_map (λ (r : Rule). r.source) (next_rule count before text) ≡ (option_map (λ (r : Rule). r.source) (rule_of text) >>= λ source. cond (nat_lt count most_rules && is_above before source) (Some source) None)
unfolding next_rule
next_known count before text = known (rule_of text)
  where
    known : (read : Option Rule) → option_map (λ (r : Rule). r.source) (read >>= λ rule. cond (nat_lt count most_rules && is_above before rule.source) (Some rule) None)
        ≡ (option_map (λ (r : Rule). r.source) read >>= λ source. cond (nat_lt count most_rules && is_above before source) (Some source) None)
    known None = refl
    known (Some rule) = both (nat_lt count most_rules && is_above before rule.source) rule
      where
        both : (b : Bool) (rule : Rule) → option_map (λ (r : Rule). r.source) (cond b (Some rule) None) ≡ cond b (Some rule.source) None
        both true rule = refl
        both false rule = refl

same_fault : (rule : Rule) (read : Result (List Rule) ℕ) → fault_of (with_rule rule read) ≡ fault_of read
same_fault rule (Ok rules) = refl
same_fault rule (Err place) = refl

-- what is no rule there
pub fault_here : (place count : ℕ) (before : Option ℕ) (text : List ℕ) (texts : List (List ℕ)) → option_map (λ (r : Rule). r.source) (next_rule count before text) ≡ None
    → fault_of (rules_of place count before (text ∷ texts)) ≡ Some place
unfolding rules_of
fault_here place count before text texts h = rw (map_none (next_rule count before text) (λ (r : Rule). r.source) h) refl

-- a rule and what stands behind it
pub fault_behind : (place count source : ℕ) (before : Option ℕ) (text : List ℕ) (texts : List (List ℕ)) → option_map (λ (r : Rule). r.source) (next_rule count before text) ≡ Some source
    → fault_of (rules_of place count before (text ∷ texts)) ≡ fault_of (rules_of (place + length text + 1) (count + 1) (Some source) texts)
unfolding rules_of
fault_behind place count source before text texts h =
    let found = map_some (next_rule count before text) (λ (r : Rule). r.source) source h in
    let behind : ℕ → Result (List Rule) ℕ = λ s. rules_of (place + length text + 1) (count + 1) (Some s) texts in
    ap (λ (next : Option Rule). fault_of (rules_on place next (λ rule. behind rule.source))) found.1
    ∙ same_fault found.0 (behind found.0.source) ∙ ap (λ s. fault_of (behind s)) found.2

none_left : (place count : ℕ) (before : Option ℕ) → fault_of (rules_of place count before []) ≡ None
unfolding rules_of
none_left place count before = refl

-- the last rule
pub fault_last : (place count : ℕ) (before source : Option ℕ) (text : List ℕ) → option_map (λ (r : Rule). r.source) (next_rule count before text) ≡ source
    → fault_of (rules_of place count before (text ∷ [])) ≡ cond (is_some source) None (Some place)
fault_last place count before None text h = fault_here place count before text [] h
fault_last place count before (Some s) text h = fault_behind place count s before text [] h ∙ none_left (place + length text + 1) (count + 1) (Some s)

-- ---- filters

pub fault_of_selection : (read : Result (List Rule) ℕ) → fault_of (selection_of read) ≡ fault_of read
fault_of_selection (Ok rules) = refl
fault_of_selection (Err place) = refl

pub fault_known : {A : Type 0} (read : Result A ℕ) (place : ℕ) → fault_of read ≡ Some place → read ≡ Err place
fault_known (Ok x) place h = absurd cc
fault_known (Err p) place h = cc

pub no_fault : {A : Type 0} (read : Result A ℕ) → fault_of read ≡ None → IsOk read
no_fault (Ok x) h = refl
no_fault (Err place) h = absurd cc
