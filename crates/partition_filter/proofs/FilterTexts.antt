-- Filters and their text.
use Rattle.std.proofs.Common.{◌≡◌, ℕ, ◌+◌, ◌≤◌, Bool, true, false, ◌==◌, ◌&&◌, nat_lt, inl, inr, List, [], ◌∷◌, length, map, codes, Option, Some, None, Result, Ok, Err, refl, sym, ◌∙◌, arith, lit≤}
use Rattle.std.specs.Prelude.{bytes_eq, IfOk}
use Rattle.std.specs.List.{AllByRecursion, slice_split}
use Rattle.std.proofs.lemmas.Bool.{and_parts, and_from, ltb-true, ltb-false, lt-ltb, le-ltb, false_from_ne_true}
use Rattle.std.proofs.lemmas.Slice.Eq.{bytes_eq-Decides}
use Rattle.bus_types.proofs.Cuts.{Lacks}
use Rattle.bus_types.proofs.Options.{chosen}
use Rattle.partition_filter.specs.declared.fault.FilterFault.{FilterFault}
use Rattle.partition_filter.specs.declared.fault.FilterFault.TheVariants.{BadFilter, NoMemory}
use Rattle.partition_filter.specs.declared.rule.Rule.{Rule}
use Rattle.partition_filter.specs.Grammar.{rule_of, next_rule, with_rule, rules_on, rules_of, rule_by, selection_of, filter_of}
use Rattle.partition_filter.specs.Reading.{Reads}
use Rattle.partition_filter.specs.Selection.{Selection}
use Rattle.partition_filter.specs.Selection.Selection.{All, Rules}
use Rattle.partition_filter.specs.Rising.{is_above, rises}
use Rattle.partition_filter.specs.Spelling.{rule_text, filter_text, most_rules, longest_text, IsRule, AreRules, IsFilter}
use Rattle.bus_types.specs.Form.{Form}
use Rattle.bus_types.proofs.Combinators.{where_form, form_lacks}
use Rattle.bus_types.proofs.ListForms.{split_again, split_taken, all_texts}
use Rattle.partition_filter.proofs.RuleTexts.{is_rule_byte, rule_form}

-- ---- rules

-- what texts spell behind so many rules, of which the last has this source
record Follow (count : ℕ) (before : Option ℕ) (parts : List (List ℕ)) (rules : List Rule) : Type 0 where
  texts : parts ≡ map rule_text rules
  few : count + length rules ≤ most_rules
  rising : rises before (map (λ r. r.source) rules) ≡ true
  each : AllByRecursion IsRule rules

-- the rule behind so many, of which the last has this source
abbrev is_next : ℕ → Option ℕ → Rule → Bool
is_next count before rule = nat_lt count most_rules && is_above before rule.source

next_form : (count : ℕ) (before : Option ℕ) → Form (λ rule. IsRule rule × (is_next count before rule ≡ true)) rule_text (next_rule count before) is_rule_byte
unfolding next_rule
next_form count before = where_form (is_next count before) rule_form

with_taken : (rule : Rule) (read : Result (List Rule) ℕ) (rules : List Rule) → with_rule rule read ≡ Ok rules → (more : List Rule) × (read ≡ Ok more) × (rule ∷ more ≡ rules)
with_taken rule (Ok more) rules h = (more, refl, cc)
with_taken rule (Err place) rules h = absurd cc

-- a rule and those behind it, by what they were read from
on_taken : (place : ℕ) (next : Option Rule) (behind : Rule → Result (List Rule) ℕ) (rules : List Rule) → rules_on place next behind ≡ Ok rules
    → (rule : Rule) × (next ≡ Some rule) × (with_rule rule (behind rule) ≡ Ok rules)
on_taken place None behind rules h = absurd cc
on_taken place (Some rule) behind rules h = (rule, refl, h)

rules_taken : (place count : ℕ) (before : Option ℕ) (texts : List (List ℕ)) (rules : List Rule) → count ≤ most_rules → rules_of place count before texts ≡ Ok rules → Follow count before texts rules
unfolding rules_of
rules_taken place count before [] rules le h =
    let none : [] ≡ rules = cc in
    rw (← none) record { texts = refl; few = omega arith; rising = refl; each = tt }
rules_taken place count before (text ∷ texts) rules le h =
    let first = on_taken place (next_rule count before text) (λ rule. rules_of (place + length text + 1) (count + 1) (Some rule.source) texts) rules h in
    let one = (next_form count before).taken text first.0 first.1 in
    let tests = and_parts (nat_lt count most_rules) (is_above before first.0.source) one.0.1 in
    let below = ltb-true count most_rules tests.0 in
    let more = with_taken first.0 (rules_of (place + length text + 1) (count + 1) (Some first.0.source) texts) rules first.2 in
    let rest = rules_taken (place + length text + 1) (count + 1) (Some first.0.source) texts more.0 (omega arith) more.1 in
    let few = rest.few in
    rw (← more.2) record {
      texts = cc (one.1, rest.texts);
      few = omega arith;
      rising = and_from (is_above before first.0.source) (rises (Some first.0.source) (map (λ r. r.source) more.0)) tests.1 rest.rising;
      each = (one.0.0, rest.each);
    }

rules_again : (place count : ℕ) (before : Option ℕ) (rules : List Rule) → count + length rules ≤ most_rules → rises before (map (λ r. r.source) rules) ≡ true → AllByRecursion IsRule rules
    → rules_of place count before (map rule_text rules) ≡ Ok rules
unfolding rules_of
rules_again place count before [] few rising each = refl
rules_again place count before (rule ∷ rules) few rising each =
    let parts = and_parts (is_above before rule.source) (rises (Some rule.source) (map (λ r. r.source) rules)) rising in
    let next = and_from (nat_lt count most_rules) (is_above before rule.source) (lt-ltb count most_rules (omega arith)) parts.0 in
    rw ((next_form count before).again rule (each.0, next), rules_again (place + length (rule_text rule) + 1) (count + 1) (Some rule.source) rules (omega arith) parts.1 each.1) refl

-- ---- filters

selection_taken : (read : Result (List Rule) ℕ) (filter : Selection) → selection_of read ≡ Ok filter → (rules : List Rule) × (read ≡ Ok rules) × (Rules rules ≡ filter)
selection_taken (Ok rules) filter h = (rules, refl, cc)
selection_taken (Err place) filter h = absurd cc

pub all_taken : (text : List ℕ) (rules : List Rule) → length text ≤ longest_text → rules_of 0 0 None (slice_split (λ b. b == 59) text) ≡ Ok rules → AreRules rules × (text ≡ filter_text (Rules rules))
all_taken text rules short h =
    let read = rules_taken 0 0 None (slice_split (λ b. b == 59) text) rules (omega arith) h in
    let whole = split_taken 59 rule_text text rules read.texts in
    let few = read.few in
    (record { some = whole.1; count = omega arith; rising = read.rising; each = read.each; short = rw whole.0 at short }, whole.0)

pub filter_taken : (text : List ℕ) (filter : Selection) → filter_of text ≡ Ok filter → IsFilter filter × (text ≡ filter_text filter)
unfolding filter_of
filter_taken text filter h =
    elim (chosen (bytes_eq text (codes "all")) (Ok All) _ (Ok filter) h) [
      | inl p ↦
          let all : All ≡ filter = cc (p.1) in
          rw (← all) (tt, (bytes_eq-Decides text (codes "all")).0 p.0)
      | inr p ↦
          elim (chosen (nat_lt longest_text (length text)) (Err longest_text) _ (Ok filter) p.1) [
            | inl q ↦ absurd (cc (q.1))
            | inr q ↦
                let read = selection_taken (rules_of 0 0 None (slice_split (λ b. b == 59) text)) filter q.1 in
                rw (← read.2) (all_taken text read.0 (ltb-false longest_text (length text) q.0) read.1)
          ]
    ]

-- `all` is no rule
not_rules : (rules : List Rule) → rules_of 0 0 None (slice_split (λ b. b == 59) (codes "all")) ≡ Ok rules → ⊥
unfolding rules_of next_rule rule_of rule_by
not_rules rules h = cc h

-- what rules spell is read
some_again : (rule : Rule) (rules : List Rule) → AreRules (rule ∷ rules) → rules_of 0 0 None (slice_split (λ b. b == 59) (filter_text (Rules (rule ∷ rules)))) ≡ Ok (rule ∷ rules)
some_again rule rules is =
    let few = is.count in
    let lack = all_texts IsRule rule_text (Lacks 59) (form_lacks 59 refl rule_form) (rule ∷ rules) is.each in
    rw (split_again 59 (rule_text rule) (map rule_text rules) lack) (rules_again 0 0 None (rule ∷ rules) (omega arith) is.rising is.each)

text_again : (rules : List Rule) → AreRules rules → filter_of (filter_text (Rules rules)) ≡ Ok (Rules rules)
unfolding filter_of
text_again [] is =
    let some = is.some in
    absurd (omega arith)
text_again (rule ∷ rules) is =
    let read = some_again rule rules is in
    let other : bytes_eq (filter_text (Rules (rule ∷ rules))) (codes "all") ≡ false =
    false_from_ne_true (bytes_eq (filter_text (Rules (rule ∷ rules))) (codes "all"))
    (λ same. not_rules (rule ∷ rules) (rw ((bytes_eq-Decides (filter_text (Rules (rule ∷ rules))) (codes "all")).0 same) at read)) in
    rw (other, le-ltb longest_text (length (filter_text (Rules (rule ∷ rules)))) is.short, read) refl

pub filter_again : (text : List ℕ) (filter : Selection) → IsFilter filter → text ≡ filter_text filter → filter_of text ≡ Ok filter
unfolding filter_of
filter_again text All is spelled = rw spelled refl
filter_again text (Rules rules) is spelled = rw spelled (text_again rules is)

-- ---- what a call answered

pub found : (result : Result Selection FilterFault) (text : List ℕ) → Reads result (filter_of text) → IfOk result (λ filter. IsFilter filter × (text ≡ filter_text filter))
found (Ok filter) text h = filter_taken text filter h
found (Err fault) text h = tt

pub bad : (result : Result Selection FilterFault) (text : List ℕ) → Reads result (filter_of text) → (place : ℕ) → result ≡ Err (BadFilter place)
    → (filter : Selection) → IsFilter filter → text ≡ filter_text filter → ⊥
bad (Ok read) text h place is filter valid spelled = cc is
bad (Err (BadFilter p)) text h place is filter valid spelled = cc (sym h ∙ filter_again text filter valid spelled)
bad (Err NoMemory) text h place is filter valid spelled = cc is

-- what is written is read back
pub read_back : (filter : Selection) → IsFilter filter → filter_of (filter_text filter) ≡ Ok filter
read_back filter is = filter_again (filter_text filter) filter is refl

pub short_text : (filter : Selection) → IsFilter filter → length (filter_text filter) ≤ longest_text
short_text All is = lit≤ tt
short_text (Rules rules) is = is.short
