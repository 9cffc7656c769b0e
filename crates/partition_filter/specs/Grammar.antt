-- The filter that a text spells, read from its front.
use Rattle.std.specs.Prelude.{ℕ, ◌+◌, ◌-◌, if◌then◌else◌, ◌==◌, ◌&&◌, nat_lt, nat_le, List, [], ◌∷◌, length, codes, bytes_eq, Option, Some, None, Result, Ok, Err}
use Rattle.std.specs.List.{slice_split}
use Rattle.bus_types.specs.Text.{◌>>=◌, cut_at, number_of, max_u64}
use Rattle.partition_filter.specs.declared.rule.Keys.{Keys}
use Rattle.partition_filter.specs.declared.rule.Keys.TheVariants.{Every, Remainder, Quotient}
use Rattle.partition_filter.specs.declared.rule.Rule.{Rule}
use Rattle.partition_filter.specs.Selection.{Selection}
use Rattle.partition_filter.specs.Selection.Selection.{All, Rules}
use Rattle.partition_filter.specs.Rising.{is_above, rises}
use Rattle.partition_filter.specs.Spelling.{most_rules, most_numbers, longest_text}

-- ---- numbers

-- the numbers of these texts, each at most max
unfoldable pub numbers_of : ℕ → List (List ℕ) → Option (List ℕ)
numbers_of max [] = Some []
numbers_of max (text ∷ texts) = do
  number ← number_of max text
  numbers ← numbers_of max texts
  Some (number ∷ numbers)

-- `B,B`
unfoldable pub listed_of : ℕ → List ℕ → Option (List ℕ)
listed_of max text = do
  numbers ← numbers_of max (slice_split (λ b. b == 44) text)
  if nat_le (length numbers) most_numbers && rises None numbers then Some numbers else None

-- a number from 1 to max
unfoldable pub divisor_of : ℕ → List ℕ → Option ℕ
divisor_of max text = do
  number ← number_of max text
  if nat_le 1 number then Some number else None

-- ---- rules

-- behind the `%`: `N:B,B`
unfoldable pub remainder_of : List ℕ → Option Keys
remainder_of text = do
  parts ← cut_at 58 text
  by ← divisor_of 65536 parts.0
  listed ← listed_of (by - 1) parts.1
  Some (Remainder by listed)

-- behind the `/`: `R:B,B`
unfoldable pub quotient_of : List ℕ → Option Keys
quotient_of text = do
  parts ← cut_at 58 text
  by ← divisor_of max_u64 parts.0
  listed ← listed_of max_u64 parts.1
  Some (Quotient by listed)

-- behind the `*`: nothing
unfoldable pub every_of : List ℕ → Option Keys
every_of text = if length text == 0 then Some Every else None

-- a source before its keys
unfoldable pub rule_from : List ℕ → Option Keys → Option Rule
rule_from text keys = do
  source ← number_of 65535 text
  known ← keys
  Some (record { source = source; keys = known })

-- the rule of a text that was cut at `%`, at `/` and at `*`
unfoldable pub rule_by : Option (List ℕ × List ℕ) → Option (List ℕ × List ℕ) → Option (List ℕ × List ℕ) → Option Rule
rule_by (Some parts) slash star = rule_from parts.0 (remainder_of parts.1)
rule_by None (Some parts) star = rule_from parts.0 (quotient_of parts.1)
rule_by None None (Some parts) = rule_from parts.0 (every_of parts.1)
rule_by None None None = None

unfoldable pub rule_of : List ℕ → Option Rule
rule_of text = rule_by (cut_at 37 text) (cut_at 47 text) (cut_at 42 text)

-- ---- filters

-- the rule of a text behind so many rules, of which the last has this source
unfoldable pub next_rule : ℕ → Option ℕ → List ℕ → Option Rule
next_rule count before text = do
  rule ← rule_of text
  if nat_lt count most_rules && is_above before rule.source then Some rule else None

abbrev pub with_rule : Rule → Result (List Rule) ℕ → Result (List Rule) ℕ
with_rule rule (Ok rules) = Ok (rule ∷ rules)
with_rule rule (Err place) = Err place

-- a rule and those behind it, or the place of what is none
abbrev pub rules_on : ℕ → Option Rule → (Rule → Result (List Rule) ℕ) → Result (List Rule) ℕ
rules_on place None behind = Err place
rules_on place (Some rule) behind = with_rule rule (behind rule)

-- the rules of these texts, of which the first begins at this place, behind so many rules, of which the last has this
-- source; or the place where the first text begins that is no rule there
unfoldable pub rules_of : ℕ → ℕ → Option ℕ → List (List ℕ) → Result (List Rule) ℕ
rules_of place count before [] = Ok []
rules_of place count before (text ∷ texts) =
    rules_on place (next_rule count before text) (λ rule. rules_of (place + length text + 1) (count + 1) (Some rule.source) texts)

abbrev pub selection_of : Result (List Rule) ℕ → Result Selection ℕ
selection_of (Ok rules) = Ok (Rules rules)
selection_of (Err place) = Err place

-- the filter that a text spells, or the place of its fault
unfoldable pub filter_of : List ℕ → Result Selection ℕ
filter_of text =
    if bytes_eq text (codes "all") then Ok All
    else if nat_lt longest_text (length text) then Err longest_text
    else selection_of (rules_of 0 0 None (slice_split (λ b. b == 59) text))
