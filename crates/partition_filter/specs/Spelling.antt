-- The one text of each filter, said without reading, and which filters there are.
use Rattle.std.specs.Prelude.{◌≡◌, ℕ, ◌<◌, ◌≤◌, ◌^◌, true, List, ◌++◌, length, map, codes, decimal, None}
use Rattle.std.specs.List.{AllByRecursion, join_with_byte}
use Rattle.partition_filter.specs.declared.rule.Keys.{Keys}
use Rattle.partition_filter.specs.declared.rule.Keys.TheVariants.{Every, Remainder, Quotient}
use Rattle.partition_filter.specs.declared.rule.Rule.{Rule}
use Rattle.partition_filter.specs.Rising.{rises}
use Rattle.partition_filter.specs.Selection.{Selection}
use Rattle.partition_filter.specs.Selection.Selection.{All, Rules}

-- ---- texts

-- decimal numbers with `,` between two
abbrev pub listed_text : List ℕ → List ℕ
listed_text listed = join_with_byte 44 (map decimal listed)

-- `*`, `%N:B,B` or `/R:B,B`
abbrev pub keys_text : Keys → List ℕ
keys_text Every = codes "*"
keys_text (Remainder by listed) = codes "%" ++ (decimal by ++ (codes ":" ++ listed_text listed))
keys_text (Quotient by listed) = codes "/" ++ (decimal by ++ (codes ":" ++ listed_text listed))

abbrev pub rule_text : Rule → List ℕ
rule_text r = decimal r.source ++ keys_text r.keys

-- `all`, or the rules with `;` between two
abbrev pub filter_text : Selection → List ℕ
filter_text All = codes "all"
filter_text (Rules rules) = join_with_byte 59 (map rule_text rules)

-- ---- ranges

abbrev pub most_rules : ℕ
most_rules = 64

abbrev pub most_numbers : ℕ
most_numbers = 64

abbrev pub longest_text : ℕ
longest_text = 4096

-- 1 to 64 numbers below a limit, in strictly rising order
pub record IsListed (limit : ℕ) (listed : List ℕ) : Type 0 where
  pub some : 1 ≤ length listed
  pub count : length listed ≤ most_numbers
  pub rising : rises None listed ≡ true
  pub below : AllByRecursion (λ b. b < limit) listed

abbrev pub IsKeys : Keys → Type 0
IsKeys Every = Unit {0}
IsKeys (Remainder by listed) = (1 ≤ by) × (by ≤ 65536) × IsListed by listed
IsKeys (Quotient by listed) = (1 ≤ by) × (by < 2 ^ 64) × IsListed (2 ^ 64) listed

abbrev pub IsRule : Rule → Type 0
IsRule r = (r.source < 2 ^ 16) × IsKeys r.keys

-- 1 to 64 rules of strictly rising sources, whose text isn't too long
pub record AreRules (rules : List Rule) : Type 0 where
  pub some : 1 ≤ length rules
  pub count : length rules ≤ most_rules
  pub rising : rises None (map (λ r. r.source) rules) ≡ true
  pub each : AllByRecursion IsRule rules
  pub short : length (filter_text (Rules rules)) ≤ longest_text

-- the filters that there are
abbrev pub IsFilter : Selection → Type 0
IsFilter All = Unit {0}
IsFilter (Rules rules) = AreRules rules
