-- What a filter means: which rows it accepts.
use Rattle.std.specs.Prelude.{◌%◌, ◌/◌, Bool, true, ◌==◌, ◌&&◌, List, Vec, Option, Some, None}
use Rattle.std.specs.Global.{Global}
use Rattle.std.specs.List.{list_any}
use Rattle.bus_types.specs.declared.change.Key.{Key}
use Rattle.bus_types.specs.declared.change.Key.TheVariants.{Long}
use Rattle.bus_types.specs.Change.{Test}
use Rattle.partition_filter.specs.declared.rule.Keys.{Keys}
use Rattle.partition_filter.specs.declared.rule.Keys.TheVariants.{Every, Remainder, Quotient}
use Rattle.partition_filter.specs.declared.rule.Rule.{Rule}

-- a filter as contracts see it: all rows, or those that some rules accept
pub data Selection : Type 0 where
  All : Selection
  Rules : List Rule → Selection

-- a filter by its rules, where it has some
abbrev pub selected : Option (Vec Rule Global) → Selection
selected None = All
selected (Some rules) = Rules rules.items

-- the keys of a source that are meant: every one; or those whose remainder by a number is listed; or those that are a
-- listed number when divided by a number, rounded down
abbrev pub accepts_key : Keys → Key → Bool
accepts_key Every key = true
accepts_key (Remainder by listed) (Long k) = list_any (λ b. b == k % by) listed
accepts_key (Quotient by listed) (Long k) = list_any (λ b. b == k / by) listed

-- a row is meant where a rule of its source accepts its key; so a source without a rule is refused
abbrev pub test_of : Selection → Test
test_of All source key = true
test_of (Rules rules) source key = list_any (λ r. r.source == source && accepts_key r.keys key) rules
