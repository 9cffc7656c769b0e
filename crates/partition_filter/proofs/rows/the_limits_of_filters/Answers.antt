use Rattle.std.proofs.Common.{refl}
use Rattle.std.specs.Fmt.{digits}
use Rattle.bus_types.specs.Text.{number_of}
use Rattle.partition_filter.specs.Grammar.{numbers_of, listed_of, divisor_of, remainder_of, quotient_of, every_of, rule_from, rule_by, rule_of, next_rule, rules_of, filter_of}
use Rattle.partition_filter.proofs.rows.the_limits_of_filters.Goals as goal

pub returns : goal.returns
unfolding number_of numbers_of listed_of divisor_of remainder_of quotient_of every_of rule_from rule_by rule_of next_rule rules_of filter_of digits
returns c = record {
  long_text = refl;
  longer_text = refl;
  more_rules = refl;
  most_numbers = refl;
  more_numbers = refl;
  last_source = refl;
  later_source = refl;
  most_remainder = refl;
  more_remainder = refl;
  most_quotient = refl;
  more_quotient = refl;
  by_none = refl;
}
