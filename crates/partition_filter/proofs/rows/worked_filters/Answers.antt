use Rattle.std.proofs.Common.{refl}
use Rattle.std.specs.Fmt.{digits}
use Rattle.bus_types.specs.Text.{number_of}
use Rattle.partition_filter.specs.Grammar.{numbers_of, listed_of, divisor_of, remainder_of, quotient_of, every_of, rule_from, rule_by, rule_of, next_rule, rules_of, filter_of}
use Rattle.partition_filter.proofs.rows.worked_filters.Goals as goal

pub returns : goal.returns
unfolding number_of numbers_of listed_of divisor_of remainder_of quotient_of every_of rule_from rule_by rule_of next_rule rules_of filter_of digits
returns c = record {
  all = refl;
  every = refl;
  two = refl;
  listed = refl;
  empty = refl;
  source_again = refl;
  empty_end = refl;
  all_first = refl;
  too_great = refl;
  listed_again = refl;
  by_none = refl;
  leading_zero = refl;
  third = refl;
}
