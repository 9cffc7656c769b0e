use Rattle.std.proofs.Common.{refl}
use Rattle.std.specs.Fmt.{digits}
use Rattle.bus_types.specs.Text.{number_of}
use Rattle.partition_filter.specs.Grammar.{numbers_of, listed_of, divisor_of, remainder_of, quotient_of, every_of, rule_from, rule_by, rule_of, next_rule, rules_of, filter_of}
use Rattle.trace_script.specs.Words.{number_in, name_of}
use Rattle.bus_node.specs.Words.{options_of, number_at, name_at, filter_at, relay_at, bootstrap_at, polling_at, consume_at, relay_words, bootstrap_words, consume_words, relay_node, bootstrap_node, consume_node, node_words}
use Rattle.bus_node.proofs.laws.worked_words.Goals as goal

pub returns : goal.returns
unfolding digits number_of numbers_of listed_of divisor_of remainder_of quotient_of every_of rule_from rule_by rule_of next_rule rules_of filter_of number_in name_of options_of number_at name_at filter_at relay_at bootstrap_at polling_at consume_at relay_words bootstrap_words consume_words relay_node bootstrap_node consume_node node_words
returns c = record {
  relay = refl;
  relay_turned = refl;
  bootstrap = refl;
  bootstrap_turned = refl;
  consume = refl;
  consume_turned = refl;
  missing = refl;
  repeated = refl;
  repeated_too = refl;
  unknown = refl;
  joined = refl;
  no_value = refl;
  short_name = refl;
  port_0 = refl;
  port_65536 = refl;
  leading_zero = refl;
  less_bytes = refl;
  more_windows = refl;
  more_connections = refl;
  no_rounds = refl;
  no_polls = refl;
  no_max = refl;
  more_max = refl;
  bad_name = refl;
  bad_filter = refl;
  no_words = refl;
  empty_word = refl;
  alone = refl;
  other_node = refl;
}
