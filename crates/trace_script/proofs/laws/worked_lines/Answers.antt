use Rattle.std.proofs.Common.{refl}
use Rattle.std.specs.Fmt.{digits}
use Rattle.hex.specs.Hex.{decode_pairs}
use Rattle.bus_types.specs.Text.{number_of}
use Rattle.partition_filter.specs.Grammar.{every_of, rule_from, rule_by, rule_of, next_rule, rules_of, filter_of}
use Rattle.trace_script.specs.Words.{number_in, name_of, key_of, payload_of, put_or_delete, change_of, changes_of}
use Rattle.trace_script.specs.Lines.{consumer_of, commit_of, gen_of, feed_of, show_of, sum_of, crash_of, when_of, stop_of, restart_of, words_line, line_of}
use Rattle.trace_script.proofs.laws.worked_lines.Goals as goal

pub returns : goal.returns
unfolding number_of decode_pairs every_of rule_from rule_by rule_of next_rule rules_of filter_of number_in name_of key_of payload_of put_or_delete change_of changes_of consumer_of commit_of gen_of feed_of show_of sum_of crash_of when_of stop_of restart_of words_line line_of digits
returns c = record {
  empty = refl;
  comment = refl;
  consumer = refl;
  commit = refl;
  show = refl;
  sum = refl;
  crash = refl;
  stop_before = refl;
  stop_after = refl;
  restart = refl;
  carriage_return = refl;
  commented_return = refl;
  space_first = refl;
  space_last = refl;
  two_spaces = refl;
  space_alone = refl;
  no_name = refl;
  more_words = refl;
  longest_name = refl;
  longer_name = refl;
  upper_case_name = refl;
  upper_case_word = refl;
  other_word = refl;
  no_change = refl;
  leading_zero = refl;
  signed = refl;
  odd_digits = refl;
  upper_case_digits = refl;
  no_key = refl;
  later_source = refl;
  greater_key = refl;
  other_filter = refl;
  other_stop = refl;
  other_restart = refl;
}
