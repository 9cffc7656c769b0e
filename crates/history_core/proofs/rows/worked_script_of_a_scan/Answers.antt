use Rattle.std.proofs.Common.{refl}
use Rattle.history_core.proofs.rows.worked_script_of_a_scan.Goals as goal
use Rattle.bus_types.specs.Relay.{floor_of}
use Rattle.history_core.specs.Steps.{relay_step, consumer_step, commit_step, feed_step, log_step, apply_step, trim_step, restart_step, stream_step, poll_step, crash_step, stop_step, show_step}
use Rattle.bus_types.specs.Text.{number_of}
use Rattle.partition_filter.specs.Grammar.{numbers_of, listed_of, divisor_of, remainder_of, rule_from, rule_by, rule_of, next_rule, rules_of, filter_of}
use Rattle.trace_script.specs.Words.{number_in, name_of, key_of, payload_of, put_or_delete, change_of, changes_of}
use Rattle.trace_script.specs.Lines.{relay_of, consumer_of, commit_of, feed_of, log_of, apply_of, trim_of, restart_of, poll_of, show_of, stream_of, when_of, crash_of, stop_of, words_line, line_of}
use Rattle.history_core.specs.Run.{text_step, played}
use Rattle.std.specs.Fmt.{digits}
use Rattle.hex.specs.Hex.{encode_with, decode_pairs}

pub returns : goal.returns
unfolding floor_of relay_step consumer_step commit_step feed_step log_step apply_step trim_step restart_step poll_step show_step stream_step crash_step stop_step number_of numbers_of listed_of divisor_of remainder_of rule_from rule_by rule_of next_rule rules_of filter_of number_in name_of key_of payload_of put_or_delete change_of changes_of relay_of consumer_of commit_of feed_of log_of apply_of trim_of restart_of poll_of show_of stream_of when_of crash_of stop_of words_line line_of text_step played digits encode_with decode_pairs
returns c = refl
