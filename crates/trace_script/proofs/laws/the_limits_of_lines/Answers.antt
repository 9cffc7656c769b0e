use Rattle.std.proofs.Common.{refl}
use Rattle.std.specs.Fmt.{digits}
use Rattle.bus_types.specs.Text.{number_of}
use Rattle.partition_filter.specs.Grammar.{filter_of}
use Rattle.trace_script.specs.Words.{number_in, name_of}
use Rattle.trace_script.specs.Lines.{relay_of, gen_of, feed_of, poll_of, stream_of, log_of, apply_of, trim_of, words_line, line_of}
use Rattle.trace_script.proofs.laws.the_limits_of_lines.Goals as goal

pub returns : goal.returns
unfolding number_of filter_of number_in name_of relay_of gen_of feed_of poll_of stream_of log_of apply_of trim_of words_line line_of digits
returns c = record {
  no_feed = refl;
  least_feed = refl;
  most_feed = refl;
  more_feed = refl;
  least_gen = refl;
  most_gen = refl;
  no_gen = refl;
  greater_seed = refl;
  more_gen = refl;
  no_log = refl;
  least_log = refl;
  most_log = refl;
  more_log = refl;
  no_apply = refl;
  least_apply = refl;
  most_apply = refl;
  more_apply = refl;
  least_trim = refl;
  most_trim = refl;
  more_trim = refl;
  no_reply = refl;
  least_reply = refl;
  most_reply = refl;
  more_reply = refl;
  no_stream = refl;
  least_stream = refl;
  most_stream = refl;
  more_stream = refl;
  late_stream = refl;
  less_room = refl;
  least_room = refl;
  most_room = refl;
  more_room = refl;
  no_windows = refl;
  more_windows = refl;
}
