use Rattle.std.proofs.Common.{refl}
use Rattle.hex.specs.Hex.{decode_pairs}
use Rattle.bus_types.specs.Text.{number_of}
use Rattle.bus_types.specs.Relay.{surplus}
use Rattle.generated_windows.specs.Generated.{next_state, generated_window, after_window}
use Rattle.trace_script.specs.Words.{number_in, key_of, payload_of, put_or_delete, change_of, changes_of}
use Rattle.trace_script.specs.Lines.{commit_of, gen_of, feed_of, relay_of, words_line, line_of}
use Rattle.relay_node.specs.Feeding.{text_gives, fed_from}
use Rattle.relay_node.proofs.laws.worked_inputs.Goals as goal

pub returns : goal.returns
unfolding number_of decode_pairs surplus next_state generated_window after_window number_in key_of payload_of put_or_delete change_of changes_of commit_of gen_of feed_of relay_of words_line line_of text_gives fed_from
returns c = record {
  empty = refl;
  commits = refl;
  generated = refl;
  wrong_word = refl;
  room = refl;
  small_room = refl;
  no_line = refl;
  not_rising = refl;
  no_scn = refl;
  last_window = refl;
  one_too_many = refl;
  two_too_many = refl;
  too_high = refl;
  too_long = refl;
  evicted = refl;
  newest = refl;
}
