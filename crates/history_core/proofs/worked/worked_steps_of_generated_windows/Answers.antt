use Rattle.std.proofs.Common.{refl}
use Rattle.std.specs.Fmt.{digits}
use Rattle.hex.specs.Hex.{encode_with}
use Rattle.bus_types.specs.Relay.{floor_of}
use Rattle.generated_windows.specs.Generated.{next_state, generated_window, after_window}
use Rattle.history_core.specs.Steps.{consumer_step, gen_step, feed_step, poll_step, show_step, sum_step}
use Rattle.history_core.proofs.worked.worked_steps_of_generated_windows.Goals as goal

pub returns : goal.returns
unfolding floor_of next_state generated_window after_window consumer_step gen_step feed_step poll_step show_step sum_step digits encode_with
returns c = refl
