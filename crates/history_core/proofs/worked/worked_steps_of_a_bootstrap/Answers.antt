use Rattle.std.proofs.Common.{refl}
use Rattle.history_core.proofs.worked.worked_steps_of_a_bootstrap.Goals as goal
use Rattle.bus_types.specs.Relay.{floor_of}
use Rattle.history_core.specs.Steps.{relay_step, consumer_step, commit_step, feed_step, log_step, apply_step, trim_step, restart_step, poll_step, show_step, stop_step, crash_step}
use Rattle.std.specs.Fmt.{digits}
use Rattle.hex.specs.Hex.{encode_with}

pub returns : goal.returns
unfolding floor_of relay_step consumer_step commit_step feed_step log_step apply_step trim_step restart_step poll_step show_step stop_step crash_step digits encode_with
returns c = record { moves = refl; gap = refl; anew = refl }
