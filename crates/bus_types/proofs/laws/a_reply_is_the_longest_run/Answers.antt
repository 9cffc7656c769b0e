use Rattle.bus_types.proofs.Runs.{longest_run_exact}
use Rattle.bus_types.proofs.laws.a_reply_is_the_longest_run.Goals as goal

pub returns : goal.returns
returns c = longest_run_exact
