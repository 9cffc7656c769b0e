use Rattle.trace_script.proofs.LineLaws.{within_limits}
use Rattle.trace_script.proofs.laws.the_limits_of_inputs.Goals as goal

pub returns : goal.returns
returns c = within_limits
