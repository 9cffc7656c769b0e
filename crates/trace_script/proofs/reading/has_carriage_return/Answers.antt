use Rattle.std.proofs.Common.{◌∙◌}
use Rattle.trace_script.proofs.ByteSearch.{is_there}
use Rattle.trace_script.proofs.reading.has_carriage_return.Goals as goal

pub returns : goal.returns
returns c = c.is_some.ensures ∙ is_there 13 c.args.text.now c.memchr.result c.memchr.ensures
