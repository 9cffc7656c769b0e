use Rattle.partition_filter.proofs.FilterTexts.{found, bad}
use Rattle.partition_filter.proofs.filter.Filter.read_bytes.Goals as goal

pub returns-clause-found : goal.returns-clause-found
returns-clause-found c = found c.selection.result c.args.text.now c.selection.ensures.exact

pub returns-clause-bad : goal.returns-clause-bad
returns-clause-bad c = bad c.selection.result c.args.text.now c.selection.ensures.exact
