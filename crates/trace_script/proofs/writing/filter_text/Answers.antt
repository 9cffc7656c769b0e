use Rattle.partition_filter.proofs.FilterTexts.{filter_taken}
use Rattle.trace_script.proofs.writing.filter_text.Goals as goal

pub returns-clause-within : goal.returns-clause-within
returns-clause-within c = (filter_taken _ c.args.filter.now c.write.ensures.read_back).0
