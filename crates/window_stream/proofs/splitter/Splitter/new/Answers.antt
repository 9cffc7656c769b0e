use Rattle.std.proofs.Common.{rules}
use Rattle.window_stream.proofs.Whole.{reads_nothing}
use Rattle.window_stream.proofs.splitter.Splitter.new.Goals as goal

pub returns-clause-reads : goal.returns-clause-reads
returns-clause-reads c = reads_nothing c.args.floor c.new.result.items (search rules)
