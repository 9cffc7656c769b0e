use Rattle.window_stream.proofs.Whole.{carries}
use Rattle.window_stream.proofs.splitter.Splitter.feed.Goals as goal

pub returns-clause-stream : goal.returns-clause-stream
returns-clause-stream c = carries c.take.result c.args.self.now c.args.piece.now c.take.new.self c.args.whole.now.items c.take.new.whole.items c.take.ensures
