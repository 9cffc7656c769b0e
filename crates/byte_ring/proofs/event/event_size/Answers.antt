use Rattle.byte_ring.proofs.Standing.{size_read}
use Rattle.byte_ring.proofs.event.event_size.Goals as goal

pub returns : goal.returns
returns c = λ e rest there is. size_read c.args.bytes.now c.args.at c.word.result e rest c.word.ensures there is
