use Rattle.event_codec.proofs.Replying.{closing_is}
use Rattle.event_codec.proofs.reply.closing_scn.Goals as goal

pub returns : goal.returns
returns c = λ events closing are.
    closing_is events closing c.args.bytes.now c.last_chunk.result c.unwrap.result c.from_be_bytes.result are c.last_chunk.ensures.cases c.unwrap.ensures c.from_be_bytes.ensures
