use Rattle.event_codec.proofs.Parsings.{events_are}
use Rattle.event_codec.proofs.lent.Run.of.Goals as goal

pub returns : goal.returns
returns c = λ events are. events_are events c.args.bytes.now are
