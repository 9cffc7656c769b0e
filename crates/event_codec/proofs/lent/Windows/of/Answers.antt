use Rattle.event_codec.proofs.Parsings.{windows_are}
use Rattle.event_codec.proofs.lent.Windows.of.Goals as goal

pub returns : goal.returns
returns c = λ windows are. windows_are windows c.args.bytes.now are
