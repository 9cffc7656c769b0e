use Rattle.std.proofs.Common.{◌∙◌, ap}
use Rattle.event_codec.specs.Streams.{windows_bytes}
use Rattle.event_codec.proofs.Lendings.{windows_spelled}
use Rattle.event_codec.proofs.lent.Windows.bytes.Goals as goal

pub returns : goal.returns
returns c = windows_spelled c.self.inside.bytes.now c.self.invariant ∙ ap windows_bytes c.self.view_is
