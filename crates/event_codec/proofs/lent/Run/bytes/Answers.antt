use Rattle.std.proofs.Common.{◌∙◌, ap}
use Rattle.event_codec.specs.Parsing.{events_bytes}
use Rattle.event_codec.proofs.Lendings.{run_bytes}
use Rattle.event_codec.proofs.lent.Run.bytes.Goals as goal

pub returns : goal.returns
returns c = run_bytes c.self.inside.bytes.now c.self.invariant ∙ ap events_bytes c.self.view_is
