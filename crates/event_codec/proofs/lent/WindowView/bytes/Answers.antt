use Rattle.std.proofs.Common.{◌∙◌, ap, sym}
use Rattle.event_codec.specs.Bytes.{window_bytes}
use Rattle.event_codec.proofs.Lendings.{window_seen}
use Rattle.event_codec.proofs.lent.WindowView.bytes.Goals as goal

pub returns : goal.returns
returns c = let inside = c.self.inside in c.self.invariant.spelled ∙ ap window_bytes (sym (window_seen inside.scn inside.prev inside.bytes.now c.self.invariant) ∙ c.self.view_is)
