use Rattle.std.proofs.Common.{◌∙◌, ap, sym, refl}
use Rattle.event_codec.specs.Parsing.{window_events}
use Rattle.event_codec.proofs.Parsings.{events_are}
use Rattle.event_codec.proofs.Lendings.{window_seen, window_run}
use Rattle.event_codec.proofs.lent.WindowView.events.Goals as goal

pub invariant_of-result : goal.invariant_of-result
invariant_of-result c =
    let inside = c.self.inside in
    (window_events c.self.invariant.window, window_run inside.scn inside.prev inside.bytes.now _ c.self.invariant refl)

pub returns : goal.returns
returns c =
    let inside = c.self.inside in
    let is = c.self.invariant in
    events_are (window_events is.window) _ (window_run inside.scn inside.prev inside.bytes.now _ is refl) ∙ ap window_events (sym (window_seen inside.scn inside.prev inside.bytes.now is) ∙ c.self.view_is)
