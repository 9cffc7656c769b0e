use Rattle.std.proofs.Common.{◌∙◌, ap, sym}
use Rattle.bus_types.specs.Window.{Span}
use Rattle.event_codec.proofs.Lendings.{window_seen}
use Rattle.event_codec.proofs.lent.WindowView.prev.Goals as goal

pub returns : goal.returns
returns c =
    let inside = c.self.inside in
    c.self.invariant.prev ∙ ap (λ (w : Span). w.prev) (sym (window_seen inside.scn inside.prev inside.bytes.now c.self.invariant) ∙ c.self.view_is)
