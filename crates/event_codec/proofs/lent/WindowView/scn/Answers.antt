use Rattle.std.proofs.Common.{◌∙◌, ap, sym, subst}
use Rattle.bus_types.specs.Window.{Span, IsSpan}
use Rattle.event_codec.proofs.Lendings.{window_seen}
use Rattle.event_codec.proofs.lent.WindowView.scn.Goals as goal

pub returns-clause-value : goal.returns-clause-value
returns-clause-value c =
    let inside = c.self.inside in
    c.self.invariant.scn ∙ ap (λ (w : Span). w.scn) (sym (window_seen inside.scn inside.prev inside.bytes.now c.self.invariant) ∙ c.self.view_is)

pub returns-clause-fits : goal.returns-clause-fits
returns-clause-fits c = let inside = c.self.inside in subst IsSpan (sym (window_seen inside.scn inside.prev inside.bytes.now c.self.invariant) ∙ c.self.view_is) c.self.invariant.within
