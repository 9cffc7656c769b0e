use Rattle.std.proofs.Common.{◌∙◌, sym}
use Rattle.event_codec.specs.View.{event_of}
use Rattle.event_codec.proofs.Lendings.{run_next, run_end}
use Rattle.event_codec.proofs.lent.Run.next.Goals as goal

pub returns-in_err-view-clause-event : goal.returns-in_err-view-clause-event
returns-in_err-view-clause-event c =
    let none = sym c.self.view_is ∙ run_end c.self.inside.bytes.now c.self.invariant c.in_err-view.ensures.found in
    rw c.from_residual.ensures (none, none)

pub invariant_of-self : goal.invariant_of-self
invariant_of-self c = (run_next c.self.inside.bytes.now c.in_ok-view.behind.now (event_of c.in_ok-view.view) c.self.invariant c.in_ok-view.ensures.found).others

pub returns-clause-event : goal.returns-clause-event
returns-clause-event c = sym c.self.view_is ∙ (run_next c.self.inside.bytes.now c.in_ok-view.behind.now (event_of c.in_ok-view.view) c.self.invariant c.in_ok-view.ensures.found).first
