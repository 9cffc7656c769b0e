use Rattle.std.proofs.Common.{◌∙◌, ap, sym}
use Rattle.event_codec.specs.View.{event_of}
use Rattle.event_codec.specs.Parsing.{first_event, behind_event}
use Rattle.event_codec.proofs.Lendings.{windows_event, windows_no_event}
use Rattle.event_codec.proofs.lent.Windows.event.Goals as goal

pub returns-in_err-view-clause-event : goal.returns-in_err-view-clause-event
returns-in_err-view-clause-event c =
    rw c.from_residual.ensures (sym (windows_no_event c.self.inside.bytes.now c.self.invariant c.in_err-view.ensures.found).0 ∙ ap first_event c.self.view_is)

pub returns-in_err-view-clause-behind : goal.returns-in_err-view-clause-behind
returns-in_err-view-clause-behind c =
    sym c.self.view_is ∙ (windows_no_event c.self.inside.bytes.now c.self.invariant c.in_err-view.ensures.found).1 ∙ ap behind_event c.self.view_is

pub invariant_of-self : goal.invariant_of-self
invariant_of-self c = (windows_event c.self.inside.bytes.now c.in_ok-view.behind.now (event_of c.in_ok-view.view) c.self.invariant c.in_ok-view.ensures.found).others

pub returns-clause-event : goal.returns-clause-event
returns-clause-event c =
    sym (windows_event c.self.inside.bytes.now c.in_ok-view.behind.now (event_of c.in_ok-view.view) c.self.invariant c.in_ok-view.ensures.found).first ∙ ap first_event c.self.view_is

pub returns-clause-behind : goal.returns-clause-behind
returns-clause-behind c =
    (windows_event c.self.inside.bytes.now c.in_ok-view.behind.now (event_of c.in_ok-view.view) c.self.invariant c.in_ok-view.ensures.found).behind ∙ ap behind_event c.self.view_is
