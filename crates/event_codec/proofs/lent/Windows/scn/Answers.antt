use Rattle.std.proofs.Common.{◌∙◌, ap, sym, refl}
use Rattle.event_codec.specs.View.{event_of}
use Rattle.event_codec.specs.Parsing.{first_scn}
use Rattle.event_codec.proofs.Lendings.{windows_event, windows_mark, windows_end}
use Rattle.event_codec.proofs.lent.Windows.scn.Goals as goal

pub returns-in-Some : goal.returns-in-Some
returns-in-Some c =
    sym (windows_event c.self.inside.bytes.now c.in-Some.field-0-2.now (event_of c.in-Some.view) c.self.invariant c.in-Some.ensures.found).scn ∙ ap first_scn c.self.view_is

pub returns-in_err-scn : goal.returns-in_err-scn
returns-in_err-scn c =
    rw c.from_residual.ensures (sym (ap first_scn (windows_end c.self.inside.bytes.now c.self.invariant c.in_default.ensures.found (sym c.in_err-scn.ensures.value))) ∙ ap first_scn c.self.view_is)

pub returns : goal.returns
returns c =
    sym (windows_mark c.self.inside.bytes.now _ (c.in_ok-scn.scn, c.in_ok-scn.field-0-1) c.self.invariant (sym c.in_ok-scn.ensures.value) refl).scn ∙ ap first_scn c.self.view_is
