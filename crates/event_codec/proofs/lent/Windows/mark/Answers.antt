use Rattle.std.proofs.Common.{◌∙◌, ap, sym}
use Rattle.event_codec.specs.Parsing.{first_mark, behind_mark}
use Rattle.event_codec.proofs.Lendings.{windows_mark, windows_no_mark}
use Rattle.event_codec.proofs.lent.Windows.mark.Goals as goal

pub returns-in_err-mark-clause-mark : goal.returns-in_err-mark-clause-mark
returns-in_err-mark-clause-mark c =
    rw c.from_residual.ensures (sym (windows_no_mark c.self.inside.bytes.now c.self.invariant (sym c.in_err-mark.ensures.value)).0 ∙ ap first_mark c.self.view_is)

pub returns-in_err-mark-clause-behind : goal.returns-in_err-mark-clause-behind
returns-in_err-mark-clause-behind c =
    sym c.self.view_is ∙ (windows_no_mark c.self.inside.bytes.now c.self.invariant (sym c.in_err-mark.ensures.value)).1 ∙ ap behind_mark c.self.view_is

pub invariant_of-self : goal.invariant_of-self
invariant_of-self c = (windows_mark c.self.inside.bytes.now c.split_at.result.1.now c.in_ok-mark.mark c.self.invariant (sym c.in_ok-mark.ensures.value) c.split_at.ensures.back).others

pub returns-clause-mark : goal.returns-clause-mark
returns-clause-mark c =
    sym (windows_mark c.self.inside.bytes.now c.split_at.result.1.now c.in_ok-mark.mark c.self.invariant (sym c.in_ok-mark.ensures.value) c.split_at.ensures.back).first ∙ ap first_mark c.self.view_is

pub returns-clause-behind : goal.returns-clause-behind
returns-clause-behind c =
    (windows_mark c.self.inside.bytes.now c.split_at.result.1.now c.in_ok-mark.mark c.self.invariant (sym c.in_ok-mark.ensures.value) c.split_at.ensures.back).behind ∙ ap behind_mark c.self.view_is
