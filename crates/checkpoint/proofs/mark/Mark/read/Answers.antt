use Rattle.std.proofs.Common.{sym, subst, ◌∙◌}
use Rattle.checkpoint.specs.Mark.{MayBeMark}
use Rattle.checkpoint.proofs.TextBounds.{mark_may_be}
use Rattle.checkpoint.proofs.mark.Mark.read.Goals as goal

pub returns-then-not-may_be_mark-clause-bad : goal.returns-then-not-may_be_mark-clause-bad
returns-then-not-may_be_mark-clause-bad c bad mark lawful same =
    let passes = c.may_be_mark.ensures.1 (subst MayBeMark (sym (c.bytes.ensures ∙ same)) (mark_may_be mark lawful)) in
    cc (passes, c.if-not-may_be_mark.true)
