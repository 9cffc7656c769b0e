use Rattle.std.proofs.Common.{sym, ap, ◌∙◌}
use Rattle.snapshot_applier.specs.BootMark.{boot_mark_text}
use Rattle.snapshot_applier.proofs.text.read_boot.Goals as goal

pub returns-then-not-branch-clause-bad : goal.returns-then-not-branch-clause-bad
returns-then-not-branch-clause-bad c bad mark lawful same =
    let is = c.in_ok-mark.ensures.only mark lawful (c.bytes.ensures ∙ same) in
    let passes = c.in_ok-is_text_of.ensures.1 (same ∙ sym (ap boot_mark_text is)) in
    cc (passes, c.if-not-branch.true)
