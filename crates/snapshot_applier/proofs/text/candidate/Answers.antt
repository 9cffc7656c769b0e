use Rattle.std.proofs.Common.{◌≡◌, Err, ap, sym, ◌∙◌}
use Rattle.std.proofs.lemmas.Result.{err_from_is_err_and}
use Rattle.serde_json.specs.View.{view}
use Rattle.snapshot_applier.specs.declared.fault.BootTextFault.TheVariants.{BadMark}
use Rattle.json_forms.proofs.ObjectTexts.{only_value, refused_value}
use Rattle.snapshot_applier.proofs.BootTexts.{boot_form}
use Rattle.snapshot_applier.proofs.text.candidate.Goals as goal

pub returns-in_err-value-clause-bad : goal.returns-in_err-value-clause-bad
returns-in_err-value-clause-bad c =
    let p = err_from_is_err_and c.from_residual.result c.from_residual.ensures.1 in
    rw (p.1, p.2) (λ bad mark lawful same.
    let is : c.in_err-value.field-0.0 ≡ BadMark = cc bad in
    refused_value boot_form c.args.bytes.now (c.in_err-value.ensures.bad (ap Err is)) mark lawful same)

pub returns-in_default-clause-bad : goal.returns-in_default-clause-bad
returns-in_default-clause-bad c bad mark lawful same =
    let found = only_value boot_form c.args.bytes.now (view c.in_ok-value.value) mark c.in_ok-value.ensures.value lawful same in
    let both = sym c.in_default.is ∙ (c.mark_in.ensures ∙ found) in
    cc both

pub returns-then-not-is_boot_mark-clause-bad : goal.returns-then-not-is_boot_mark-clause-bad
returns-then-not-is_boot_mark-clause-bad c bad mark lawful same =
    let found = only_value boot_form c.args.bytes.now (view c.in_ok-value.value) mark c.in_ok-value.ensures.value lawful same in
    let both = sym c.in-Some.is ∙ (c.mark_in.ensures ∙ found) in
    let is : c.in-Some.mark ≡ mark = cc both in
    let passes = c.is_boot_mark.ensures.1 (rw is lawful) in
    cc (passes, c.if-not-is_boot_mark.true)

pub returns-clause-only : goal.returns-clause-only
returns-clause-only c mark lawful same =
    let found = only_value boot_form c.args.bytes.now (view c.in_ok-value.value) mark c.in_ok-value.ensures.value lawful same in
    let both = sym c.in-Some.is ∙ (c.mark_in.ensures ∙ found) in
    cc both
