use Rattle.std.proofs.lemmas.Result.{err_from_is_err_and}
use Rattle.trace_script.proofs.WrittenTexts.{stands}
use Rattle.trace_script.proofs.writing.append_changes.Goals as goal

pub returns-in_err-append_change : goal.returns-in_err-append_change
returns-in_err-append_change c =
    let p = err_from_is_err_and c.from_residual.result c.from_residual.ensures.1 in
    rw p.1 (stands _ _ _ _ c.loop-change.invariant c.in_err-append_change.ensures)
