use Rattle.std.proofs.Common.{sym}
use Rattle.std.proofs.lemmas.Result.{err_from_is_err_and}
use Rattle.trace_script.proofs.Changes.{with_front-more, with_front-bad, with_front-all, with_front-last}
use Rattle.trace_script.proofs.change.changes.Goals as goal

pub returns-in_err-change : goal.returns-in_err-change
returns-in_err-change c =
    let p = err_from_is_err_and c.from_residual-in_err-change.result c.from_residual-in_err-change.ensures.1 in
    rw (p.1, p.2) (with_front-bad _ c.words.changes.items c.words.rest.now c.in-Some.word.now c.in-Some.behind.now _ (sym c.in-Some.ensures) c.in_err-change.ensures c.words.invariant)

pub words-preserved : goal.words-preserved
words-preserved c =
    with_front-more c.words.changes.items _ c.in_ok-change.field-0 c.words.rest.now c.in-Some.word.now c.in-Some.behind.now _ (sym c.in-Some.ensures) c.in_ok-change.ensures c.in_ok-push.ensures.items c.words.invariant

pub returns-in_err-change-2 : goal.returns-in_err-change-2
returns-in_err-change-2 c =
    let p = err_from_is_err_and c.from_residual-in_err-change-2.result c.from_residual-in_err-change-2.ensures.1 in
    rw (p.1, p.2) (with_front-last _ c.words.changes.items c.words.rest.now _ (sym c.in_default.ensures) c.in_err-change-2.ensures c.words.invariant)

pub returns : goal.returns
returns c = with_front-all c.words.changes.items _ c.in_ok-change-2.field-0 c.words.rest.now _ (sym c.in_default.ensures) c.in_ok-change-2.ensures c.in_ok-push-2.ensures.items c.words.invariant
