use Rattle.std.proofs.Common.{ap, refl, ◌∙◌, arith}
use Rattle.std.specs.Prelude.{Err, flat_map}
use Rattle.std.proofs.lemmas.Result.{err_from_is_err_and}
use Rattle.dispatcher.specs.Callbacks.{window_calls}
use Rattle.event_codec.specs.Parsing.{others}
use Rattle.event_codec.proofs.Taking.{windows_less}
use Rattle.dispatcher.specs.Telling.{first_calls}
use Rattle.dispatcher.proofs.Lists.{completes_all, completes_more, completes_stop, completes_end, makes_err}
use Rattle.dispatcher.proofs.Runs.{calls_parts, calls_none}
use Rattle.dispatcher.proofs.window.windows.Goals as goal

pub loop-scn-init : goal.loop-scn-init
loop-scn-init g c = record { told = completes_all _ _ _ (ap (flat_map window_calls) c.again-left.ensures); later = omega arith }

pub returns-in_err-window-clause-told : goal.returns-in_err-window-clause-told
returns-in_err-window-clause-told g c =
    let p = err_from_is_err_and c.from_residual.result c.from_residual.ensures.1 in
    makes_err c.from_residual.result c.in_err-window.field-0.0 _ _ _ (p.1 ∙ ap Err p.2)
    (completes_stop c.in_err-window.field-0.0 _ _ (first_calls c.loop-scn.left) _ _ _ _ (calls_parts c.loop-scn.left (others c.loop-scn.left) refl) c.loop-scn.invariant.told c.in_err-window.ensures.told)

pub loop-scn-preserved : goal.loop-scn-preserved
loop-scn-preserved g c = record {
  told = completes_more _ _ (first_calls c.loop-scn.left) _ _ _ _ (calls_parts c.loop-scn.left c.window.new.left c.in_ok-window.ensures.behind) c.loop-scn.invariant.told c.in_ok-window.ensures.told;
  later = omega (arith, c.loop-scn.invariant.later, c.in_ok-window.ensures.cause.later);
}

pub loop-scn-smaller : goal.loop-scn-smaller
loop-scn-smaller g c = windows_less c.loop-scn.left c.window.new.left c.in-Some.scn c.in-Some.ensures c.in_ok-window.ensures.behind

pub returns-clause-told : goal.returns-clause-told
returns-clause-told g c = completes_end _ _ _ _ (calls_none c.loop-scn.left c.in_default.ensures) c.loop-scn.invariant.told
