use Rattle.std.proofs.Common.{[], ◌∷◌, map, ap, ◌∙◌, arith}
use Rattle.std.specs.Prelude.{Err}
use Rattle.std.proofs.lemmas.Result.{err_from_is_err_and}
use Rattle.event_codec.specs.View.{event_of}
use Rattle.dispatcher.specs.Callbacks.Callback.{OnEvent}
use Rattle.dispatcher.proofs.Lists.{completes_all, completes_more, completes_stop, completes_end, makes_err}
use Rattle.dispatcher.proofs.run.events.Goals as goal

pub loop-view-init : goal.loop-view-init
loop-view-init g c = record { told = completes_all _ _ _ (ap (map (OnEvent c.args.scn)) c.again-left.ensures); later = omega arith }

pub returns-in_err-event-clause-told : goal.returns-in_err-event-clause-told
returns-in_err-event-clause-told g c =
    let p = err_from_is_err_and c.from_residual.result c.from_residual.ensures.1 in
    makes_err c.from_residual.result c.in_err-event.field-0.0 _ _ _ (p.1 ∙ ap Err p.2)
    (completes_stop c.in_err-event.field-0.0 _ _ _ _ _ _ _ (ap (map (OnEvent c.args.scn)) c.in-Some.ensures.event) c.loop-view.invariant.told c.in_err-event.ensures.told)

pub loop-view-preserved : goal.loop-view-preserved
loop-view-preserved g c = record {
  told = completes_more _ _ (OnEvent c.args.scn (event_of c.in-Some.view) ∷ []) _ _ _ _ (ap (map (OnEvent c.args.scn)) c.in-Some.ensures.event) c.loop-view.invariant.told c.in_ok-event.ensures.told;
  later = omega (arith, c.loop-view.invariant.later, c.in_ok-event.ensures.cause.later);
}

pub returns-clause-told : goal.returns-clause-told
returns-clause-told g c = completes_end _ _ _ _ (ap (map (OnEvent c.args.scn)) c.in_default.ensures.event.0) c.loop-view.invariant.told
