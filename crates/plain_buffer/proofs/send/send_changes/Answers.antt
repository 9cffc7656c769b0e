use Rattle.std.proofs.Common.{◌∙◌, arith}
use Rattle.std.proofs.lemmas.Result.{err_from_is_err_and}
use Rattle.event_codec.specs.Writing.{accepted_bytes}
use Rattle.plain_buffer.specs.Send.{told}
use Rattle.plain_buffer.proofs.Sending.{awaits_more, awaits_stop, awaits_end, changes_left, changes_over, sizes_left, accepted_short}
use Rattle.plain_buffer.proofs.send.send_changes.Goals as goal

pub returns-in_err-done-clause-sends : goal.returns-in_err-done-clause-sends
returns-in_err-done-clause-sends g c =
    let p = err_from_is_err_and c.from_residual.result c.from_residual.ensures.1 in
    let test = g.F.Accepts.test c.args.filter.now in
    let i = c.loop-change.change-index in
    let left = changes_left test c.args.scn c.args.changes.now i c.change-item.result c.loop-change-test.true c.change-item.is in
    rw (p.1, p.2) (awaits_stop (told (g.W.Sink.written c.args.out.now) (g.W.Sink.room c.args.out.now)) _ _ (told (g.W.Sink.written c.loop-change.out) (g.W.Sink.room c.loop-change.out)) (told (g.W.Sink.written c.send_accepted.new.out) (g.W.Sink.room c.send_accepted.new.out)) c.loop-change.done c.in_err-done.field-0.0 _ (accepted_bytes test c.args.scn c.change-item.result) _ left c.loop-change.invariant.sends c.in_err-done.ensures.sends)

pub loop-change-preserved : goal.loop-change-preserved
loop-change-preserved g c =
    let test = g.F.Accepts.test c.args.filter.now in
    let i = c.loop-change.change-index in
    let left = changes_left test c.args.scn c.args.changes.now i c.change-item.result c.loop-change-test.true c.change-item.is in
    let sizes = sizes_left c.args.changes.now i c.change-item.result c.loop-change-test.true c.change-item.is in
    let short = accepted_short test c.args.scn c.change-item.result in
    record {
      sends = awaits_more _ _ _ _ _ c.loop-change.done c.in_ok-done.done _ (accepted_bytes test c.args.scn c.change-item.result) _ left c.loop-change.invariant.sends c.in_ok-done.ensures.sends;
      room = omega (arith, c.in_ok-done.ensures.sends.0);
      beside = c.in_ok-done.ensures.beside ∙ c.loop-change.invariant.beside;
      later = omega (arith, c.in_ok-done.ensures.cause.later);
    }

pub returns-clause-sends : goal.returns-clause-sends
returns-clause-sends g c =
    let test = g.F.Accepts.test c.args.filter.now in
    awaits_end _ _ _ _ c.loop-change.done _ (changes_over test c.args.scn c.args.changes.now c.loop-change.change-index c.loop-change-test.false) c.loop-change.invariant.sends
