use Rattle.std.proofs.Common.{◌∙◌, ◌+◌, ◌<◌, length, drop, arith}
use Rattle.std.proofs.lemmas.Result.{err_from_is_err_and}
use Rattle.bus_types.specs.Cut.{cut}
use Rattle.event_codec.specs.Bytes.{window_bytes}
use Rattle.plain_buffer.specs.Send.{told}
use Rattle.plain_buffer.proofs.Sending.{awaits_more, awaits_stop, awaits_end, windows_left, windows_over}
use Rattle.plain_buffer.proofs.send.send_windows.Goals as goal

pub returns-in_err-done-clause-sends : goal.returns-in_err-done-clause-sends
returns-in_err-done-clause-sends g c =
    let p = err_from_is_err_and c.from_residual.result c.from_residual.ensures.1 in
    let test = g.F.Accepts.test c.args.filter.now in
    let ws = c.args.windows.now.items in
    let lt : c.args.from + c.loop-i.i < length ws = omega (arith, c.loop-i-test.true) in
    let left = windows_left test ws c.args.from c.loop-i.i c.args.count c.index.result.now c.loop-i-test.true lt c.index.ensures in
    rw (p.1, p.2) (awaits_stop (told (g.W.Sink.written c.args.out.now) (g.W.Sink.room c.args.out.now)) _ _ (told (g.W.Sink.written c.loop-i.out) (g.W.Sink.room c.loop-i.out)) (told (g.W.Sink.written c.send_window.new.out) (g.W.Sink.room c.send_window.new.out)) c.loop-i.done c.in_err-done.field-0.0 _ (window_bytes (cut test c.index.result.now)) _ left c.loop-i.invariant.sends c.in_err-done.ensures.sends)

pub loop-i-preserved : goal.loop-i-preserved
loop-i-preserved g c =
    let test = g.F.Accepts.test c.args.filter.now in
    let ws = c.args.windows.now.items in
    let lt : c.args.from + c.loop-i.i < length ws = omega (arith, c.loop-i-test.true) in
    let left = windows_left test ws c.args.from c.loop-i.i c.args.count c.index.result.now c.loop-i-test.true lt c.index.ensures in
    record {
      sends = awaits_more _ _ _ _ _ c.loop-i.done c.in_ok-done.done _ (window_bytes (cut test c.index.result.now)) _ left c.loop-i.invariant.sends c.in_ok-done.ensures.sends;
      room = omega (arith, c.in_ok-done.ensures.sends.0, c.in_ok-done.ensures.small);
      beside = c.in_ok-done.ensures.beside ∙ c.loop-i.invariant.beside;
      later = omega (arith, c.in_ok-done.ensures.cause.later);
    }

pub returns-clause-sends : goal.returns-clause-sends
returns-clause-sends g c =
    let test = g.F.Accepts.test c.args.filter.now in
    awaits_end _ _ _ _ c.loop-i.done _ (windows_over test (drop (c.args.from + c.loop-i.i) c.args.windows.now.items) c.args.count c.loop-i.i c.loop-i-test.false) c.loop-i.invariant.sends
