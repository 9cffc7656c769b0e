use Rattle.std.proofs.Common.{◌+◌, drop, sym, ◌∙◌, arith}
use Rattle.std.proofs.lemmas.Option.{get_or_from_slice_get}
use Rattle.std.proofs.lemmas.Result.{err_from_is_err_and}
use Rattle.plain_buffer.specs.Send.{told}
use Rattle.plain_buffer.proofs.Sending.{windows_left, windows_over, cut_short}
use Rattle.byte_ring.proofs.Moving.{moves_more, moves_broken, moves_end, moves_fault, moves_sends}
use Rattle.byte_ring.proofs.send.send_windows.Goals as goal

pub returns-in_err-pending-clause-sends : goal.returns-in_err-pending-clause-sends
returns-in_err-pending-clause-sends g c =
    let p = err_from_is_err_and c.from_residual.result c.from_residual.ensures.1 in
    let test = g.F.Accepts.test c.args.filter.now in
    let ws = c.args.kept.now.windows in
    let bytes = c.bytes-bytes.result in
    let w = c.window-at.result.1.now.window.value in
    let is = sym (get_or_from_slice_get ws (c.args.from + c.loop-i.i) w w c.window-at.ensures.window) in
    let left = windows_left test ws c.args.from c.loop-i.i c.args.count w c.loop-i-test.true (omega (arith, c.loop-i-test.true, c.requires)) is in
    let fault = c.in_err-pending.field-0.0 in
    let broken = moves_broken bytes (told (g.W.Sink.written c.args.out.now) (g.W.Sink.room c.args.out.now)) _ _ (told (g.W.Sink.written c.loop-i.out) (g.W.Sink.room c.loop-i.out)) (told (g.W.Sink.written c.pass_items.new.out) (g.W.Sink.room c.pass_items.new.out)) c.loop-i.pending fault _ _ _ left c.loop-i.invariant.moves c.in_err-pending.ensures.moves in
    rw (p.1, p.2) (moves_fault bytes (told (g.W.Sink.written c.args.out.now) (g.W.Sink.room c.args.out.now)) (told (g.W.Sink.written c.pass_items.new.out) (g.W.Sink.room c.pass_items.new.out)) fault _ broken)

pub loop-i-preserved : goal.loop-i-preserved
loop-i-preserved g c =
    let test = g.F.Accepts.test c.args.filter.now in
    let ws = c.args.kept.now.windows in
    let bytes = c.bytes-bytes.result in
    let w = c.window-at.result.1.now.window.value in
    let is = sym (get_or_from_slice_get ws (c.args.from + c.loop-i.i) w w c.window-at.ensures.window) in
    let left = windows_left test ws c.args.from c.loop-i.i c.args.count w c.loop-i-test.true (omega (arith, c.loop-i-test.true, c.requires)) is in
    let moved = c.in_ok-pending.ensures.moves in
    record {
      moves = moves_more bytes (told (g.W.Sink.written c.args.out.now) (g.W.Sink.room c.args.out.now)) _ _ (told (g.W.Sink.written c.loop-i.out) (g.W.Sink.room c.loop-i.out)) (told (g.W.Sink.written c.pass_items.new.out) (g.W.Sink.room c.pass_items.new.out)) c.loop-i.pending c.in_ok-pending.pending _ _ _ left c.loop-i.invariant.moves moved;
      awaiting = moved.awaiting;
      few = omega (arith, moved.count, c.loop-i.invariant.few, cut_short test w c.window-at.ensures.there.is);
      beside = c.in_ok-pending.ensures.beside ∙ c.loop-i.invariant.beside;
      later = omega (arith, c.in_ok-pending.ensures.cause.later, c.loop-i.invariant.later);
    }

pub returns-clause-sends : goal.returns-clause-sends
returns-clause-sends g c =
    let test = g.F.Accepts.test c.args.filter.now in
    let bytes = c.bytes-bytes.result in
    let over = windows_over test (drop (c.args.from + c.loop-i.i) c.args.kept.now.windows) c.args.count c.loop-i.i c.loop-i-test.false in
    let all = moves_end bytes _ _ _ _ c.loop-i.pending _ over c.loop-i.invariant.awaiting c.loop-i.invariant.moves in
    moves_sends bytes (told (g.W.Sink.written c.args.out.now) (g.W.Sink.room c.args.out.now)) (told (g.W.Sink.written c.loop-i.out) (g.W.Sink.room c.loop-i.out)) (told (g.W.Sink.written c.send_pending.new.out) (g.W.Sink.room c.send_pending.new.out)) c.loop-i.pending c.send_pending.result _ all c.send_pending.ensures.sends
