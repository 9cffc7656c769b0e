use Rattle.std.proofs.Common.{length, length-append, sym, ap, ◌∙◌, subst, refl, arith, Err}
use Rattle.std.proofs.lemmas.Result.{err_from_is_err_and}
use Rattle.bus_types.specs.Change.{accepted}
use Rattle.event_codec.specs.Bytes.{changes_bytes, mark_bytes}
use Rattle.plain_buffer.specs.Send.{told, Sends}
use Rattle.plain_buffer.proofs.Sending.{sends_then, sends_stop, window_parts, cut_short}
use Rattle.plain_buffer.proofs.send.send_window.Goals as goal

pub returns-in_err-done-clause-small : goal.returns-in_err-done-clause-small
returns-in_err-done-clause-small g c = cut_short (g.F.Accepts.test c.args.filter.now) c.args.window.now c.scn-scn.ensures.fits

pub returns-in_err-done-clause-sends : goal.returns-in_err-done-clause-sends
returns-in_err-done-clause-sends g c =
    let p = err_from_is_err_and c.from_residual.result c.from_residual.ensures.1 in
    let test = g.F.Accepts.test c.args.filter.now in
    let w = c.args.window.now in
    let mark = mark_bytes c.scn-scn.result w.prev in
    let events = changes_bytes c.scn-scn.result (accepted test c.changes.result.now) in
    let whole = window_parts test w c.scn-scn.result w.prev c.changes.result.now mark c.scn-scn.ensures.value refl c.changes.ensures refl in
    rw (p.1, p.2) (subst (Sends (told (g.W.Sink.written c.args.out.now) (g.W.Sink.room c.args.out.now)) (told (g.W.Sink.written c.send_changes.new.out) (g.W.Sink.room c.send_changes.new.out)) c.args.done (Err c.in_err-done.field-0.0)) (sym whole)
    (sends_stop (told (g.W.Sink.written c.args.out.now) (g.W.Sink.room c.args.out.now)) (told (g.W.Sink.written c.send_changes.new.out) (g.W.Sink.room c.send_changes.new.out)) c.args.done c.in_err-done.field-0.0 events mark c.in_err-done.ensures.sends))

pub send_bytes-requires : goal.send_bytes-requires
send_bytes-requires g c =
    let test = g.F.Accepts.test c.args.filter.now in
    let w = c.args.window.now in
    let events = changes_bytes c.scn-scn.result (accepted test c.changes.result.now) in
    let whole = window_parts test w c.scn-scn.result c.prev.result c.changes.result.now c.mark_bytes.result c.scn-scn.ensures.value c.prev.ensures c.changes.ensures c.mark_bytes.ensures in
    let long = ap (λ bytes. length bytes) whole ∙ length-append events c.mark_bytes.result in
    let short = cut_short test w c.scn-scn.ensures.fits in
    omega (arith, c.in_ok-done.ensures.sends.0)

pub returns-clause-sends : goal.returns-clause-sends
returns-clause-sends g c =
    let test = g.F.Accepts.test c.args.filter.now in
    let events = changes_bytes c.scn-scn.result (accepted test c.changes.result.now) in
    let whole = window_parts test c.args.window.now c.scn-scn.result c.prev.result c.changes.result.now c.mark_bytes.result c.scn-scn.ensures.value c.prev.ensures c.changes.ensures c.mark_bytes.ensures in
    subst (Sends (told (g.W.Sink.written c.args.out.now) (g.W.Sink.room c.args.out.now)) (told (g.W.Sink.written c.send_bytes.new.out) (g.W.Sink.room c.send_bytes.new.out)) c.args.done c.send_bytes.result) (sym whole)
    (sends_then _ _ _ c.args.done c.in_ok-done.done c.send_bytes.result events c.mark_bytes.result c.in_ok-done.ensures.sends c.send_bytes.ensures.sends)

pub returns-clause-small : goal.returns-clause-small
returns-clause-small g c = cut_short (g.F.Accepts.test c.args.filter.now) c.args.window.now c.scn-scn.ensures.fits
