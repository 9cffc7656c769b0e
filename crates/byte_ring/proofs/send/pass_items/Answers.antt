use Rattle.std.proofs.Common.{length-append, arith}
use Rattle.std.proofs.lemmas.Result.{err_from_is_err_and}
use Rattle.bus_types.specs.Change.{accepted}
use Rattle.bus_types.specs.Cut.{cut}
use Rattle.event_codec.specs.Bytes.{changes_bytes, mark_bytes}
use Rattle.event_codec.proofs.Cuts.{cut_no_larger}
use Rattle.event_codec.proofs.WindowBytes.{window_length}
use Rattle.plain_buffer.specs.Send.{told}
use Rattle.byte_ring.proofs.Moving.{moves_stop, moves_then}
use Rattle.byte_ring.proofs.send.pass_items.Goals as goal

pub returns-in_err-pending-clause-moves : goal.returns-in_err-pending-clause-moves
returns-in_err-pending-clause-moves g c =
    let p = err_from_is_err_and c.from_residual.result c.from_residual.ensures.1 in
    let w = c.args.slot.now.window.value in
    let events = changes_bytes w.scn (accepted (g.F.Accepts.test c.args.filter.now) w.changes) in
    rw (p.1, p.2) (moves_stop c.args.bytes.now (told (g.W.Sink.written c.args.out.now) (g.W.Sink.room c.args.out.now)) (told (g.W.Sink.written c.pass_events.new.out) (g.W.Sink.room c.pass_events.new.out)) c.args.pending c.in_err-pending.field-0.0 events (mark_bytes w.scn w.prev) c.in_err-pending.ensures.moves)

pub pass_mark-requires-clause-few : goal.pass_mark-requires-clause-few
pass_mark-requires-clause-few g c =
    let w = c.args.slot.now.window.value in
    let test = g.F.Accepts.test c.args.filter.now in
    let events = changes_bytes w.scn (accepted test w.changes) in
    omega (arith, c.in_ok-pending.ensures.moves.count, c.requires.few, window_length (cut test w), length-append events (mark_bytes w.scn w.prev), cut_no_larger test w c.requires.there.is)

pub returns-clause-moves : goal.returns-clause-moves
returns-clause-moves g c =
    let w = c.args.slot.now.window.value in
    let events = changes_bytes w.scn (accepted (g.F.Accepts.test c.args.filter.now) w.changes) in
    moves_then c.args.bytes.now _ _ _ c.args.pending c.in_ok-pending.pending c.pass_mark.result events (mark_bytes w.scn w.prev) c.in_ok-pending.ensures.moves c.pass_mark.ensures.moves
