use Rattle.std.proofs.Common.{◌+◌, ◌<◌, ◌∙◌, length, arith}
use Rattle.std.proofs.lemmas.Bool.{ltb-true, lt-ltb}
use Rattle.std.proofs.lemmas.Result.{err_from_is_err_and}
use Rattle.plain_buffer.specs.Send.{told}
use Rattle.plain_buffer.proofs.Sending.{changes_over}
use Rattle.byte_ring.proofs.Moving.{moves_more, moves_broken, moves_end}
use Rattle.byte_ring.proofs.Standing.{event, events_there, next_event, bytes_next, part_short}
use Rattle.byte_ring.proofs.send.pass_events.Goals as goal

pub size_left-size-requires : goal.size_left-size-requires
size_left-size-requires g c some =
    let bytes = c.args.bytes.now in
    let slot = c.args.slot.now in
    let lt : 0 < length slot.window.value.changes = omega (arith, c.requires.there.count, ltb-true 0 slot.count some) in
    (next_event bytes c.args.at slot.window.value 0 c.requires.there.is lt (events_there bytes c.args.at slot c.requires.there)).head

pub size_left-next_size-requires : goal.size_left-next_size-requires
size_left-next_size-requires g c more =
    let bytes = c.args.bytes.now in
    let w = c.args.slot.now.window.value in
    let lt : c.loop-i.i < length w.changes = omega (arith, c.requires.there.count, c.loop-i-test.true) in
    let n = next_event bytes c.loop-i.place w c.loop-i.i c.requires.there.is lt c.loop-i.invariant.there in
    let is = c.loop-i.invariant.size (omega (arith, c.loop-i-test.true)) (event w.scn n.c) n.there.rest n.there.there n.is in
    let lt_more : c.loop-i.i + 1 < length w.changes = omega (arith, c.requires.there.count, ltb-true (c.loop-i.i + 1) c.args.slot.now.count more) in
    (next_event bytes (c.loop-i.place + c.loop-i.size) w (c.loop-i.i + 1) c.requires.there.is lt_more (rw is n.next)).head

pub accepts_event-accepted-requires : goal.accepts_event-accepted-requires
accepts_event-accepted-requires g c =
    let bytes = c.args.bytes.now in
    let w = c.args.slot.now.window.value in
    let lt : c.loop-i.i < length w.changes = omega (arith, c.requires.there.count, c.loop-i-test.true) in
    let n = next_event bytes c.loop-i.place w c.loop-i.i c.requires.there.is lt c.loop-i.invariant.there in
    n.head

pub pass_event-requires-clause-within : goal.pass_event-requires-clause-within
pass_event-requires-clause-within g c =
    let bytes = c.args.bytes.now in
    let w = c.args.slot.now.window.value in
    let lt : c.loop-i.i < length w.changes = omega (arith, c.requires.there.count, c.loop-i-test.true) in
    let n = next_event bytes c.loop-i.place w c.loop-i.i c.requires.there.is lt c.loop-i.invariant.there in
    let is = c.loop-i.invariant.size (omega (arith, c.loop-i-test.true)) (event w.scn n.c) n.there.rest n.there.there n.is in
    omega (arith, is, n.within)

pub returns-in_err-pending-clause-moves : goal.returns-in_err-pending-clause-moves
returns-in_err-pending-clause-moves g c =
    let p = err_from_is_err_and c.from_residual.result c.from_residual.ensures.1 in
    let bytes = c.args.bytes.now in
    let w = c.args.slot.now.window.value in
    let lt : c.loop-i.i < length w.changes = omega (arith, c.requires.there.count, c.loop-i-test.true) in
    let n = next_event bytes c.loop-i.place w c.loop-i.i c.requires.there.is lt c.loop-i.invariant.there in
    let is = c.loop-i.invariant.size (omega (arith, c.loop-i-test.true)) (event w.scn n.c) n.there.rest n.there.there n.is in
    let same = c.accepts_event-accepted.ensures (event w.scn n.c) n.there.rest n.there.there n.is in
    let test = g.F.Accepts.test c.args.filter.now in
    let left = bytes_next test bytes c.loop-i.place w.scn w.changes c.loop-i.i n c.loop-i.size c.accepts_event-accepted.result is same in
    rw (p.1, p.2) (moves_broken bytes (told (g.W.Sink.written c.args.out.now) (g.W.Sink.room c.args.out.now)) c.args.pending _ (told (g.W.Sink.written c.loop-i.out) (g.W.Sink.room c.loop-i.out)) (told (g.W.Sink.written c.pass_event.new.out) (g.W.Sink.room c.pass_event.new.out)) c.loop-i.pending c.in_err-pending.field-0.0 _ _ _ left c.loop-i.invariant.moves c.in_err-pending.ensures.moves)

pub overflow_add-next : goal.overflow_add-next
overflow_add-next g c =
    let bytes = c.args.bytes.now in
    let w = c.args.slot.now.window.value in
    let lt : c.loop-i.i < length w.changes = omega (arith, c.requires.there.count, c.loop-i-test.true) in
    let n = next_event bytes c.loop-i.place w c.loop-i.i c.requires.there.is lt c.loop-i.invariant.there in
    let is = c.loop-i.invariant.size (omega (arith, c.loop-i-test.true)) (event w.scn n.c) n.there.rest n.there.there n.is in
    omega (arith, is, n.within, c.len-within.ensures)

pub loop-i-preserved : goal.loop-i-preserved
loop-i-preserved g c =
    let bytes = c.args.bytes.now in
    let w = c.args.slot.now.window.value in
    let lt : c.loop-i.i < length w.changes = omega (arith, c.requires.there.count, c.loop-i-test.true) in
    let n = next_event bytes c.loop-i.place w c.loop-i.i c.requires.there.is lt c.loop-i.invariant.there in
    let is = c.loop-i.invariant.size (omega (arith, c.loop-i-test.true)) (event w.scn n.c) n.there.rest n.there.there n.is in
    let same = c.accepts_event-accepted.ensures (event w.scn n.c) n.there.rest n.there.there n.is in
    let test = g.F.Accepts.test c.args.filter.now in
    let left = bytes_next test bytes c.loop-i.place w.scn w.changes c.loop-i.i n c.loop-i.size c.accepts_event-accepted.result is same in
    let moved = c.in_ok-pending.ensures.moves in
    record {
      size = λ more e rest there event_is. c.size_left-next_size.ensures (lt-ltb (c.loop-i.i + 1) c.args.slot.now.count more) e rest there event_is;
      there = rw is n.next;
      moves = moves_more bytes (told (g.W.Sink.written c.args.out.now) (g.W.Sink.room c.args.out.now)) c.args.pending _ (told (g.W.Sink.written c.loop-i.out) (g.W.Sink.room c.loop-i.out)) (told (g.W.Sink.written c.pass_event.new.out) (g.W.Sink.room c.pass_event.new.out)) c.loop-i.pending c.in_ok-pending.pending _ _ _ left c.loop-i.invariant.moves moved;
      awaiting = moved.awaiting;
      few = omega (arith, moved.count, c.loop-i.invariant.few, part_short test bytes c.loop-i.place w.scn w.changes c.loop-i.i n c.loop-i.size c.accepts_event-accepted.result is same);
      beside = c.in_ok-pending.ensures.beside ∙ c.loop-i.invariant.beside;
      later = omega (arith, c.in_ok-pending.ensures.cause.later, c.loop-i.invariant.later);
    }

pub returns-clause-moves : goal.returns-clause-moves
returns-clause-moves g c =
    let w = c.args.slot.now.window.value in
    let over = changes_over (g.F.Accepts.test c.args.filter.now) w.scn w.changes c.loop-i.i (omega (arith, c.requires.there.count, c.loop-i-test.false)) in
    moves_end c.args.bytes.now _ c.args.pending _ _ c.loop-i.pending _ over c.loop-i.invariant.awaiting c.loop-i.invariant.moves
