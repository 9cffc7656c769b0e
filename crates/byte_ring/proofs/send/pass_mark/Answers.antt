use Rattle.std.proofs.Common.{◌≡◌, ◌+◌, ◌-◌, subst, arith}
use Rattle.plain_buffer.specs.Send.{told}
use Rattle.byte_ring.specs.Parts.{Moves}
use Rattle.byte_ring.proofs.Standing.{mark_there, window_within}
use Rattle.byte_ring.proofs.send.pass_mark.Goals as goal

pub overflow_add-mark : goal.overflow_add-mark
overflow_add-mark g c = omega (arith, window_within c.args.bytes.now c.args.at c.args.slot.now c.requires.there, c.len-within.ensures)

pub pass-requires-clause-within : goal.pass-requires-clause-within
pass-requires-clause-within g c = omega (arith, window_within c.args.bytes.now c.args.at c.args.slot.now c.requires.there, c.requires.there.size)

pub returns-clause-moves : goal.returns-clause-moves
returns-clause-moves g c =
    let slot = c.args.slot.now in
    let mark = (c.args.at + slot.size) - 17 in
    let place : mark + 17 ≡ c.args.at + slot.size = omega (arith, c.requires.there.size) in
    let text = mark_there c.args.bytes.now c.args.at mark slot c.requires.there place in
    subst (Moves c.args.bytes.now (told (g.W.Sink.written c.args.out.now) (g.W.Sink.room c.args.out.now)) (told (g.W.Sink.written c.pass.new.out) (g.W.Sink.room c.pass.new.out)) c.args.pending c.pass.result) text c.pass.ensures.moves
