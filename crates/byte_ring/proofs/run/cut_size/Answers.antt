use Rattle.std.proofs.Common.{◌<◌, length, arith}
use Rattle.event_codec.proofs.Cuts.{cut_no_larger}
use Rattle.byte_ring.proofs.Standing.{event, next_event, size_next}
use Rattle.byte_ring.proofs.run.cut_size.Goals as goal

pub event_size-event-requires : goal.event_size-event-requires
event_size-event-requires g c =
    let w = c.args.slot.now.window.value in
    let lt : c.loop-i._i < length w.changes = omega (arith, c.requires.count, c.loop-i-test.true) in
    (next_event c.args.bytes.now c.loop-i.place w c.loop-i._i c.requires.is lt c.loop-i.invariant.there).head

pub accepts_event-accepted-requires : goal.accepts_event-accepted-requires
accepts_event-accepted-requires g c =
    let w = c.args.slot.now.window.value in
    let lt : c.loop-i._i < length w.changes = omega (arith, c.requires.count, c.loop-i-test.true) in
    (next_event c.args.bytes.now c.loop-i.place w c.loop-i._i c.requires.is lt c.loop-i.invariant.there).head

pub overflow_add-size : goal.overflow_add-size
overflow_add-size g c =
    let test = g.F.Accepts.test c.args.filter.now in
    let w = c.args.slot.now.window.value in
    let lt : c.loop-i._i < length w.changes = omega (arith, c.requires.count, c.loop-i-test.true) in
    let n = next_event c.args.bytes.now c.loop-i.place w c.loop-i._i c.requires.is lt c.loop-i.invariant.there in
    let is = c.event_size-event.ensures (event w.scn n.c) n.there.rest n.there.there n.is in
    let same = c.accepts_event-accepted.ensures (event w.scn n.c) n.there.rest n.there.there n.is in
    let next = size_next test c.args.bytes.now c.loop-i.place w.scn w.changes c.loop-i._i c.loop-i.size c.accepted_size-size.result _ n c.event_size-event.result c.accepts_event-accepted.result is same c.accepted_size-size.ensures c.loop-i.invariant.size in
    omega (arith, next, cut_no_larger test w c.requires.is, c.requires.is.size)

pub overflow_add-place : goal.overflow_add-place
overflow_add-place g c =
    let w = c.args.slot.now.window.value in
    let lt : c.loop-i._i < length w.changes = omega (arith, c.requires.count, c.loop-i-test.true) in
    let n = next_event c.args.bytes.now c.loop-i.place w c.loop-i._i c.requires.is lt c.loop-i.invariant.there in
    let is = c.event_size-event.ensures (event w.scn n.c) n.there.rest n.there.there n.is in
    omega (arith, is, n.within, c.len-within.ensures)

pub loop-i-preserved : goal.loop-i-preserved
loop-i-preserved g c =
    let test = g.F.Accepts.test c.args.filter.now in
    let w = c.args.slot.now.window.value in
    let lt : c.loop-i._i < length w.changes = omega (arith, c.requires.count, c.loop-i-test.true) in
    let n = next_event c.args.bytes.now c.loop-i.place w c.loop-i._i c.requires.is lt c.loop-i.invariant.there in
    let is = c.event_size-event.ensures (event w.scn n.c) n.there.rest n.there.there n.is in
    let same = c.accepts_event-accepted.ensures (event w.scn n.c) n.there.rest n.there.there n.is in
    record {
      there = rw is n.next;
      size = size_next test c.args.bytes.now c.loop-i.place w.scn w.changes c.loop-i._i c.loop-i.size c.accepted_size-size.result _ n c.event_size-event.result c.accepts_event-accepted.result is same c.accepted_size-size.ensures c.loop-i.invariant.size;
    }

pub returns-clause-small : goal.returns-clause-small
returns-clause-small g c = omega (arith, c.loop-i.invariant.size, cut_no_larger (g.F.Accepts.test c.args.filter.now) c.args.slot.now.window.value c.requires.is, c.requires.is.size)
