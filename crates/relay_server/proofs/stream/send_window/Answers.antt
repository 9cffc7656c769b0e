use Rattle.std.proofs.Common.{refl, ◌∙◌, arith}
use Rattle.partition_filter.specs.Selection.{test_of}
use Rattle.range_ring.specs.Parts.{bytes_at}
use Rattle.relay_server.proofs.Sendings.{place_later, parts_begin, parts_more, parts_done, parts_fault}
use Rattle.relay_server.proofs.stream.send_window.Goals as goal

pub loop-part-init : goal.loop-part-init
loop-part-init g c =
    let whole = bytes_at c.args.range.now.entries c.args.i in
    record {
      place = c.window-begins.ensures.begins;
      sent = λ items are. parts_begin (test_of c.args.range.now.filter) whole _ items are;
      later = omega arith;
      beside = refl;
    }

pub loop-part-preserved : goal.loop-part-preserved
loop-part-preserved g c =
    let whole = bytes_at c.args.range.now.entries c.args.i in
    let held = c.loop-part.invariant in
    record {
      place = c.in-Some.ensures.next;
      sent = λ items are. parts_more (test_of c.args.range.now.filter) whole c.in-Some.part.bytes.now _ _ _ items c.loop-part.place c.in-Some.part.next (held.sent items are) c.in-Some.ensures.part c.in-Ok.ensures.ok;
      later = omega (arith, held.later, c.send.ensures.cause.later);
      beside = c.send.ensures.beside ∙ held.beside;
    }

pub loop-part-smaller : goal.loop-part-smaller
loop-part-smaller g c =
    let whole = bytes_at c.args.range.now.entries c.args.i in
    let later = place_later (test_of c.args.range.now.filter) whole c.in-Some.part.bytes.now c.loop-part.place c.in-Some.part.next c.loop-part.invariant.place c.in-Some.ensures.part in
    let next = c.in-Some.ensures.next in
    omega (arith, later, next.within)

pub returns-in_default-send-clause-part : goal.returns-in_default-send-clause-part
returns-in_default-send-clause-part g c =
    let whole = bytes_at c.args.range.now.entries c.args.i in
    λ items are.
    parts_fault (test_of c.args.range.now.filter) whole c.in-Some.part.bytes.now _ _ _ items c.loop-part.place c.in-Some.part.next (c.loop-part.invariant.sent items are) c.in-Some.ensures.part c.in_default-send.ensures.part

pub returns-clause-ok : goal.returns-clause-ok
returns-clause-ok g c =
    let whole = bytes_at c.args.range.now.entries c.args.i in
    λ items are. parts_done (test_of c.args.range.now.filter) whole _ _ items c.loop-part.place (c.loop-part.invariant.sent items are) c.in_default.ensures.part
