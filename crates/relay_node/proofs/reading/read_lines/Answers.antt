use Rattle.std.proofs.Common.{take, arith}
use Rattle.std.proofs.lemmas.List.{length-take}
use Rattle.relay_node.specs.Pieces.{At}
use Rattle.relay_node.proofs.Inputs.{reached_more, settles, leads_piece}
use Rattle.relay_node.proofs.reading.read_lines.Goals as goal

pub take-requires-clause-leads : goal.take-requires-clause-leads
take-requires-clause-leads g c =
    let start : At = record { sent = c.args.feed.now.publisher; lines = c.args.feed.now.lines } in
    let a : At = record { sent = c.loop-read.feed.publisher; lines = c.loop-read.feed.lines } in
    λ κs lives. leads_piece g.T.Timeline.told _ _ _ start a c.loop-read.read (take c.in-Ok.count c.read.new.buf) c.requires.told c.loop-read.invariant.reached c.in-Ok.ensures.bytes.0

pub returns-in-Err-clause-halts : goal.returns-in-Err-clause-halts
returns-in-Err-clause-halts g c =
    let start : At = record { sent = c.args.feed.now.publisher; lines = c.args.feed.now.lines } in
    let a : At = record { sent = c.loop-read.feed.publisher; lines = c.loop-read.feed.lines } in
    let count = c.in-Ok.count in
    let taken = length-take count c.read.new.buf in
    settles c.in-Err.stop c.settle.result _ _ _ _ start a c.loop-read.read count (take count c.read.new.buf) c.loop-read.invariant.reached c.in-Ok.ensures.bytes.0 (omega (arith, taken, c.in-Ok.ensures.bound)) c.in-Err.ensures.stops c.settle.ensures.settled

pub loop-read-preserved : goal.loop-read-preserved
loop-read-preserved g c =
    let start : At = record { sent = c.args.feed.now.publisher; lines = c.args.feed.now.lines } in
    let a : At = record { sent = c.loop-read.feed.publisher; lines = c.loop-read.feed.lines } in
    let b : At = record { sent = c.take.new.self.publisher; lines = c.take.new.self.lines } in
    let now = c.loop-read.invariant in
    let count = c.in-Ok.count in
    let taken = length-take count c.read.new.buf in
    let reached = reached_more _ _ _ start a b c.loop-read.read count (take count c.read.new.buf) now.reached c.in-Ok.ensures.bytes.0 (omega (arith, taken, c.in-Ok.ensures.bound)) c.in_default-take.ensures.takes in
    record {
      room = omega (arith, c.read.auto.buf, now.room);
      low = omega (arith, reached.used, reached.within);
      reached = reached;
      later = omega (arith, now.later, c.in-Ok.ensures.cause.later);
    }
