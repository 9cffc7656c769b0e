use Rattle.std.proofs.Common.{arith}
use Rattle.std.proofs.lemmas.List.{length-take}
use Rattle.relay_node.proofs.Inputs.{came_more}
use Rattle.relay_node.proofs.reading.read_on.Goals as goal

pub loop-come-preserved : goal.loop-come-preserved
loop-come-preserved g c =
    let now = c.loop-come.invariant in
    let count = c.in_ok-count.count in
    let taken = length-take count c.read.new.buf in
    record {
      room = omega (arith, c.read.auto.buf, now.room);
      came = came_more _ _ _ c.args.read c.loop-come.come _ count _ now.came c.in_ok-count.ensures.bytes.0 (omega (arith, taken, c.in_ok-count.ensures.bound)) (omega arith);
      later = omega (arith, now.later, c.in_ok-count.ensures.cause.later);
    }
