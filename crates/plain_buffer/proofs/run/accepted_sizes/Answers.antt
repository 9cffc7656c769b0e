use Rattle.std.proofs.Common.{arith}
use Rattle.plain_buffer.proofs.Runs.{size_step, accepted_fits}
use Rattle.plain_buffer.proofs.run.accepted_sizes.Goals as goal

pub overflow_add-size : goal.overflow_add-size
overflow_add-size g c =
    let test = g.F.Accepts.test c.args.filter.now in
    let changes = c.args.changes.now in
    let step = size_step test changes c.loop-change.change-index c.loop-change.size _ c.change-item.result c.loop-change-test.true c.change-item.is c.loop-change.invariant in
    let few = accepted_fits test changes in
    omega (arith, c.accepted_size-size.ensures.value)
