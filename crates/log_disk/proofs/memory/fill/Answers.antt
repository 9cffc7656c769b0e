use Rattle.std.proofs.Common.{arith}
use Rattle.std.proofs.lemmas.List.FromFn.{fill_by_all}
use Rattle.log_disk.specs.Memory.{filled_at}
use Rattle.log_disk.proofs.memory.fill.Goals as goal

pub returns : goal.returns
returns c =
    let i = c.loop-place.invariant in
    fill_by_all (filled_at c.args.ranges.now c.args.byte c.args.bytes.now) _ _ 0 i.size (λ k lt. i.done k (omega (arith, lt)))
