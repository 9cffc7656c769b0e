use Rattle.std.proofs.Common.{◌≤◌, ◌-◌}
use Rattle.range_ring.proofs.first.narrow.Given as goal

abbrev pub invariant-loop-low : goal.invariant-loop-low
invariant-loop-low g l = (l.numbers.evicted ≤ l.low) × (l.high ≤ l.numbers.published)

abbrev pub decreases-loop-low : goal.decreases-loop-low
decreases-loop-low g l = l.high - l.low
