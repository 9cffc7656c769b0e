use Rattle.std.proofs.Common.{◌≡◌}
use Rattle.ring_bench.proofs.shared.fill.Given as goal

abbrev pub invariant-loop-prev : goal.invariant-loop-prev
invariant-loop-prev g l = (l.feeder.home ≡ l.ring) × (l.feeder.published ≡ l.prev)
