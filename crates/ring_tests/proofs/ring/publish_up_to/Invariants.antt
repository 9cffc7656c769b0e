use Rattle.std.proofs.Common.{◌≡◌}
use Rattle.ring_tests.proofs.ring.publish_up_to.Given as goal

abbrev pub invariant-loop-prev : goal.invariant-loop-prev
invariant-loop-prev g l = (l.feeder.home ≡ l.ring) × (l.feeder.published ≡ l.prev)
