use Rattle.std.proofs.Common.{◌≡◌, ◌≤◌}
use Rattle.range_ring.proofs.pass.Pass.open.Given as goal

abbrev pub invariant-loop : goal.invariant-loop
invariant-loop g l =
    (goal.iterator-loop g).can_next l.iterator' × (goal.iterator-loop g).is_finite l.iterator'
    × (l.self.home ≡ l.fn.self.home) × (l.fn.self.evicted ≤ l.self.evicted) × (l.fn.self.published ≤ l.self.published)
    × (l.fn.self.floor_loads ≤ l.self.floor_loads) × (l.fn.self.tail_loads ≤ l.self.tail_loads)
