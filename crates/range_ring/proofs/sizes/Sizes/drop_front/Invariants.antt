use Rattle.std.proofs.Common.{◌≡◌, drop}
use Rattle.range_ring.proofs.sizes.Sizes.drop_front.Given as goal

abbrev pub invariant-loop : goal.invariant-loop
invariant-loop l = l.self ≡ record l.fn.self { sizes = drop l.counter l.fn.self.sizes }
