use Rattle.range_ring.proofs.Feeding.{Left}
use Rattle.range_ring.proofs.sizes.Sizes.surplus.Given as goal

abbrev pub invariant-loop-gone : goal.invariant-loop-gone
invariant-loop-gone l = Left l.limits l.self.sizes l.size l.gone l.total
