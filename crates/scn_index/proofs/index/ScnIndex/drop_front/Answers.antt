use Rattle.std.proofs.Common.{ap, sym, subst}
use Rattle.scn_index.specs.Index.{AreRising}
use Rattle.scn_index.proofs.Entries.{rising_less}
use Rattle.scn_index.proofs.index.ScnIndex.drop_front.Goals as goal

pub invariant_of-self : goal.invariant_of-self
invariant_of-self c = subst AreRising (sym (ap (λ b. b.items) c.pop_front-oldest.ensures.items)) (rising_less 1 c.self.inside.entries.items c.self.invariant)
