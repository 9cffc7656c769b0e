use Rattle.std.proofs.Common.{ℕ, arith, ap, sym, subst, ◌∙◌}
use Rattle.scn_index.specs.Index.{AreBelow, AreRising}
use Rattle.scn_index.proofs.Entries.{rising_more, kept_all}
use Rattle.scn_index.proofs.index.ScnIndex.push.Goals as goal

pub invariant_of-self : goal.invariant_of-self
invariant_of-self c =
    let es = c.self.inside.entries.items in
    let e : ℕ × ℕ = (c.args.scn, c.args.place) in
    let all = ap (λ b. b.items) c.push_back-none.ensures.items ∙ kept_all es e c.self.inside.entries.capacity (omega (arith, c.if-len-capacity.false, c.len.ensures.within.0, c.len.ensures.len, c.capacity.ensures.capacity)) in
    subst AreRising (sym all) (rising_more es e c.self.invariant (subst (λ x. AreBelow c.args.scn x.entries) (sym c.self.view_is) c.requires.above))
