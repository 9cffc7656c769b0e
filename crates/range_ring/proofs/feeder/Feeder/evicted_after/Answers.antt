use Rattle.std.proofs.Common.{sym, ap, ◌∙◌}
use Rattle.range_ring.proofs.Publishing.{evicted_for}
use Rattle.range_ring.proofs.feeder.Feeder.evicted_after.Goals as goal

pub returns-clause-told : goal.returns-clause-told
returns-clause-told g c = λ window there is.
    evicted_for g.T.Timeline.told c.self.inside.stock c.args.size window _ _ _ c.self.invariant.stocked
    (sym c.self.invariant.limits ∙ ap (λ f. f.home.limits) c.self.view_is)
    (ap (λ f. f.published) c.self.view_is)
    c.evicted_after.ensures.value there is
