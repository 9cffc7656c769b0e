use Rattle.std.proofs.Common.{ℕ, List, ◌≤◌, length, rules, sym, ap, subst, ◌∙◌}
use Rattle.range_ring.specs.Belonging.{RingIs, FeederIs}
use Rattle.range_ring.proofs.Publishing.{entry_small, feeds_after, published_after}
use Rattle.range_ring.proofs.feeder.Feeder.publish.Goals as goal

pub add-requires-clause-small : goal.add-requires-clause-small
add-requires-clause-small g c = subst (λ (xs : List ℕ). length xs ≤ 1048576) (sym c.bytes.ensures.value) (entry_small g.T.Timeline.told c.args.entry c.bytes.ensures.fits)

pub invariant_of-self : goal.invariant_of-self
invariant_of-self g c =
    let next = c.requires.next ∙ sym (ap (λ (f : FeederIs). f.published) c.self.view_is) in
    let done = feeds_after g.T.Timeline.told c.self.inside.place.me c.evict.new.place.me c.raise_tail.new.place.me c.self.inside.stock c.add.new.self c.args.entry c.bytes.result.now c.bytes.ensures.value c.evict.ensures.raised c.raise_tail.ensures.raised c.add.ensures c.bytes.ensures.fits next c.self.invariant in
    search rules

pub returns-clause-feeder : goal.returns-clause-feeder
returns-clause-feeder g c =
    let home = ap (λ (f : FeederIs). f.home.table) c.self.view_is ∙ ap (λ (r : RingIs). r.table) c.requires.home in
    let table = c.raise_tail.ensures.sits.same ∙ ap (λ (r : RingIs). r.table) c.ring.view_is ∙ sym home in
    let done = published_after g.T.Timeline.told c.self.inside.place.table_id c.raise_tail.new.place.table_id c.self.inside.place.me c.evict.new.place.me c.raise_tail.new.place.me c.self.inside.stock c.add.new.self c.args.entry c.bytes.result.now c.args.self.now
    c.bytes.ensures.value c.evict.ensures.raised c.raise_tail.ensures.raised c.add.ensures c.self.invariant table c.self.view_is in
    search rules
