use Rattle.std.proofs.Common.{ℕ, List, ◌≤◌, length, rules, sym, ap, subst, ◌∙◌, arith}
use Rattle.range_ring.proofs.Publishing.{entry_small, evict_may, publish_may}
use Rattle.range_ring.proofs.feeder.evict.Goals as goal

pub evicted_after-evicted-requires : goal.evicted_after-evicted-requires
evicted_after-evicted-requires g c = subst (λ (xs : List ℕ). length xs ≤ 1048576) (sym c.bytes.ensures.value) (entry_small g.T.Timeline.told c.args.entry.now c.bytes.ensures.fits)

pub raise_floor-requires-clause-may : goal.raise_floor-requires-clause-may
raise_floor-requires-clause-may g c =
    let key = c.requires.limits ∙ sym (ap (λ r. r.limits) c.ring.view_is) in
    let may = evict_may g.T.Timeline.told c.ring.inside.board.shared.key c.args.place.now.me c.args.stock.now c.args.entry.now c.bytes.result.now c.evicted_after-evicted.result c.bytes.ensures.fits c.requires.next c.requires.place_feeds c.bytes.ensures.value c.evicted_after-evicted.ensures.value c.evicted_after-evicted.ensures.few key in
    search rules

pub returns-clause-may : goal.returns-clause-may
returns-clause-may g c =
    let may = evict_may g.T.Timeline.told c.args.ring.now.limits c.args.place.now.me c.args.stock.now c.args.entry.now c.bytes.result.now c.evicted_after-evicted.result c.bytes.ensures.fits c.requires.next c.requires.place_feeds c.bytes.ensures.value c.evicted_after-evicted.ensures.value c.evicted_after-evicted.ensures.few c.requires.limits in
    let value = c.evicted_after-evicted.ensures.value in
    let done = publish_may g.T.Timeline.told c.args.ring.now.limits c.args.place.now.me c.raise_floor.new.place.me c.args.stock.now c.evicted_after-evicted.result c.requires.place_feeds (omega arith) may c.raise_floor.ensures.raised in
    search rules
