use Rattle.std.proofs.Common.{ℕ, ◌+◌, ◌++◌, ◌∷◌, [], ◌<◌, length, sym, ap, subst, ◌∙◌}
use Rattle.bus_types.specs.Relay.{sum_of}
use Rattle.range_ring.specs.Stocked.{SizesAre, StockIs, IsStock, grown}
use Rattle.range_ring.proofs.Feeding.{grows}
use Rattle.range_ring.proofs.stock.Stock.add.Goals as goal

pub push-requires-clause-room : goal.push-requires-clause-room
push-requires-clause-room c =
    let growing = grows (record { limits = c.self.inside.limits; evicted = c.self.inside.evicted; published = c.self.inside.published; sizes = c.self.inside.sizes.sizes }) c.self.inside.sizes.most c.args.size c.surplus-gone.result c.self.invariant c.requires.small (subst (λ (n : ℕ). n < 9223372036854775808) (sym (ap (λ (s : StockIs). s.published) c.self.view_is)) c.requires.bound) c.surplus-gone.ensures.value in
    subst (λ (z : SizesAre). length z.sizes < z.most) (sym c.drop_front.ensures) growing.room

pub push-requires-clause-total : goal.push-requires-clause-total
push-requires-clause-total c =
    let growing = grows (record { limits = c.self.inside.limits; evicted = c.self.inside.evicted; published = c.self.inside.published; sizes = c.self.inside.sizes.sizes }) c.self.inside.sizes.most c.args.size c.surplus-gone.result c.self.invariant c.requires.small (subst (λ (n : ℕ). n < 9223372036854775808) (sym (ap (λ (s : StockIs). s.published) c.self.view_is)) c.requires.bound) c.surplus-gone.ensures.value in
    subst (λ (z : SizesAre). sum_of z.sizes + c.args.size < 18446744073709551616) (sym c.drop_front.ensures) growing.total

pub invariant_of-self : goal.invariant_of-self
invariant_of-self c =
    let growing = grows (record { limits = c.self.inside.limits; evicted = c.self.inside.evicted; published = c.self.inside.published; sizes = c.self.inside.sizes.sizes }) c.self.inside.sizes.most c.args.size c.surplus-gone.result c.self.invariant c.requires.small (subst (λ (n : ℕ). n < 9223372036854775808) (sym (ap (λ (s : StockIs). s.published) c.self.view_is)) c.requires.bound) c.surplus-gone.ensures.value in
    let now = c.push.ensures ∙ ap (λ (z : SizesAre). record { most = z.most; sizes = z.sizes ++ c.args.size ∷ [] }) c.drop_front.ensures in
    subst (λ (z : SizesAre). IsStock (record { limits = c.self.inside.limits; evicted = c.self.inside.evicted + c.surplus-gone.result; published = c.self.inside.published + 1; sizes = z.sizes }) z.most) (sym now) growing.stock

pub returns : goal.returns
returns c =
    let growing = grows (record { limits = c.self.inside.limits; evicted = c.self.inside.evicted; published = c.self.inside.published; sizes = c.self.inside.sizes.sizes }) c.self.inside.sizes.most c.args.size c.surplus-gone.result c.self.invariant c.requires.small (subst (λ (n : ℕ). n < 9223372036854775808) (sym (ap (λ (s : StockIs). s.published) c.self.view_is)) c.requires.bound) c.surplus-gone.ensures.value in
    let now = c.push.ensures ∙ ap (λ (z : SizesAre). record { most = z.most; sizes = z.sizes ++ c.args.size ∷ [] }) c.drop_front.ensures in
    ap (λ (z : SizesAre). record { limits = c.self.inside.limits; evicted = c.self.inside.evicted + c.surplus-gone.result; published = c.self.inside.published + 1; sizes = z.sizes }) now
    ∙ growing.is
    ∙ ap (λ (s : StockIs). grown s c.args.size) c.self.view_is
