use Rattle.std.proofs.Common.{◌≡◌, ◌∙◌, arith}
use Rattle.log_store.specs.Order.{first_floor, floor_at, high_at, last_high}
use Rattle.log_store.proofs.Openings.{opened_is, log_opened, store_is}
use Rattle.log_store.proofs.store.LogStore.joined.Goals as goal

pub invariant_of-result : goal.invariant_of-result
invariant_of-result g c =
    let ss = c.args.segments.items in
    let order = c.args.order.items in
    let floor : c.first_floor-floor.result ≡ first_floor (floor_at ss) order = c.first_floor-floor.ensures ∙ (λ i. first_floor (floor_at (c.deref.ensures.value i)) (c.deref-2.ensures.value i)) in
    let high : c.last_high-high.result ≡ last_high (high_at ss) 0 order = c.last_high-high.ensures.value ∙ (λ i. last_high (high_at (c.deref-3.ensures.value i)) 0 (c.deref-4.ensures.value i)) in
    let o = c.requires.ordered in (
      opened_is g.D.Disk.state c.args.opened.value.items ss c.requires.opened order o.is_order o.joined o.rise _ (store_is c.args.opened.value.items ss order _ _ floor high) (omega (arith, high, c.last_high-high.ensures.within)),
      c.requires.none,
      c.requires.room,
    )

pub returns : goal.returns
returns g c =
    let ss = c.args.segments.items in
    let order = c.args.order.items in
    let floor : c.first_floor-floor.result ≡ first_floor (floor_at ss) order = c.first_floor-floor.ensures ∙ (λ i. first_floor (floor_at (c.deref.ensures.value i)) (c.deref-2.ensures.value i)) in
    let high : c.last_high-high.result ≡ last_high (high_at ss) 0 order = c.last_high-high.ensures.value ∙ (λ i. last_high (high_at (c.deref-3.ensures.value i)) 0 (c.deref-4.ensures.value i)) in
    let o = c.requires.ordered in
    log_opened g.D.Disk.state c.args.opened.value.items ss c.requires.opened order o.is_order o.joined o.rise _ (store_is c.args.opened.value.items ss order _ _ floor high)
