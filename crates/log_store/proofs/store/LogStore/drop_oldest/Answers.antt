use Rattle.std.proofs.Common.{◌∙◌, ap, length, drop, arith}
use Rattle.log_store.specs.Order.{high_at}
use Rattle.log_store.specs.Store.{StoreParts}
use Rattle.log_store.proofs.Orders.{first_and_rest}
use Rattle.log_store.proofs.Views.{as_many, drop_done, drop_is, drop_failed, drop_lost}
use Rattle.log_store.proofs.store.LogStore.drop_oldest.Goals as goal

pub invariant_of-self : goal.invariant_of-self
invariant_of-self g c = (
  drop_is g.D.Disk.state _ _ c.self.view_is c.self.invariant.0 c.args.scn c.index-place.result.now (drop 1 c.self.inside.order.items) (first_and_rest c.self.inside.order.items c.index-place.result.now (omega (arith, c.requires.many, ap (λ (s : StoreParts _). length s.order) c.self.view_is)) c.index-place.ensures) c.requires.many c.requires.low c.free_at.result c.free_at.new.segments.items c.free_at.ensures c.high_at-high.result c.remove.new.self.items _ c.in-Ok.is (c.high_at-high.ensures.value ∙ ap (λ ss. high_at ss c.index-place.result.now) c.deref.ensures.value) c.remove.ensures.by_index.2,
  c.self.invariant.1,
  omega (arith, as_many _ c.index-place.result.now c.self.inside.segments.items c.free_at.new.segments.items c.free_at.ensures, c.self.invariant.2),
)

pub invariant_of-self-in-Err : goal.invariant_of-self-in-Err
invariant_of-self-in-Err g c = (
  drop_lost g.D.Disk.state _ _ c.self.view_is c.self.invariant.0 c.args.scn c.index-place.result.now (drop 1 c.self.inside.order.items) (first_and_rest c.self.inside.order.items c.index-place.result.now (omega (arith, c.requires.many, ap (λ (s : StoreParts _). length s.order) c.self.view_is)) c.index-place.ensures) c.requires.many c.requires.low c.free_at.result c.free_at.new.segments.items c.free_at.ensures c.in-Err.fault c.in-Err.is,
  c.self.invariant.1,
  omega (arith, as_many _ c.index-place.result.now c.self.inside.segments.items c.free_at.new.segments.items c.free_at.ensures, c.self.invariant.2),
)

pub returns-in-Ok : goal.returns-in-Ok
returns-in-Ok g c = record { drops = drop_done g.D.Disk.state _ _ c.self.view_is c.self.invariant.0 c.args.scn c.index-place.result.now (drop 1 c.self.inside.order.items) (first_and_rest c.self.inside.order.items c.index-place.result.now (omega (arith, c.requires.many, ap (λ (s : StoreParts _). length s.order) c.self.view_is)) c.index-place.ensures) c.requires.many c.requires.low c.free_at.result c.free_at.new.segments.items c.free_at.ensures c.high_at-high.result c.remove.new.self.items _ c.in-Ok.is (c.high_at-high.ensures.value ∙ ap (λ ss. high_at ss c.index-place.result.now) c.deref.ensures.value) c.remove.ensures.by_index.2 }

pub returns-in-Err : goal.returns-in-Err
returns-in-Err g c = record { drops = drop_failed g.D.Disk.state _ _ c.self.view_is c.self.invariant.0 c.args.scn c.index-place.result.now (drop 1 c.self.inside.order.items) (first_and_rest c.self.inside.order.items c.index-place.result.now (omega (arith, c.requires.many, ap (λ (s : StoreParts _). length s.order) c.self.view_is)) c.index-place.ensures) c.requires.many c.requires.low c.free_at.result c.free_at.new.segments.items c.free_at.ensures c.in-Err.fault c.in-Err.is }
