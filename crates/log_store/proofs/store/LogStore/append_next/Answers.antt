use Rattle.std.proofs.Common.{◌∙◌, ◌++◌, ◌∷◌, [], ℕ, List, sym, ap, subst, Err, true, arith}
use Rattle.bus_stores.specs.declared.log.LogFault.TheVariants as faults
use Rattle.log_store.specs.Order.{free_place}
use Rattle.log_store.specs.Store.{StoreParts, IsStore}
use Rattle.log_store.specs.Steps.{Grows}
use Rattle.log_store.proofs.Places.{free_unused}
use Rattle.log_store.proofs.Views.{as_many, next_full, next_left, next_done, next_is, next_failed, next_lost, next_kept, next_kept_is}
use Rattle.log_store.proofs.store.LogStore.append_next.Goals as goal

pub returns-in_default : goal.returns-in_default
returns-in_default g c =
    subst (λ (o : StoreParts _). Grows g.D.Disk.state c.args.window.now c.args.self.now o (Err faults.Full)) c.self.view_is
    (next_full g.D.Disk.state _ _ c.self.view_is c.self.invariant.0 c.args.window.now c.scn-scn.ensures.fits c.requires.chained c.requires.full c.requires.none (sym (c.free_place.ensures ∙ ap free_place c.deref.ensures.value) ∙ c.in_default.is))

pub returns-in_default-make_room : goal.returns-in_default-make_room
returns-in_default-make_room g c =
    subst (λ (o : List ℕ). Grows g.D.Disk.state c.args.window.now c.args.self.now (record { segments = c.self.inside.segments.items; order = o; floor = c.self.inside.floor; high = c.self.inside.high; opened = c.self.inside.opened.value.items; lost = c.self.inside.lost }) (Err faults.NoMemory)) (sym c.make_room.ensures.items) (next_left g.D.Disk.state _ _ c.self.view_is c.self.invariant.0 c.args.window.now c.scn-scn.ensures.fits c.requires.chained c.requires.full c.requires.none c.in-Some.place (sym (c.free_place.ensures ∙ ap free_place c.deref.ensures.value) ∙ c.in-Some.is))

pub begin_at-requires-clause-free : goal.begin_at-requires-clause-free
begin_at-requires-clause-free g c = free_unused c.self.inside.segments.items c.in-Some.place (sym (c.free_place.ensures ∙ ap free_place c.deref.ensures.value) ∙ c.in-Some.is)

pub invariant_of-self-in-Ok-begin_at : goal.invariant_of-self-in-Ok-begin_at
invariant_of-self-in-Ok-begin_at g c = (
  next_is g.D.Disk.state _ _ c.self.view_is c.self.invariant.0 c.args.window.now c.scn-scn.ensures.fits c.requires.chained c.requires.full c.requires.none c.in-Some.place (sym (c.free_place.ensures ∙ ap free_place c.deref.ensures.value) ∙ c.in-Some.is) c.begin_at.result c.begin_at.new.segments.items c.begin_at.ensures c.scn-scn.result c.push.new.order.items _ c.in-Ok-begin_at.is c.scn-scn.ensures.value (c.push.ensures ∙ ap (λ (o : List ℕ). o ++ c.in-Some.place ∷ []) c.make_room.ensures.items),
  c.self.invariant.1,
  omega (arith, as_many _ c.in-Some.place c.self.inside.segments.items c.begin_at.new.segments.items c.begin_at.ensures, c.self.invariant.2),
)

pub invariant_of-self-in-Err-Failed : goal.invariant_of-self-in-Err-Failed
invariant_of-self-in-Err-Failed g c = (
  subst (λ (o : List ℕ). IsStore g.D.Disk.state (record { segments = c.begin_at.new.segments.items; order = o; floor = c.self.inside.floor; high = c.self.inside.high; opened = c.self.inside.opened.value.items; lost = true })) (sym c.make_room.ensures.items) (next_lost g.D.Disk.state _ _ c.self.view_is c.self.invariant.0 c.args.window.now c.scn-scn.ensures.fits c.requires.chained c.requires.full c.requires.none c.in-Some.place (sym (c.free_place.ensures ∙ ap free_place c.deref.ensures.value) ∙ c.in-Some.is) c.begin_at.result c.begin_at.new.segments.items c.begin_at.ensures),
  c.self.invariant.1,
  omega (arith, as_many _ c.in-Some.place c.self.inside.segments.items c.begin_at.new.segments.items c.begin_at.ensures, c.self.invariant.2),
)

pub invariant_of-self-in-Err-NoMemory : goal.invariant_of-self-in-Err-NoMemory
invariant_of-self-in-Err-NoMemory g c = (
  subst (λ (o : List ℕ). IsStore g.D.Disk.state (record { segments = c.begin_at.new.segments.items; order = o; floor = c.self.inside.floor; high = c.self.inside.high; opened = c.self.inside.opened.value.items; lost = c.self.inside.lost })) (sym c.make_room.ensures.items) (next_kept_is g.D.Disk.state _ _ c.self.view_is c.self.invariant.0 c.args.window.now c.scn-scn.ensures.fits c.requires.chained c.requires.full c.requires.none c.in-Some.place (sym (c.free_place.ensures ∙ ap free_place c.deref.ensures.value) ∙ c.in-Some.is) c.begin_at.result c.begin_at.new.segments.items c.begin_at.ensures (c.in-Err-NoMemory.is ∙ ap Err c.in-Err-NoMemory.field-0-is)),
  c.self.invariant.1,
  omega (arith, as_many _ c.in-Some.place c.self.inside.segments.items c.begin_at.new.segments.items c.begin_at.ensures, c.self.invariant.2),
)

pub returns-in-Ok-begin_at : goal.returns-in-Ok-begin_at
returns-in-Ok-begin_at g c = next_done g.D.Disk.state _ _ c.self.view_is c.self.invariant.0 c.args.window.now c.scn-scn.ensures.fits c.requires.chained c.requires.full c.requires.none c.in-Some.place (sym (c.free_place.ensures ∙ ap free_place c.deref.ensures.value) ∙ c.in-Some.is) c.begin_at.result c.begin_at.new.segments.items c.begin_at.ensures c.scn-scn.result c.push.new.order.items _ c.in-Ok-begin_at.is c.scn-scn.ensures.value (c.push.ensures ∙ ap (λ (o : List ℕ). o ++ c.in-Some.place ∷ []) c.make_room.ensures.items)

pub returns-in-Err-Failed : goal.returns-in-Err-Failed
returns-in-Err-Failed g c = subst (λ (o : List ℕ). Grows g.D.Disk.state c.args.window.now c.args.self.now (record { segments = c.begin_at.new.segments.items; order = o; floor = c.self.inside.floor; high = c.self.inside.high; opened = c.self.inside.opened.value.items; lost = true }) (Err faults.Failed)) (sym c.make_room.ensures.items) (next_failed g.D.Disk.state _ _ c.self.view_is c.self.invariant.0 c.args.window.now c.scn-scn.ensures.fits c.requires.chained c.requires.full c.requires.none c.in-Some.place (sym (c.free_place.ensures ∙ ap free_place c.deref.ensures.value) ∙ c.in-Some.is) c.begin_at.result c.begin_at.new.segments.items c.begin_at.ensures (c.in-Err-Failed.is ∙ ap Err c.in-Err-Failed.field-0-is))

pub returns-in-Err-NoMemory : goal.returns-in-Err-NoMemory
returns-in-Err-NoMemory g c = subst (λ (o : List ℕ). Grows g.D.Disk.state c.args.window.now c.args.self.now (record { segments = c.begin_at.new.segments.items; order = o; floor = c.self.inside.floor; high = c.self.inside.high; opened = c.self.inside.opened.value.items; lost = c.self.inside.lost }) (Err faults.NoMemory)) (sym c.make_room.ensures.items) (next_kept g.D.Disk.state _ _ c.self.view_is c.self.invariant.0 c.args.window.now c.scn-scn.ensures.fits c.requires.chained c.requires.full c.requires.none c.in-Some.place (sym (c.free_place.ensures ∙ ap free_place c.deref.ensures.value) ∙ c.in-Some.is) c.begin_at.result c.begin_at.new.segments.items c.begin_at.ensures (c.in-Err-NoMemory.is ∙ ap Err c.in-Err-NoMemory.field-0-is))
