-- A later base is set: the boot mark is committed, and then the log drops windows.
use Rattle.std.proofs.Common.{◌≡◌, ℕ, ◌<◌, true, false, None, Err, refl, sym, ap, subst, ◌∙◌}
use Rattle.bus_stores.specs.declared.keeper.StoreFault.{StoreFault}
use Rattle.bus_stores.specs.declared.keeper.StoreFault.TheVariants as stores
use Rattle.bus_stores.specs.declared.boot_fault.BootFault.{BootFault}
use Rattle.bus_stores.specs.declared.boot_fault.BootFault.TheVariants.{LogFailed, StoreFailed, Halted, NoMemory}
use Rattle.bus_stores.specs.Keeper.{KeeperState, Commits}
use Rattle.bus_stores.specs.Log.{LogState}
use Rattle.bootstrap_core.specs.Boot.{BootParts, BootState, told}
use Rattle.bootstrap_core.specs.Moving.{base_move, based, SetsLater}
use Rattle.bootstrap_core.specs.Trimming.{halted_at, of_store, DropsOrFails, SetsBase}

-- the commit failed
pub set_refused : {G K : Type 0} (log : G → LogState) (keeper : K → KeeperState) (base : ℕ) (old new : BootParts G K) (store : K) (fault : StoreFault) (given answer : BootFault) → old.halted ≡ false → old.mark.base < base → Commits (base_move (based old.mark base)) (keeper old.keeper) (keeper store) (Err fault) → given ≡ of_store fault → answer ≡ given → new ≡ halted_at given (record old { keeper = store }) → SetsBase (Err answer) base (told log keeper old) (told log keeper new)
set_refused log keeper base old new store stores.Failed given answer runs later h a same e =
    let is : new ≡ record old { keeper = store; halted = _ } = e ∙ ap (λ f. halted_at f (record old { keeper = store })) a in
    subst (λ f. SetsBase (Err f) base (told log keeper old) (told log keeper new)) (sym (same ∙ a))
    (subst (λ (b : BootParts _ _). SetsBase (Err StoreFailed) base (told log keeper old) (told log keeper b)) (sym is) (
      refl,
      h.counts.failed,
      record {
        later = later;
        keeper = h.leaves;
        log = refl;
        mark = refl;
      },
    ))
set_refused log keeper base old new store stores.NoMemory given answer runs later h a same e =
    let is : new ≡ record old { keeper = store } = e ∙ ap (λ f. halted_at f (record old { keeper = store })) a in
    subst (λ f. SetsBase (Err f) base (told log keeper old) (told log keeper new)) (sym (same ∙ a))
    (subst (λ (b : BootParts _ _). SetsBase (Err NoMemory) base (told log keeper old) (told log keeper b)) (sym is) (
      runs,
      record {
        keeper = h.leaves;
        log = refl;
        mark = refl;
      },
    ))

-- it was committed, and the log failed
pub set_broken : (base : ℕ) (old new : BootState) (fault : BootFault) → new.halted ≡ true → SetsLater base old new → DropsOrFails (Err fault) base old.log new.log → SetsBase (Err fault) base old new
set_broken base old new LogFailed halted set h = (halted, h.0, set)
set_broken base old new StoreFailed halted set h = absurd h
set_broken base old new Halted halted set h = absurd h
set_broken base old new NoMemory halted set h = absurd h

-- a fault changes neither log nor boot mark
pub halted_log : {G K : Type 0} (P : G → ℕ → Type 0) (fault : BootFault) (old new : BootParts G K) → new ≡ halted_at fault old → P old.log old.mark.base → P new.log new.mark.base
halted_log P LogFailed old new e h = subst (λ (b : BootParts _ _). P b.log b.mark.base) (sym e) h
halted_log P StoreFailed old new e h = subst (λ (b : BootParts _ _). P b.log b.mark.base) (sym e) h
halted_log P Halted old new e h = subst (λ (b : BootParts _ _). P b.log b.mark.base) (sym e) h
halted_log P NoMemory old new e h = subst (λ (b : BootParts _ _). P b.log b.mark.base) (sym e) h
