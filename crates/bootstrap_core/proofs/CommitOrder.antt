-- What a crash leaves of a log before the commit of a trim and after it.
use Rattle.std.proofs.Common.{◌≡◌, List, IfSome, inl, inr, refl, sym, subst}
use Rattle.bus_types.specs.Window.{Span}
use Rattle.bus_stores.specs.Keeper.{KeeperState}
use Rattle.bus_stores.specs.Log.{LogState, SameLog, Bounds, Weakens, at_rest, dropping_to}
use Rattle.bus_stores.proofs.Ahead.{rests_on}
use Rattle.bootstrap_core.specs.Boot.{BootParts, told}
use Rattle.bootstrap_core.specs.Moving.{CommitsFirst}
use Rattle.bootstrap_core.proofs.CrashBounds.{rest_drops, told_both}
use Rattle.bootstrap_core.proofs.TrimSteps.{later_on}

module _ {G K : Type 0} (passes : List Span → Bounds → G → G → Type 0) (log : G → LogState) (keeper : K → KeeperState) where
  -- what a crash leaves within bounds it leaves within wider ones
  abbrev pub Widens : Type 0
  Widens = (ws : List Span) (b c : Bounds) (old new : G) → Weakens ws ws b c → passes ws b old new → passes ws c old new

  -- what it leaves up to one state and from there on it leaves at all these moments
  abbrev pub Joins : Type 0
  Joins = (ws : List Span) (b : Bounds) (old now new : G) → passes ws b old now → passes ws b now new → passes ws b old new

  -- a log that was only read
  pub only_read : (old new : BootParts G K) → IfSome (log old.log).windows (λ ws. passes ws (at_rest (log old.log)) old.log new.log)
      → CommitsFirst passes log keeper old new
  only_read old new rests = record { read = new.log; rests = rests; drops = inl refl }

  -- it was read before
  pub read_before : (old : BootParts G K) (read : G) (new : BootParts G K) → Joins → SameLog (log old.log) (log read)
      → IfSome (log old.log).windows (λ ws. passes ws (at_rest (log old.log)) old.log read)
      → CommitsFirst passes log keeper (record old { log = read }) new → CommitsFirst passes log keeper old new
  read_before old read new join same rests o = record {
    read = o.read;
    rests = rests_on (λ ws b. passes ws b old.log read) (λ ws b. passes ws b read o.read) (λ ws b. passes ws b old.log o.read) (log old.log) (log read) (λ ws b p q. join ws b old.log read o.read p q) same rests o.rests;
    drops = elim o.drops [
      | inl stays ↦ inl stays
      | inr drops ↦ inr (
        later_on new.mark.base (told log keeper old) (told log keeper new) (log read) drops.0,
        subst (λ (s : LogState). IfSome s.windows (λ ws. passes ws (dropping_to new.mark.base s) o.read new.log)) same drops.1,
      )
    ];
  }

  -- so at all these moments a crash leaves the windows that were told, or those behind a floor up to the new base
  pub drops_at_last : (old new : BootParts G K) → Widens → Joins → CommitsFirst passes log keeper old new
      → IfSome (log old.log).windows (λ ws. passes ws (dropping_to new.mark.base (log old.log)) old.log new.log)
  drops_at_last old new widen join o =
      let s = log old.log in
      let b = dropping_to new.mark.base s in
      let first : IfSome s.windows (λ ws. passes ws b old.log o.read) = rest_drops (λ ws c. passes ws c old.log o.read) new.mark.base s (λ ws c d w p. widen ws c d old.log o.read w p) o.rests in
      elim o.drops [
        | inl stays ↦ subst (λ end. IfSome s.windows (λ ws. passes ws b old.log end)) (sym stays) first
        | inr drops ↦ told_both (λ ws. passes ws b old.log o.read) (λ ws. passes ws b o.read new.log) (λ ws. passes ws b old.log new.log) s.windows (λ ws p q. join ws b old.log o.read new.log p q) first drops.1
      ]
