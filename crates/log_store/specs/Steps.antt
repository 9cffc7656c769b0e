-- What a call does to a log over disks. Functions within the crate alone cite this.
use Rattle.std.specs.Prelude.{◌≡◌, ℕ, true, [], ◌∷◌, ◌++◌, ◌<◌, length, IfSome, Result, Ok, Err, Option}
use Rattle.bus_types.specs.declared.fault.Failed.{Failed}
use Rattle.bus_types.specs.Window.{Span}
use Rattle.bus_stores.specs.declared.log.LogFault.{LogFault}
use Rattle.bus_stores.specs.declared.log.LogFault.TheVariants.{Failed as Lost}
use Rattle.bus_stores.specs.Log.{AppendsWindow, ReadsNext, DropsWindows, at_rest, growing_to, dropping_to}
use Rattle.log_disk.specs.Disk.{DiskState}
use Rattle.log_store.specs.Store.{StoreParts, log_of, passes, losses_of, is_told}

-- a window was appended, or not
pub record Grows {D : Type 0} (state : D → DiskState) (w : Span) (old new : StoreParts D) (result : Result Unit LogFault) : Type 0 where
  pub appends : AppendsWindow w (log_of state old) (log_of state new) result
  pub crash : IfSome (log_of state old).windows (λ ws. passes state (ws ++ w ∷ []) (growing_to w.scn (log_of state old)) old new)
  pub losses : losses_of new.segments ≡ losses_of old.segments

-- a window was read, or not
pub record Reads {D : Type 0} (state : D → DiskState) (scn : ℕ) (old new : StoreParts D) (result : Result (Option Span) LogFault) : Type 0 where
  pub next : ReadsNext scn (log_of state old) (log_of state new) result
  pub crash : IfSome (log_of state old).windows (λ ws. passes state ws (at_rest (log_of state old)) old new)
  pub losses : is_told state old ≡ true → losses_of new.segments ≡ losses_of old.segments

-- windows up to an SCN were dropped, or not
pub record Drops {D : Type 0} (state : D → DiskState) (scn : ℕ) (old new : StoreParts D) (result : Result Unit LogFault) : Type 0 where
  pub drops : DropsWindows scn (log_of state old) (log_of state new) result
  pub crash : IfSome (log_of state old).windows (λ ws. passes state ws (dropping_to scn (log_of state old)) old new)
  pub losses : losses_of new.segments ≡ losses_of old.segments

-- the oldest segment was given up, or not
abbrev pub DropsOldest : {D : Type 0} → (D → DiskState) → ℕ → StoreParts D → StoreParts D → Result Unit Failed → Type 0
DropsOldest state scn old new (Ok x) = Drops state scn old new (Ok x) × (length new.order < length old.order)
DropsOldest state scn old new (Err e) = Drops state scn old new (Err Lost)
