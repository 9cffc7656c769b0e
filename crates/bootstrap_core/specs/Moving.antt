-- What the applier and a trim make of a bootstrap.
use Rattle.std.specs.Prelude.{◌≡◌, ℕ, ◌<◌, ◌≤◌, min, max, true, false, List, [], Some, None, is_some, option_map, IfSome, Result, Ok, Err, ◌⊎◌}
use Rattle.bus_types.specs.Causes.{Rose}
use Rattle.bus_types.specs.Window.{Span}
use Rattle.bus_types.specs.Timeline.{end_from, windows_between}
use Rattle.bus_stores.specs.Keeper.{KeeperState, Move, SameStore, Stopped, Meets, move_of}
use Rattle.bus_stores.specs.Log.{LogState, LogRoom, SameLog, Dropped, Bounds, at_rest, dropping_to}
use Rattle.bus_stores.specs.declared.boot_fault.BootFault.{BootFault}
use Rattle.bus_stores.specs.declared.boot_fault.BootFault.TheVariants.{LogFailed, StoreFailed, Halted, NoMemory}
use Rattle.snapshot_applier.specs.declared.boot.BootMark.{BootMark}
use Rattle.snapshot_applier.specs.BootMark.{boot_mark_text}
use Rattle.snapshot_applier.specs.Apply.{Applied, Unapplied}
use Rattle.bootstrap_core.specs.Boot.{BootParts, BootState, told}

-- a log that tells its windows
abbrev pub TellsWindows : LogState → Type 0
TellsWindows log = is_some log.windows ≡ true

-- the boot mark, and but for their counts log and keeper, are as before
pub record SameParts (old new : BootState) : Type 0 where
  pub keeper : SameStore old.keeper new.keeper
  pub log : SameLog old.log new.log
  pub mark : new.mark ≡ old.mark

-- ---- apply

-- the next windows were applied in one commit, or there was none
pub record AppliesNext (applied count : ℕ) (old new : BootState) : Type 0 where
  pub keeper : Applied old.mark new.mark count old.log old.keeper new.keeper
  pub log : SameLog old.log new.log
  pub runs : new.halted ≡ false
  pub number : applied ≡ new.mark.applied

-- the commit of the next windows failed
pub record AppliesNone (count : ℕ) (old new : BootState) : Type 0 where
  pub keeper : Unapplied old.mark count old.log old.keeper new.keeper
  pub log : SameLog old.log new.log
  pub mark : new.mark ≡ old.mark

-- a call of `apply`, by its answer
abbrev pub AppliesBoot : Result ℕ BootFault → ℕ → BootState → BootState → Type 0
AppliesBoot (Ok applied) count old new = AppliesNext applied count old new
AppliesBoot (Err LogFailed) count old new = (new.halted ≡ true) × Rose old.log.faults new.log.faults × SameParts old new
AppliesBoot (Err StoreFailed) count old new = (new.halted ≡ true) × AppliesNone count old new
AppliesBoot (Err Halted) count old new = new ≡ old
AppliesBoot (Err NoMemory) count old new = (new.halted ≡ old.halted) × SameParts old new

-- ---- trim

-- where the log tells its windows: the SCN of the newest one behind base that isn't above another SCN, or base
abbrev pub IsNewBase : LogState → ℕ → ℕ → ℕ → Type 0
IsNewBase log base upto new = IfSome log.windows (λ held. new ≡ end_from base (windows_between base upto held))

abbrev pub based : BootMark → ℕ → BootMark
based m base = record m { base = base }

-- the commit that sets the boot mark alone
abbrev pub base_move : BootMark → Move
base_move m = move_of false [] (boot_mark_text m)

-- a base was found between the old one and the SCN that was asked
pub record FindsBase (scn base : ℕ) (old : BootState) : Type 0 where
  pub is : IsNewBase old.log old.mark.base (min scn old.mark.applied) base
  pub low : old.mark.base ≤ base
  pub high : base ≤ max old.mark.base (min scn old.mark.applied)

-- it is a later one, and was committed
pub record SetsLater (base : ℕ) (old new : BootState) : Type 0 where
  pub later : old.mark.base < base
  pub keeper : Meets None (base_move (based old.mark base)) old.keeper new.keeper
  pub mark : new.mark ≡ based old.mark base

-- a drop of this log drops every window that it may
abbrev pub DropsEach : LogState → Type 0
DropsEach log = option_map (λ (room : LogRoom). room.drops_all) log.room ≡ Some true

-- where the log tells its windows, another begins behind the newest of them up to an SCN
abbrev pub BeginsBehind : ℕ → LogState → LogState → Type 0
BeginsBehind scn old new = IfSome old.windows (λ held. new.floor ≡ end_from old.floor (windows_between old.floor scn held))

-- and then the log dropped windows up to it, or kept them where memory ran out; a log of which each is dropped drops each
pub record DropsLater (base : ℕ) (old new : BootState) : Type 0 where
  pub set : SetsLater base old new
  pub read : LogState
  pub same : SameLog old.log read
  pub dropped : Dropped base read new.log
  pub all : DropsEach old.log → BeginsBehind base old.log new.log
  pub room : new.log.room ≡ old.log.room

-- it is the old one, and nothing was done
pub record Keeps (base : ℕ) (old new : BootState) : Type 0 where
  pub is : base ≡ old.mark.base
  pub same : SameParts old new

-- it is a later one, and the commit failed before the log dropped windows
pub record SetsNone (base : ℕ) (old new : BootState) : Type 0 where
  pub later : old.mark.base < base
  pub keeper : Stopped (base_move (based old.mark base)) old.keeper new.keeper
  pub log : SameLog old.log new.log
  pub mark : new.mark ≡ old.mark

-- a call of `trim`, by its answer
abbrev pub Trims : Result ℕ BootFault → ℕ → BootState → BootState → Type 0
Trims (Ok base) scn old new = (new.halted ≡ false) × FindsBase scn base old × (Keeps base old new ⊎ DropsLater base old new)
Trims (Err LogFailed) scn old new = (new.halted ≡ true) × Rose old.log.faults new.log.faults
    × (SameParts old new ⊎ ((base : ℕ) × FindsBase scn base old × SetsLater base old new))
Trims (Err StoreFailed) scn old new = (new.halted ≡ true) × Rose old.keeper.faults new.keeper.faults
    × ((base : ℕ) × FindsBase scn base old × SetsNone base old new)
Trims (Err Halted) scn old new = new ≡ old
Trims (Err NoMemory) scn old new = (new.halted ≡ old.halted) × SameParts old new

-- ---- what a crash leaves in a trim

-- A log through a trim, with its commit between two moments of the log. Up to a state in which it was only read, it rests. There it
-- stays; or a later base was committed, and from then on it drops windows up to that.
pub record CommitsFirst {G K : Type 0} (passes : List Span → Bounds → G → G → Type 0) (log : G → LogState) (keeper : K → KeeperState) (old new : BootParts G K) : Type 0 where
  pub read : G
  pub rests : IfSome (log old.log).windows (λ ws. passes ws (at_rest (log old.log)) old.log read)
  pub drops : (new.log ≡ read) ⊎ (SetsLater new.mark.base (told log keeper old) (told log keeper new)
      × IfSome (log old.log).windows (λ ws. passes ws (dropping_to new.mark.base (log old.log)) read new.log))
