-- What the applier does to a log and a keeper.
use Rattle.std.specs.Prelude.{◌≡◌, ℕ, ◌≤◌, false, List, [], ◌∷◌, take, flat_map, Option, Some, None, IfSome, Result, Ok, Err}
use Rattle.bus_types.specs.Causes.{Rose}
use Rattle.bus_types.specs.Window.{Span}
use Rattle.bus_types.specs.Timeline.{end_from, windows_between}
use Rattle.bus_stores.specs.Keeper.{KeeperState, Move, SameStore, move_of}
use Rattle.bus_stores.specs.Taking.{LeavesBy, MayFail}
use Rattle.bus_stores.specs.declared.keeper.StoreFault.TheVariants as stores
use Rattle.bus_stores.specs.Log.{LogState}
use Rattle.bus_stores.specs.Following.{AreFound}
use Rattle.bus_stores.specs.declared.boot_fault.BootFault.{BootFault}
use Rattle.bus_stores.specs.declared.boot_fault.BootFault.TheVariants.{LogFailed, StoreFailed, Halted, NoMemory}
use Rattle.snapshot_applier.specs.declared.boot.BootMark.{BootMark}
use Rattle.snapshot_applier.specs.BootMark.{IsBootMark, boot_mark_text}

-- the next windows behind an SCN that a log gives, at most so many, and fewer only where none is left
pub record AreNext (scn most : ℕ) (log : LogState) (ws : List Span) : Type 0 where
  pub found : AreFound scn log.high most ws
  pub told : IfSome log.windows (λ held. ws ≡ take most (windows_between scn log.high held))

-- the boot mark after these windows were applied
abbrev pub applied_after : BootMark → List Span → BootMark
applied_after m ws = record m { applied = end_from m.applied ws }

-- their one commit, or none where there is no window
abbrev pub commit_of : BootMark → List Span → Option Move
commit_of m [] = None
commit_of m (w ∷ ws) = Some (move_of false (flat_map (λ v. v.changes) (w ∷ ws)) (boot_mark_text (applied_after m (w ∷ ws))))

-- the next windows were applied in one commit, or there was none
pub record Applied (m next : BootMark) (most : ℕ) (log : LogState) (old new : KeeperState) : Type 0 where
  pub windows : List Span
  pub are : AreNext m.applied most log windows
  pub mark : next ≡ applied_after m windows
  pub made : LeavesBy {X = Unit {0}} (commit_of m windows) old new (Ok tt)

-- the commit of the next windows failed: the keeper is as before it or as after it
pub record Unapplied (m : BootMark) (most : ℕ) (log : LogState) (old new : KeeperState) : Type 0 where
  pub windows : List Span
  pub are : AreNext m.applied most log windows
  pub unmade : LeavesBy {X = Unit {0}} (commit_of m windows) old new (Err stores.Failed)
  pub rose : Rose old.faults new.faults
  pub may : MayFail old

-- a call of the applier, by its answer
abbrev pub Applies : Result BootMark BootFault → BootMark → ℕ → LogState → LogState → KeeperState → KeeperState → Type 0
Applies (Ok next) m most log log' old new = Applied m next most log old new
Applies (Err LogFailed) m most log log' old new = Rose log.faults log'.faults × SameStore old new
Applies (Err StoreFailed) m most log log' old new = Unapplied m most log old new
Applies (Err Halted) m most log log' old new = ⊥
Applies (Err NoMemory) m most log log' old new = SameStore old new

-- the boot mark that a call answers: of the same base, not behind the one given, and at or before the log's newest window
pub record Advances (m next : BootMark) (high : ℕ) : Type 0 where
  pub lawful : IsBootMark next
  pub base : next.base ≡ m.base
  pub later : m.applied ≤ next.applied
  pub upto : next.applied ≤ high
