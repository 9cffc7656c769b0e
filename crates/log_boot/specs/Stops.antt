-- What a stop leaves of a bootstrap over a log on disks.
use Rattle.std.specs.Prelude.{◌≡◌, ◌⊎◌, ℕ, ◌<◌, ◌≤◌, false, nat_lt, if◌then◌else◌, min, List, ◌++◌, take, Option, Some, None, IfSome}
use Rattle.bus_types.specs.Window.{Span}
use Rattle.bus_types.specs.Timeline.{IsTimeline, end_from, windows_between}
use Rattle.bus_wire.specs.True.{Boot}
use Rattle.bus_stores.specs.Keeper.{KeeperState, Content, Move, untold, moved}
use Rattle.bus_stores.specs.Log.{LogState, at_rest, growing_to}
use Rattle.snapshot_applier.specs.declared.boot.BootMark.{BootMark}
use Rattle.snapshot_applier.specs.Apply.{commit_of}
use Rattle.bootstrap_core.specs.Boot.{BootParts, told, numbers, StandsForBoot, Stands}
use Rattle.bootstrap_core.specs.Logging.{AreBrought}
use Rattle.bootstrap_core.specs.Moving.{TellsWindows, base_move}
use Rattle.log_disk.specs.Disk.{DiskState}
use Rattle.log_store.specs.Log.{HoldLog}
use Rattle.log_store.specs.Crash.{Passes}
use Rattle.log_store.specs.Store.{StoreParts, log_of, passes}

-- ---- before the stop

-- a bootstrap over a log on disks stands for a timeline, its log tells its windows, and its keeper tells this content
pub record Runs {D K : Type 0} (disk : D → DiskState) (store : K → KeeperState) (ws : List Span) (c : Content) (b : BootParts (StoreParts D) K) : Type 0 where
  pub timeline : IsTimeline ws
  pub stands : Stands ws (told (log_of disk) store b)
  pub windows : TellsWindows (log_of disk b.log)
  pub content : (store b.keeper).content ≡ Some c
  pub runs : b.halted ≡ false

-- its base, applied and high
abbrev pub numbers_of : {D K : Type 0} → (D → DiskState) → BootParts (StoreParts D) K → Boot
numbers_of disk b = numbers (log_of disk b.log) b.mark

-- ---- what a call of a bootstrap says of a crash meanwhile

-- it leaves the log's windows that were told
abbrev pub Rests : {D : Type 0} → (D → DiskState) → StoreParts D → StoreParts D → Type 0
Rests disk old new = IfSome (log_of disk old).windows (λ ws. passes disk ws (at_rest (log_of disk old)) old new)

-- and of those of a reply that were to be appended, so many at most, the oldest
abbrev pub Grows : {D : Type 0} → (D → DiskState) → ℕ → List ℕ → StoreParts D → StoreParts D → Type 0
Grows disk count reply old new = IfSome (log_of disk old).windows
    (λ held. (brought : List Span) × AreBrought count reply (log_of disk old).high brought ×
    passes disk (held ++ brought) (growing_to (end_from (log_of disk old).high brought) (log_of disk old)) old new)

-- ---- what a keeper may hold

-- the commit of an apply of so many windows, where there is a window
abbrev pub apply_commit : List Span → Boot → ℕ → Option Move
apply_commit ws b count = commit_of (record { base = b.base; applied = b.applied }) (take count (windows_between b.applied b.high ws))

-- the SCN of the newest window of a timeline behind a base up to an SCN and up to applied, or the base
abbrev pub base_upto : List Span → Boot → ℕ → ℕ
base_upto ws b scn = end_from b.base (windows_between b.base (min scn b.applied) ws)

-- the commit of a trim up to an SCN, where there is a later base
abbrev pub trim_commit : List Span → Boot → ℕ → Option Move
trim_commit ws b scn =
    if nat_lt b.base (base_upto ws b scn) then Some (base_move (record { base = base_upto ws b scn; applied = b.applied })) else None

-- the content after a commit, or the same where there is none
abbrev pub committed : Option Move → Content → Content
committed None c = c
committed (Some m) c = moved m c

-- the content before a commit or after it
abbrev pub IsEither : Option Move → Content → Content → Type 0
IsEither move c d = (d ≡ c) ⊎ (d ≡ committed move c)

-- the content after a commit; or that before it, where the boot mark of the bootstrap is still the one before
abbrev pub IsEitherBy : Option Move → BootMark → BootMark → Content → Content → Type 0
IsEitherBy move before after c d = (d ≡ committed move c) ⊎ ((d ≡ c) × (after ≡ before))

-- ---- after the stop

-- a log with these windows between its ends
abbrev pub log_with : ℕ → ℕ → List Span → LogState
log_with low high windows = record { floor = low; high = high; windows = Some windows; room = None; full = λ size. false; faults = 0 }

-- a keeper that tells this content
abbrev pub keeper_with : Content → KeeperState
keeper_with c = record (untold 0) { content = Some c }

-- no number of a bootstrap is below that of another
pub record NotBelow (least b : Boot) : Type 0 where
  pub base : least.base ≤ b.base
  pub applied : least.applied ≤ b.applied
  pub high : least.high ≤ b.high

-- Bytes of disks are a log that, with a keeper's content, stands for a timeline at the boot mark that is stored: the log begins at or
-- below its base and ends at or above its applied. None of its numbers is below these.
pub record Survives (ws : List Span) (least : Boot) (c : Content) (images : List (List ℕ)) : Type 0 where
  pub low : ℕ
  pub high : ℕ
  pub windows : List Span
  pub holds : HoldLog low high windows images
  pub mark : BootMark
  pub stands : StandsForBoot ws (log_with low high windows) (keeper_with c) mark
  pub not_below : NotBelow least (numbers (log_with low high windows) mark)

-- a crash at any moment from one state of the log to another leaves disks of which this is true, whichever of some contents the
-- keeper holds
abbrev pub SurvivesStops : {D : Type 0} → (D → DiskState) → List Span → Boot → (Content → Type 0) → StoreParts D → StoreParts D → Type 0
SurvivesStops disk ws least held old new =
    Passes (λ s. disk s.disk) (λ images. (d : Content) → held d → Survives ws least d images) old.segments new.segments

-- The same of a trim, by its commit. Up to a state of the log, disks survive with the content before the commit and with the one after
-- it. There the log stays; or the boot mark has moved on, and from then on they survive with the content after it.
pub record SurvivesTrim {D : Type 0} (disk : D → DiskState) (ws : List Span) (least : Boot) (move : Option Move) (c : Content) (before after : BootMark) (old new : StoreParts D) : Type 0 where
  pub committed_at : StoreParts D
  pub until : SurvivesStops disk ws least (IsEither move c) old committed_at
  pub since : (new ≡ committed_at) ⊎ ((before.base < after.base) × SurvivesStops disk ws least (λ d. d ≡ committed move c) committed_at new)
