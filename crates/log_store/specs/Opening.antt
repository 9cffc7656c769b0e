-- What an opening tells of disks.
use Rattle.std.specs.Prelude.{◌≡◌, ℕ, ◌+◌, List, [], ◌∷◌, map, Some, Result, Ok, Err}
use Rattle.std.specs.Global.{Global}
use Rattle.std.specs.Prelude.{Vec}
use Rattle.bus_types.specs.Causes.{Rose}
use Rattle.bus_types.specs.Window.{Span}
use Rattle.bus_stores.specs.Log.{LogState}
use Rattle.log_disk.specs.Disk.{DiskState}
use Rattle.log_segment.specs.Looking.{Looks}
use Rattle.log_segment.specs.Segment.{SegmentParts}
use Rattle.log_store.specs.declared.opening.OpenLog.{OpenLog}
use Rattle.log_store.specs.declared.opening.OpenLog.TheVariants as opening
use Rattle.log_store.specs.Log.{HoldLog, AreBadAt}
use Rattle.log_store.specs.Store.{StoreParts, log_of, losses_of}

-- the disks of segments
abbrev pub disks_of : {D : Type 0} → List (SegmentParts D) → List D
disks_of ss = map (λ s. s.disk) ss

-- disks that tell all their bytes, and these
abbrev pub AllTell : {D : Type 0} → (D → DiskState) → List D → List (List ℕ) → Type 0
AllTell state [] [] = Unit {0}
AllTell state [] (c ∷ cs) = ⊥
AllTell state (d ∷ ds) [] = ⊥
AllTell state (d ∷ ds) (c ∷ cs) = ((state d).seen ≡ Some c) × AllTell state ds cs

-- disks that were read, each of them: a crash at any moment leaves what it might have left before
abbrev pub AllLook : {D : Type 0} → (D → DiskState) → List D → List D → Type 0
AllLook state [] [] = Unit {0}
AllLook state [] (e ∷ es) = ⊥
AllLook state (d ∷ ds) [] = ⊥
AllLook state (d ∷ ds) (e ∷ es) = Looks (state d) (state e) × AllLook state ds es

-- how often disks failed
abbrev pub disk_faults : {D : Type 0} → (D → DiskState) → List D → ℕ
disk_faults state [] = 0
disk_faults state (d ∷ ds) = (state d).faults + disk_faults state ds

-- a log tells the windows that these bytes hold
pub record FindsLog (images : List (List ℕ)) (s : LogState) : Type 0 where
  pub windows : List Span
  pub told : s.windows ≡ Some windows
  pub holds : HoldLog s.floor s.high windows images

-- Disks were opened as a log, which lost no window yet: where all of them tell their bytes, it tells the windows in them.
pub record LogOpened {D : Type 0} (state : D → DiskState) (disks : List D) (s : StoreParts D) : Type 0 where
  pub looks : AllLook state disks (disks_of s.segments)
  pub losses : losses_of s.segments ≡ 0
  pub finds : (images : List (List ℕ)) → AllTell state disks images → FindsLog images (log_of state s)

-- why they weren't
abbrev pub IsCause : {D : Type 0} → (D → DiskState) → OpenLog → List D → List D → Type 0
IsCause state (opening.BadSegment segment place) old new = (images : List (List ℕ)) → AllTell state old images → AreBadAt segment place images
IsCause state opening.Failed old new = Rose (disk_faults state old) (disk_faults state new)
IsCause state opening.NoMemory old new = Unit {0}

-- disks weren't opened
pub record LogNotOpened {D : Type 0} (state : D → DiskState) (fault : OpenLog) (old new : List D) : Type 0 where
  pub looks : AllLook state old new
  pub cause : IsCause state fault old new

abbrev pub OpensLog : {D : Type 0} → (D → DiskState) → List D → Result (StoreParts D) (OpenLog × Vec D Global) → Type 0
OpensLog state disks (Ok log) = LogOpened state disks log
OpensLog state disks (Err x) = LogNotOpened state x.0 disks x.1.items

-- ---- whatever left the bytes

-- the log has these windows between these ends
pub record IsLogOf (low newest : ℕ) (ws : List Span) (s : LogState) : Type 0 where
  pub floor : s.floor ≡ low
  pub high : s.high ≡ newest
  pub windows : s.windows ≡ Some ws

-- the fault isn't one of the bytes
abbrev pub IsNotBad : OpenLog → Type 0
IsNotBad (opening.BadSegment segment place) = ⊥
IsNotBad opening.Failed = Unit {0}
IsNotBad opening.NoMemory = Unit {0}

-- where the disks tell bytes that are a log, it is opened, unless a disk fails or memory runs out
abbrev pub FindsSame : {D : Type 0} → (D → DiskState) → List D → Result (StoreParts D) (OpenLog × Vec D Global) → Type 0
FindsSame state disks (Ok log) = (images : List (List ℕ)) (low high : ℕ) (ws : List Span) → AllTell state disks images
    → HoldLog low high ws images → IsLogOf low high ws (log_of state log)
FindsSame state disks (Err x) = (images : List (List ℕ)) (low high : ℕ) (ws : List Span) → AllTell state disks images
    → HoldLog low high ws images → IsNotBad x.0
