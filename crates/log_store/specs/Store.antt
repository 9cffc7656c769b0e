-- What a log over disks tells of itself.
use Rattle.std.specs.Prelude.{◌≡◌, ℕ, ◌+◌, ◌<◌, ◌≤◌, Bool, true, false, not, ◌&&◌, if◌then◌else◌, List, [], ◌∷◌, length, slice_get, Option, Some, None, is_some}
use Rattle.bus_types.specs.declared.limits.TheConstants.{MAX_SCN}
use Rattle.bus_types.specs.Window.{Span}
use Rattle.bus_stores.specs.Log.{LogState, Bounds}
use Rattle.log_disk.specs.Disk.{DiskState}
use Rattle.log_segment.specs.Segment.{SegmentParts, SegmentState, told, fault_count, Stands, StandsFree}
use Rattle.log_store.specs.Log.{IsIn, AreInOrder, windows_of}
use Rattle.log_store.specs.Crash.{Passes, HoldPart}
use Rattle.log_store.specs.Order.{AllBelow, numbers_at, floor_at, high_at, Joined, free_place, last_place, used_at, is_full}
use Rattle.log_store.specs.Seen.{windows_seen}

-- its segments, in the order of the disks; the places of those in use, in the order of their windows; its ends; the disks as
-- they were when it was opened; and whether a call has failed since that may have left one of them otherwise than it is told
pub record StoreParts (D : Type 0) : Type 0 where
  pub segments : List (SegmentParts D)
  pub order : List ℕ
  pub floor : ℕ
  pub high : ℕ
  pub opened : List D
  pub lost : Bool

-- ---- what it tells

-- how often its disks failed, and gave something else in a window's place
abbrev pub faults_of : {D : Type 0} → (D → DiskState) → List (SegmentParts D) → ℕ
faults_of state [] = 0
faults_of state (s ∷ ss) = fault_count (told state s) + faults_of state ss

-- how often a disk gave something else in a window's place
abbrev pub losses_of : {D : Type 0} → List (SegmentParts D) → ℕ
losses_of [] = 0
losses_of (s ∷ ss) = s.numbers.lost + losses_of ss

-- all disks tell their bytes
abbrev pub all_tell : {D : Type 0} → (D → DiskState) → List D → Bool
all_tell state [] = true
all_tell state (d ∷ ds) = is_some (state d).seen && all_tell state ds

-- the log tells its windows: all disks told their bytes when it was opened, and no call failed since that changes them
abbrev pub is_told : {D : Type 0} → (D → DiskState) → StoreParts D → Bool
is_told state s = not s.lost && all_tell state s.opened

-- the windows in a segment's bytes, where there is one
abbrev pub windows_in : {D : Type 0} → (D → DiskState) → Option (SegmentParts D) → List Span
windows_in state None = []
windows_in state (Some s) = windows_seen (state s.disk).seen

abbrev pub windows_at : {D : Type 0} → (D → DiskState) → List (SegmentParts D) → ℕ → List Span
windows_at state ss i = windows_in state (slice_get ss i)

abbrev pub log_of : {D : Type 0} → (D → DiskState) → StoreParts D → LogState
log_of state s = record {
  floor = s.floor;
  high = s.high;
  windows = if is_told state s then Some (windows_of (windows_at state s.segments) s.order) else None;
  room = None;
  full = is_full (used_at s.segments (last_place s.order)) (free_place s.segments);
  faults = faults_of state s.segments;
}

-- A crash at any moment from one state to another, in a call or between two, while one disk moves on after the other, leaves
-- disks that are a log with the windows of this list between its ends, which lie within these bounds.
abbrev pub passes : {D : Type 0} → (D → DiskState) → List Span → Bounds → StoreParts D → StoreParts D → Type 0
passes state ws b old new = Passes (λ s. state s.disk) (HoldPart ws b) old.segments new.segments

-- No segment is left to give up for an SCN: where more than one is in use, the oldest has windows behind it.
abbrev pub KeepsBehind : {D : Type 0} → ℕ → StoreParts D → Type 0
KeepsBehind scn s = (p q : ℕ) (more : List ℕ) → s.order ≡ p ∷ q ∷ more → scn < high_at s.segments p

-- ---- what is true of it

-- a segment stands for the windows in its bytes, or isn't in use
pub record StandsSeen (s : SegmentState) : Type 0 where
  pub used : s.numbers.in_use ≡ true → Stands s.numbers.floor (windows_seen s.disk.seen) s
  pub free : s.numbers.in_use ≡ false → StandsFree s

-- each segment does, and those in use are these, in order
pub record AllStand {D : Type 0} (state : D → DiskState) (ss : List (SegmentParts D)) (order : List ℕ) : Type 0 where
  pub each : (i : ℕ) (s : SegmentParts D) → slice_get ss i ≡ Some s → StandsSeen (told state s)
  pub covers : (i : ℕ) → (numbers_at ss i).in_use ≡ true → IsIn i order
  pub sorted : AreInOrder (floor_at ss) order

-- what is true of every log over disks
pub record IsStore {D : Type 0} (state : D → DiskState) (s : StoreParts D) : Type 0 where
  pub joined : Joined (numbers_at s.segments) s.floor s.order s.high
  pub places : AllBelow (length s.segments) s.order
  pub within : s.high ≤ MAX_SCN
  pub empty : s.order ≡ [] → s.floor ≡ 0
  pub stands : is_told state s ≡ true → AllStand state s.segments s.order
