-- What an opening tells of a disk.
use Rattle.std.specs.Prelude.{◌≡◌, ℕ, ◌+◌, ◌<◌, ◌≤◌, ◌^◌, ◌⊎◌, List, length, Option, Some, None, IfSome, Result, Ok, Err}
use Rattle.bus_types.specs.declared.limits.TheConstants.{MAX_SCN}
use Rattle.bus_types.specs.Causes.{Rose}
use Rattle.bus_types.specs.Window.{Span}
use Rattle.bus_types.specs.Timeline.{IsTimelineFrom, end_from}
use Rattle.log_disk.specs.Disk.{DiskState, Clock, may_leave, Only}
use Rattle.log_segment.specs.declared.segment.SegmentFault.{SegmentFault}
use Rattle.log_segment.specs.declared.segment.SegmentFault.TheVariants as opening
use Rattle.log_segment.specs.declared.scan.Scan.{Scan}
use Rattle.log_segment.specs.Image.{whole, IsFree, StandsFor, HoldsInUse}
use Rattle.log_segment.specs.Faults.{IsBadAt}
use Rattle.log_segment.specs.Looking.{Looks}
use Rattle.log_segment.specs.Segment.{SegmentParts, SegmentState, told, RisesTo, entries, Stands, StandsFree}

-- SCNs of windows that were read rise, and the gate that ends them has a place
pub record IsRead (s : Scan) : Type 0 where
  pub short : s.gate + 1 < 2 ^ 64
  pub rises : RisesTo s.high s.floor s.index.items
  pub within : s.high ≤ MAX_SCN

-- all windows of bytes were read
pub record HoldsWindows (bytes : List ℕ) (s : Scan) : Type 0 where
  pub windows : List Span
  pub low : s.floor ≤ MAX_SCN
  pub chained : IsTimelineFrom s.floor windows
  pub high : s.high ≡ end_from s.floor windows
  pub gate : s.gate ≡ length (whole s.floor windows)
  pub index : s.index.items ≡ entries 18 windows
  pub ends : StandsFor s.floor windows bytes

-- bytes are a segment that isn't in use, or one with these windows, or they are at fault
abbrev pub OpensAs : Result (Option Scan) SegmentFault → List ℕ → Type 0
OpensAs (Ok None) bytes = IsFree bytes
OpensAs (Ok (Some s)) bytes = HoldsWindows bytes s
OpensAs (Err (opening.Bad place)) bytes = IsBadAt place bytes
OpensAs (Err opening.Failed) bytes = Unit {0}
OpensAs (Err opening.NoMemory) bytes = Unit {0}

-- what was read of bytes is what a crash leaves
abbrev pub LastsAs : Result (Option Scan) SegmentFault → List ℕ → Clock → Type 0
LastsAs (Ok found) bytes clock = Only bytes (may_leave clock)
LastsAs (Err (opening.Bad place)) bytes clock = Only bytes (may_leave clock)
LastsAs (Err opening.Failed) bytes clock = Unit {0}
LastsAs (Err opening.NoMemory) bytes clock = Unit {0}

-- a segment stands for bytes: it isn't in use, or has their windows
abbrev pub StandsAs : List ℕ → SegmentState → Type 0
StandsAs bytes s = (IsFree bytes × StandsFree s) ⊎ ((from : ℕ) × (ws : List Span) × StandsFor from ws bytes × Stands from ws s)

-- whatever left the bytes, the segment stands for the windows that they hold
pub record Finds (bytes : List ℕ) (s : SegmentState) : Type 0 where
  pub windows : (from : ℕ) (ws : List Span) → HoldsInUse from ws bytes → Stands from ws s
  pub free : IsFree bytes → StandsFree s

-- A disk was opened as a segment, which lost nothing yet: where the disk tells its bytes, the segment stands for them, and a
-- crash leaves them.
pub record Opened (old : DiskState) (new : SegmentState) : Type 0 where
  pub looks : Looks old new.disk
  pub lost : new.numbers.lost ≡ 0
  pub stands : IfSome old.seen (λ bytes. StandsAs bytes new)

-- where an opening found a fault
abbrev pub HasFault : SegmentFault → DiskState → DiskState → Type 0
HasFault (opening.Bad place) old new = IfSome old.seen (λ bytes. IsBadAt place bytes × Only bytes (may_leave new.clock))
HasFault opening.Failed old new = Rose old.faults new.faults
HasFault opening.NoMemory old new = Unit {0}

-- a disk was not opened
pub record NotOpened (fault : SegmentFault) (old new : DiskState) : Type 0 where
  pub looks : Looks old new
  pub cause : HasFault fault old new

abbrev pub Opens : {D : Type 0} → (D → DiskState) → D → Result (SegmentParts D) (SegmentFault × D) → Type 0
Opens state disk (Ok segment) = Opened (state disk) (told state segment)
Opens state disk (Err x) = NotOpened x.0 (state disk) (state x.1)
