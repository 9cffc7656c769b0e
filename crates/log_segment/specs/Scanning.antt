-- A segment that is read from its disk, gate by gate.
use Rattle.std.specs.Prelude.{◌≡◌, ℕ, ◌+◌, ◌*◌, ◌-◌, ◌≤◌, Bool, true, false, List, [], ◌∷◌, ◌++◌, length, Result, Ok, Err}
use Rattle.bus_types.specs.declared.limits.TheConstants.{MAX_SCN}
use Rattle.bus_types.specs.Window.{Span}
use Rattle.bus_types.specs.Timeline.{IsTimelineFrom, end_from}
use Rattle.log_segment.specs.declared.segment.Entry.{Entry}
use Rattle.log_segment.specs.declared.segment.SegmentFault.{SegmentFault}
use Rattle.log_segment.specs.declared.segment.SegmentFault.TheVariants as opening
use Rattle.log_segment.specs.declared.scan.Scan.{Scan}
use Rattle.log_segment.specs.Image.{whole, IsFree}
use Rattle.log_segment.specs.Segment.{RisesTo, entries}
use Rattle.log_segment.specs.Faults.{IsBadAt}

-- what is ahead of the next gate lies before the end of the disk, and SCNs rise
pub record IsScan (end : ℕ) (s : Scan) (ahead : List ℕ) : Type 0 where
  pub room : s.gate + length ahead ≤ end
  pub rises : RisesTo s.high s.floor s.index.items
  pub within : s.high ≤ MAX_SCN

-- what is left to do: bytes that are to be read count twice, since they are then to be taken
abbrev pub left : ℕ → ℕ → List ℕ → ℕ
left end gate ahead = 2 * (end - (gate + length ahead)) + length ahead

-- a window was noted, whose record takes so many bytes
pub record Notes (number size : ℕ) (old new : Scan) : Type 0 where
  pub floor : new.floor ≡ old.floor
  pub high : new.high ≡ number
  pub gate : new.gate ≡ old.gate + size
  pub index : new.index.items ≡ old.index.items ++ record { scn = number; place = old.gate + 1 } ∷ []

-- where a disk failed
abbrev pub OnScanFailed : {X : Type 0} → Result X SegmentFault → Type 0 → Type 0
OnScanFailed (Ok x) P = Unit {0}
OnScanFailed (Err opening.Failed) P = P
OnScanFailed (Err (opening.Bad place)) P = Unit {0}
OnScanFailed (Err opening.NoMemory) P = Unit {0}

-- the windows of bytes behind a floor were read up to a gate, and what stands from it on begins with what is ahead
pub record ReachedAt (bytes : List ℕ) (from newest place : ℕ) (seen : List Entry) (ahead : List ℕ) : Type 0 where
  pub windows : List Span
  pub low : from ≤ MAX_SCN
  pub chained : IsTimelineFrom from windows
  pub high : newest ≡ end_from from windows
  pub gate : place ≡ length (whole from windows)
  pub index : seen ≡ entries 18 windows
  pub rest : List ℕ
  pub parts : bytes ≡ whole from windows ++ (ahead ++ rest)

abbrev pub Reached : List ℕ → Scan → List ℕ → Type 0
Reached bytes s ahead = ReachedAt bytes s.floor s.high s.gate s.index.items ahead

-- the reading went on, or a closed gate stands in front, or the bytes are at fault
abbrev pub ScanStep : Result Bool SegmentFault → List ℕ → Scan → List ℕ → Type 0
ScanStep (Ok true) bytes s ahead = Reached bytes s ahead × IsFree ahead
ScanStep (Ok false) bytes s ahead = Reached bytes s ahead
ScanStep (Err (opening.Bad place)) bytes s ahead = IsBadAt place bytes
ScanStep (Err opening.Failed) bytes s ahead = Unit {0}
ScanStep (Err opening.NoMemory) bytes s ahead = Unit {0}

abbrev pub Scans : Result Bool SegmentFault → List ℕ → Scan → List ℕ → Scan → List ℕ → Type 0
Scans result bytes old before new after = Reached bytes old before → ScanStep result bytes new after

-- the windows were read to their end, or the bytes are at fault
abbrev pub ScanEnd : Result Scan SegmentFault → List ℕ → List ℕ → Type 0
ScanEnd (Ok s) bytes ahead = Reached bytes s ahead × IsFree ahead
ScanEnd (Err (opening.Bad place)) bytes ahead = IsBadAt place bytes
ScanEnd (Err opening.Failed) bytes ahead = Unit {0}
ScanEnd (Err opening.NoMemory) bytes ahead = Unit {0}

abbrev pub ScansAll : Result Scan SegmentFault → List ℕ → Scan → List ℕ → List ℕ → Type 0
ScansAll result bytes old before after = Reached bytes old before → ScanEnd result bytes after
