-- What a segment tells of itself, what its disk stands for, and what its calls do to both.
use Rattle.std.specs.Prelude.{◌≡◌, ℕ, ◌+◌, ◌<◌, ◌≤◌, ◌⊎◌, Bool, true, false, nat_lt, List, [], ◌∷◌, ◌++◌, length, Some, IfSome, Result, Ok, Err, OnOk}
use Rattle.bus_types.specs.declared.limits.TheConstants.{MAX_SCN}
use Rattle.bus_types.specs.declared.fault.Failed.{Failed}
use Rattle.bus_types.specs.Causes.{HasCause, Rose}
use Rattle.bus_types.specs.Window.{Span, span_size}
use Rattle.bus_types.specs.Timeline.{IsTimelineFrom, end_from}
use Rattle.bus_stores.specs.declared.log.LogFault.{LogFault}
use Rattle.bus_stores.specs.declared.log.LogFault.TheVariants as faults
use Rattle.bus_stores.specs.Log.{OnLogFailed}
use Rattle.log_disk.specs.Disk.{DiskState, LeavesOnly}
use Rattle.log_segment.specs.declared.segment.Entry.{Entry}
use Rattle.log_segment.specs.declared.segment.TheConstants.{MAX_USED}
use Rattle.log_segment.specs.Image.{whole, IsFree, HoldsInUse}
use Rattle.log_segment.specs.Gate.{RestsAt, RestsBehind}

-- ---- what it tells

-- its used length, whether it is in use, the SCN behind which its windows begin, that of its newest window, or the same where
-- it has none, where each window lies, and how often a disk gave no such window in a window's place
pub record Numbers : Type 0 where
  pub used : ℕ
  pub in_use : Bool
  pub floor : ℕ
  pub high : ℕ
  pub index : List Entry
  pub lost : ℕ

-- a segment: its disk, and its numbers
pub record SegmentParts (D : Type 0) : Type 0 where
  pub disk : D
  pub numbers : Numbers

-- what a segment tells: what its disk tells, and its numbers
pub record SegmentState : Type 1 where
  pub disk : DiskState
  pub numbers : Numbers

abbrev pub told : {D : Type 0} → (D → DiskState) → SegmentParts D → SegmentState
told state s = record { disk = state s.disk; numbers = s.numbers }

-- its count of faults: those of its disk, and the windows that the disk lost
abbrev pub fault_count : SegmentState → ℕ
fault_count s = s.disk.faults + s.numbers.lost

-- windows that lie one behind the other: SCNs rise from the floor to the newest one
abbrev pub RisesTo : ℕ → ℕ → List Entry → Type 0
RisesTo high low [] = low ≡ high
RisesTo high low (e ∷ es) = (low < e.scn) × RisesTo high e.scn es

-- what is true of every segment, whatever its disk tells
pub record IsSegment (s : SegmentState) : Type 0 where
  pub some : 0 < s.numbers.used
  pub room : IfSome s.disk.seen (λ bytes. s.numbers.used ≤ length bytes)
  pub rises : RisesTo s.numbers.high s.numbers.floor s.numbers.index
  pub within : s.numbers.high ≤ MAX_SCN

-- ---- what it stands for

-- where each record's length lies, the first of them at this place
abbrev pub entries : ℕ → List Span → List Entry
entries place [] = []
entries place (w ∷ ws) = record { scn = w.scn; place = place } ∷ entries (place + span_size w + 5) ws

-- the numbers of a segment in use with these windows behind a floor
abbrev pub numbers_of : ℕ → ℕ → List Span → Numbers
numbers_of lost floor ws = record {
  used = length (whole floor ws) + 1;
  in_use = true;
  floor = floor;
  high = end_from floor ws;
  index = entries 18 ws;
  lost = lost;
}

-- those of one that isn't in use
abbrev pub free_numbers : ℕ → Numbers
free_numbers lost = record { used = 1; in_use = false; floor = 0; high = 0; index = []; lost = lost }

-- its disk rests, and stands for these windows behind a floor: a crash now leaves this
pub record Stands (from : ℕ) (ws : List Span) (s : SegmentState) : Type 0 where
  pub low : from ≤ MAX_SCN
  pub chained : IsTimelineFrom from ws
  pub numbers : s.numbers ≡ numbers_of s.numbers.lost from ws
  pub rests : RestsBehind (whole from ws) s.disk

-- its disk rests, and isn't in use
pub record StandsFree (s : SegmentState) : Type 0 where
  pub numbers : s.numbers ≡ free_numbers s.numbers.lost
  pub rests : RestsBehind [] s.disk

-- ---- what each call does

-- every call of one that writes: the count of faults never falls, and it answers `Failed` only where that rose
abbrev pub CountsFaults : {X : Type 0} → SegmentState → SegmentState → Result X Failed → Type 0
CountsFaults old new result = HasCause (fault_count old) (fault_count new) result

-- the numbers at `Ok`, and else as they were
abbrev pub Becomes : {X E : Type 0} → Numbers → Numbers → Numbers → Result X E → Type 0
Becomes done old new (Ok x) = new ≡ done
Becomes done old new (Err e) = new ≡ old

-- it began a segment behind an SCN: a crash at any moment leaves it free, or in use without a window
pub record BeginsBehind (prev : ℕ) (old new : SegmentState) (result : Result Unit Failed) : Type 0 where
  pub counts : CountsFaults old new result
  pub numbers : Becomes (numbers_of old.numbers.lost prev []) old.numbers new.numbers result
  pub crash : StandsFree old → LeavesOnly old.disk.clock new.disk.clock (λ c. IsFree c ⊎ HoldsInUse prev [] c)
  pub done : OnOk result (StandsFree old → Stands prev [] new)

-- it freed a segment: a crash at any moment leaves it as it was, or free
pub record Frees (old new : SegmentState) (result : Result Unit Failed) : Type 0 where
  pub counts : CountsFaults old new result
  pub numbers : Becomes (free_numbers old.numbers.lost) old.numbers new.numbers result
  pub crash : (from : ℕ) (ws : List Span) → Stands from ws old → LeavesOnly old.disk.clock new.disk.clock (λ c. HoldsInUse from ws c ⊎ IsFree c)
  pub done : OnOk result ((from : ℕ) (ws : List Span) → Stands from ws old → StandsFree new)

-- no room is left for a window of so many bytes
abbrev pub is_full : ℕ → SegmentState → Bool
is_full size s = nat_lt MAX_USED (s.numbers.used + 5 + size)

-- a window more
abbrev pub with_window : Span → Numbers → Numbers
with_window w n = record n { used = n.used + span_size w + 5; high = w.scn; index = n.index ++ record { scn = w.scn; place = n.used } ∷ [] }

-- what an append leaves of the numbers, by its answer; `Full` comes exactly where no room is left
abbrev pub AppendLeaves : Span → SegmentState → SegmentState → Result Unit LogFault → Type 0
AppendLeaves w old new (Ok x) = (is_full (span_size w) old ≡ false) × (new.numbers ≡ with_window w old.numbers)
AppendLeaves w old new (Err faults.Failed) = (is_full (span_size w) old ≡ false) × (new.numbers ≡ old.numbers)
AppendLeaves w old new (Err faults.Full) = (is_full (span_size w) old ≡ true) × (new.numbers ≡ old.numbers)
AppendLeaves w old new (Err faults.NoMemory) = (is_full (span_size w) old ≡ false) × (new.numbers ≡ old.numbers)

-- it appended a window: a crash at any moment leaves the windows from before, with the new one or without
pub record Appends (w : Span) (old new : SegmentState) (result : Result Unit LogFault) : Type 0 where
  pub faults : fault_count old ≤ fault_count new
  pub failed : OnLogFailed result (Rose (fault_count old) (fault_count new))
  pub leaves : AppendLeaves w old new result
  pub crash : (from : ℕ) (ws : List Span) → Stands from ws old
      → LeavesOnly old.disk.clock new.disk.clock (λ c. HoldsInUse from ws c ⊎ HoldsInUse from (ws ++ w ∷ []) c)
  pub done : OnOk result ((from : ℕ) (ws : List Span) → Stands from ws old → Stands from (ws ++ w ∷ []) new)

-- where a call answers `Full` or `NoMemory`
abbrev pub OnRefused : {X : Type 0} → Result X LogFault → Type 0 → Type 0
OnRefused (Ok x) P = Unit {0}
OnRefused (Err faults.Failed) P = Unit {0}
OnRefused (Err faults.Full) P = P
OnRefused (Err faults.NoMemory) P = P

-- a disk was formatted: it rests, isn't in use, and is one closed gate
pub record Formats (old new : DiskState) (result : Result Unit Failed) : Type 0 where
  pub cause : HasCause old.faults new.faults result
  pub done : OnOk result ((bytes : List ℕ) → old.seen ≡ Some bytes → RestsBehind [] new)
  pub gate : OnOk result ((bytes : List ℕ) → old.seen ≡ Some bytes → RestsAt (0 ∷ []) new)
