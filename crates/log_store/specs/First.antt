-- A segment that is taken into use with its first window.
use Rattle.std.specs.Prelude.{◌≡◌, ℕ, ◌≤◌, ◌⊎◌, true, false, List, [], ◌∷◌, Result, Ok, Err, OnOk}
use Rattle.bus_types.specs.declared.fault.Failed.{Failed}
use Rattle.bus_types.specs.Causes.{Rose}
use Rattle.bus_types.specs.Window.{Span}
use Rattle.bus_stores.specs.declared.log.LogFault.{LogFault}
use Rattle.bus_stores.specs.declared.log.LogFault.TheVariants as faults
use Rattle.bus_stores.specs.Log.{OnLogFailed}
use Rattle.log_disk.specs.Disk.{LeavesOnly}
use Rattle.log_segment.specs.Image.{IsFree, HoldsInUse}
use Rattle.log_segment.specs.Segment.{Numbers, SegmentState, fault_count, Stands, StandsFree}

-- it is in use between these SCNs
pub record HasEnds (low newest : ℕ) (n : Numbers) : Type 0 where
  pub in_use : n.in_use ≡ true
  pub floor : n.floor ≡ low
  pub high : n.high ≡ newest

-- what it leaves of the numbers, by its answer
abbrev pub FirstLeaves : Span → Numbers → Result Unit LogFault → Type 0
FirstLeaves w n (Ok x) = HasEnds w.prev w.scn n
FirstLeaves w n (Err faults.Failed) = Unit {0}
FirstLeaves w n (Err faults.Full) = ⊥
FirstLeaves w n (Err faults.NoMemory) = n.in_use ≡ false

-- where a call answers `NoMemory`
abbrev pub OnNoMemory : {X : Type 0} → Result X LogFault → Type 0 → Type 0
OnNoMemory (Ok x) P = Unit {0}
OnNoMemory (Err faults.Failed) P = Unit {0}
OnNoMemory (Err faults.Full) P = Unit {0}
OnNoMemory (Err faults.NoMemory) P = P

-- the fault where a segment was to be given up for want of memory
abbrev pub IsRefused : Result Unit Failed → LogFault → Type 0
IsRefused (Ok x) fault = fault ≡ faults.NoMemory
IsRefused (Err e) fault = fault ≡ faults.Failed

-- bytes are a segment that isn't in use, or one without a window, or with this one
abbrev pub HoldsFirst : Span → List ℕ → Type 0
HoldsFirst w c = IsFree c ⊎ HoldsInUse w.prev [] c ⊎ HoldsInUse w.prev (w ∷ []) c

-- A segment was taken into use with its first window: a crash at any moment leaves it free, without the window or with it.
pub record PutsFirst (w : Span) (old new : SegmentState) (result : Result Unit LogFault) : Type 0 where
  pub faults : fault_count old ≤ fault_count new
  pub failed : OnLogFailed result (Rose (fault_count old) (fault_count new))
  pub leaves : FirstLeaves w new.numbers result
  pub lost : new.numbers.lost ≡ old.numbers.lost
  pub crash : StandsFree old → LeavesOnly old.disk.clock new.disk.clock (HoldsFirst w)
  pub done : OnOk result (StandsFree old → Stands w.prev (w ∷ []) new)
  pub back : OnNoMemory result (StandsFree old → StandsFree new)
