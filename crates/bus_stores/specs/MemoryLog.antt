-- What a log in memory is to a contract.
use Rattle.std.specs.Prelude.{◌≡◌, ℕ, ◌+◌, ◌≤◌, max, true, false, nat_lt, if◌then◌else◌, List, [], ◌∷◌, ◌++◌, take, drop, Option, Some, None, Result, Ok, Err}
use Rattle.bus_types.specs.declared.limits.TheConstants.{MAX_SCN}
use Rattle.bus_types.specs.Window.{Span, span_size}
use Rattle.bus_types.specs.Timeline.{IsTimelineFrom, end_from, total_size, windows_between}
use Rattle.bus_stores.specs.declared.keeper.Stop.{Stop}
use Rattle.bus_stores.specs.declared.keeper.Stop.TheVariants.{Before, After}
use Rattle.bus_stores.specs.declared.plan.Fail.{Fail}
use Rattle.bus_stores.specs.declared.log.LogFault.{LogFault}
use Rattle.bus_stores.specs.declared.log.LogFault.TheVariants.{Failed, Full, NoMemory}
use Rattle.bus_types.specs.Counting.{next_count}
use Rattle.bus_stores.specs.Memory.{no_fails, listed_stop}
use Rattle.bus_stores.specs.Log.{LogState}

-- its windows, the SCN behind which they begin, the most bytes that it holds, the calls that are to fail, and how many calls
-- were made and have failed
pub record MemoryWindows : Type 0 where
  pub windows : List Span
  pub floor : ℕ
  pub limit : ℕ
  pub fails : List Fail
  pub calls : ℕ
  pub faults : ℕ

abbrev pub new_windows : ℕ → List Fail → MemoryWindows
new_windows limit fails = record { windows = []; floor = 0; limit = limit; fails = fails; calls = 0; faults = 0 }

-- it tells everything, and is sound where no call is to fail
abbrev pub log_of : MemoryWindows → LogState
log_of s = record {
  floor = s.floor;
  high = end_from s.floor s.windows;
  windows = Some s.windows;
  room = Some (record { limit = s.limit; sound = no_fails s.fails; drops_all = true });
  full = λ size. nat_lt s.limit (total_size s.windows + size);
  faults = s.faults;
}

-- its windows follow each other from its floor on, in at most so many bytes as it holds
pub record AreKept (floor : ℕ) (windows : List Span) (size limit : ℕ) : Type 0 where
  pub chained : IsTimelineFrom floor windows
  pub low : floor ≤ MAX_SCN
  pub bytes : size ≡ total_size windows
  pub room : size ≤ limit

-- the stop that the next call meets
abbrev pub log_stop : MemoryWindows → Option Stop
log_stop s = listed_stop s.fails s.calls

-- a call fails exactly where it is listed. An append that is to fail after it counts may run out of memory instead
abbrev pub LogFailsAt : {X : Type 0} → Option Stop → Result X LogFault → Type 0
LogFailsAt None (Ok x) = Unit {0}
LogFailsAt None (Err Failed) = ⊥
LogFailsAt None (Err Full) = Unit {0}
LogFailsAt None (Err NoMemory) = Unit {0}
LogFailsAt (Some Before) (Ok x) = ⊥
LogFailsAt (Some Before) (Err Failed) = Unit {0}
LogFailsAt (Some Before) (Err Full) = ⊥
LogFailsAt (Some Before) (Err NoMemory) = ⊥
LogFailsAt (Some After) (Ok x) = ⊥
LogFailsAt (Some After) (Err Failed) = Unit {0}
LogFailsAt (Some After) (Err Full) = ⊥
LogFailsAt (Some After) (Err NoMemory) = Unit {0}

-- a call was counted, and the calls that are to fail are the same
pub record CountsLogCall (old new : MemoryWindows) : Type 0 where
  pub calls : new.calls ≡ next_count old.calls
  pub fails : new.fails ≡ old.fails

-- ---- what a call does

-- a call begins
abbrev pub log_begun : MemoryWindows → MemoryWindows
log_begun s = record s { calls = next_count s.calls }

-- a call fails
abbrev pub log_failed : MemoryWindows → MemoryWindows
log_failed s = record s { faults = s.faults + 1 }

-- a window stands behind the others
abbrev pub with_window : Span → MemoryWindows → MemoryWindows
with_window w s = record s { windows = s.windows ++ w ∷ [] }

-- a window stands behind the others, where there is room for it
abbrev pub with_roomy : Span → MemoryWindows → MemoryWindows
with_roomy w s = if (log_of s).full (span_size w) then s else with_window w s

-- the windows up to an SCN are dropped, and it begins behind the newest of them
abbrev pub without_upto : ℕ → MemoryWindows → MemoryWindows
without_upto scn s = record s {
  windows = windows_between scn (end_from s.floor s.windows) s.windows;
  floor = end_from s.floor (windows_between s.floor scn s.windows);
}

-- a call that begins fails at this stop: what it is to make is made where the stop is after it counts
abbrev pub log_stopped : Option Stop → (MemoryWindows → MemoryWindows) → MemoryWindows → MemoryWindows
log_stopped (Some After) make s = log_failed (make s)
log_stopped (Some Before) make s = log_failed s
log_stopped None make s = log_failed s

-- so many of the oldest windows are dropped
abbrev pub without_front : ℕ → MemoryWindows → MemoryWindows
without_front n s = record s { windows = drop n s.windows; floor = end_from s.floor (take n s.windows) }

-- a window was added, where there was room for it
abbrev pub Pushes : Span → MemoryWindows → MemoryWindows → Result Unit LogFault → Type 0
Pushes w old new (Ok done) = ((log_of old).full (span_size w) ≡ false) × (new ≡ with_window w old)
Pushes w old new (Err Failed) = ⊥
Pushes w old new (Err Full) = ((log_of old).full (span_size w) ≡ true) × (new ≡ old)
Pushes w old new (Err NoMemory) = ((log_of old).full (span_size w) ≡ false) × (new ≡ old)

-- a window was added, as far as there was room, and then the call failed; or memory ran out
abbrev pub PushesAndFails : Span → MemoryWindows → MemoryWindows → Result Unit LogFault → Type 0
PushesAndFails w old new (Ok done) = ⊥
PushesAndFails w old new (Err Failed) = new ≡ log_failed (with_roomy w old)
PushesAndFails w old new (Err Full) = ⊥
PushesAndFails w old new (Err NoMemory) = ((log_of old).full (span_size w) ≡ false) × (new ≡ old)

-- what an append leaves, by its answer: where it failed, the stop that it met says whether with the window
abbrev pub AppendStands : Span → MemoryWindows → MemoryWindows → Result Unit LogFault → Type 0
AppendStands w old new (Ok done) = new ≡ with_window w (log_begun old)
AppendStands w old new (Err Failed) = new ≡ log_stopped (log_stop old) (with_roomy w) (log_begun old)
AppendStands w old new (Err Full) = new ≡ log_begun old
AppendStands w old new (Err NoMemory) = new ≡ log_begun old

-- what a read leaves, by its answer
abbrev pub NextStands : {X : Type 0} → MemoryWindows → MemoryWindows → Result X LogFault → Type 0
NextStands old new (Ok x) = new ≡ log_begun old
NextStands old new (Err Failed) = new ≡ log_failed (log_begun old)
NextStands old new (Err Full) = ⊥
NextStands old new (Err NoMemory) = new ≡ log_begun old

-- what a drop leaves, by its answer: where it failed, the stop that it met says whether without the windows
abbrev pub DropStands : ℕ → MemoryWindows → MemoryWindows → Result Unit LogFault → Type 0
DropStands scn old new (Ok done) = new ≡ without_upto scn (log_begun old)
DropStands scn old new (Err Failed) = new ≡ log_stopped (log_stop old) (without_upto scn) (log_begun old)
DropStands scn old new (Err Full) = ⊥
DropStands scn old new (Err NoMemory) = ⊥

-- so many windows stand up to an SCN
pub record IsPlaceAfter (scn floor : ℕ) (windows : List Span) (place : ℕ) : Type 0 where
  pub front : take place windows ≡ windows_between floor scn windows
  pub behind : drop place windows ≡ windows_between scn (end_from floor windows) windows
  pub upto : end_from floor (take place windows) ≤ max floor scn
