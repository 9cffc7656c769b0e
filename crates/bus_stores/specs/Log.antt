-- What a log of windows tells of itself, and what its calls do to that.
use Rattle.std.specs.Prelude.{◌≡◌, ℕ, ◌+◌, ◌<◌, ◌≤◌, max, Bool, true, false, nat_lt, List, [], ◌∷◌, ◌++◌, find, Option, None, option_map, IfSome, IfNone, Result, Ok, Err, IfOk}
use Rattle.bus_types.specs.declared.limits.TheConstants.{MAX_SCN}
use Rattle.bus_types.specs.Causes.{Rose}
use Rattle.bus_types.specs.Window.{Span, span_size}
use Rattle.bus_types.specs.Timeline.{IsTimelineFrom, end_from, total_size, windows_between}
use Rattle.bus_stores.specs.declared.log.LogFault.{LogFault}
use Rattle.bus_stores.specs.declared.log.LogFault.TheVariants.{Failed, Full, NoMemory}

-- ---- what it tells

-- the most bytes of windows in full that it holds, whether none of its calls fails, and whether a drop drops every window
-- that it may and wants no memory
pub record LogRoom : Type 0 where
  pub limit : ℕ
  pub sound : Bool
  pub drops_all : Bool

-- what a log tells: the SCN behind which its windows begin, that of its newest window, or the same where it has none; its
-- windows and its room, where it tells them; which sizes find no room; and how often it failed
pub record LogState : Type 0 where
  pub floor : ℕ
  pub high : ℕ
  pub windows : Option (List Span)
  pub room : Option LogRoom
  pub full : ℕ → Bool
  pub faults : ℕ

-- a log that tells neither its windows nor its room, with a count of faults of its own
abbrev pub untold_log : ℕ → LogState → LogState
untold_log faults s = record s { windows = None; room = None; faults = faults }

-- windows that follow the floor and each other up to the newest one
pub record Holds (floor high : ℕ) (windows : List Span) : Type 0 where
  pub chained : IsTimelineFrom floor windows
  pub ends : end_from floor windows ≡ high

-- a size finds no room exactly where it and those of the windows sum to more than the limit
abbrev pub IsRoomy : (ℕ → Bool) → List Span → LogRoom → Type 0
IsRoomy full windows room = (size : ℕ) → full size ≡ nat_lt room.limit (total_size windows + size)

-- what is true of every log, whatever it tells
pub record IsLog (s : LogState) : Type 0 where
  pub low : s.floor ≤ s.high
  pub within : s.high ≤ MAX_SCN
  pub holds : IfSome s.windows (λ ws. Holds s.floor s.high ws)
  pub roomy : IfSome s.windows (λ ws. IfSome s.room (λ room. IsRoomy s.full ws room))

-- ---- what each call leaves

-- where a call answers `Failed`
abbrev pub OnLogFailed : {X : Type 0} → Result X LogFault → Type 0 → Type 0
OnLogFailed (Ok x) P = Unit {0}
OnLogFailed (Err Failed) P = P
OnLogFailed (Err Full) P = Unit {0}
OnLogFailed (Err NoMemory) P = Unit {0}

-- every call: the count of faults never falls, it answers `Failed` only where that rose, and never at a sound log; its room
-- stays as it was
pub record LogCounts {X : Type 0} (old new : LogState) (result : Result X LogFault) : Type 0 where
  pub faults : old.faults ≤ new.faults
  pub failed : OnLogFailed result (Rose old.faults new.faults)
  pub sound : OnLogFailed result (IfSome old.room (λ room. room.sound ≡ false))
  pub room : new.room ≡ old.room

-- all but the count is as it was
abbrev pub SameLog : LogState → LogState → Type 0
SameLog old new = new ≡ record old { faults = new.faults }

-- a window was appended
pub record Appended (w : Span) (old new : LogState) : Type 0 where
  pub free : old.full (span_size w) ≡ false
  pub floor : new.floor ≡ old.floor
  pub high : new.high ≡ w.scn
  pub windows : new.windows ≡ option_map (λ ws. ws ++ w ∷ []) old.windows

-- what an append leaves, by its answer; after `Failed` the log is opened again
abbrev pub AppendLeaves : Span → LogState → LogState → Result Unit LogFault → Type 0
AppendLeaves w old new (Ok done) = Appended w old new
AppendLeaves w old new (Err Failed) = Unit {0}
AppendLeaves w old new (Err Full) = (old.full (span_size w) ≡ true) × SameLog old new
AppendLeaves w old new (Err NoMemory) = (old.full (span_size w) ≡ false) × SameLog old new

-- a call that appends a window
pub record AppendsWindow (w : Span) (old new : LogState) (result : Result Unit LogFault) : Type 0 where
  pub counts : LogCounts old new result
  pub leaves : AppendLeaves w old new result

-- the oldest window behind an SCN
abbrev pub first_after : ℕ → List Span → Option Span
first_after scn ws = find (λ w. nat_lt scn w.scn) ws

-- what is found behind an SCN up to the newest window: a window with none between, or nothing where there is none
pub record IsFound (scn high : ℕ) (found : Option Span) : Type 0 where
  pub window : IfSome found (λ w. (scn < w.scn) × (w.scn ≤ high))
  pub none : IfNone found (high ≤ scn)

-- where a call answers `Full`
abbrev pub OnFull : {X : Type 0} → Result X LogFault → Type 0 → Type 0
OnFull (Ok x) P = Unit {0}
OnFull (Err Failed) P = Unit {0}
OnFull (Err Full) P = P
OnFull (Err NoMemory) P = Unit {0}

-- a call that reads the next window behind an SCN: it changes nothing and never answers `Full`
pub record ReadsNext (scn : ℕ) (old new : LogState) (result : Result (Option Span) LogFault) : Type 0 where
  pub counts : LogCounts old new result
  pub same : SameLog old new
  pub found : IfOk result (λ found. IsFound scn old.high found)
  pub told : IfOk result (λ found. IfSome old.windows (λ ws. found ≡ first_after scn ws))
  pub roomy : OnFull result ⊥

-- windows up to an SCN were dropped, or some of the oldest of them
pub record Dropped (scn : ℕ) (old new : LogState) : Type 0 where
  pub later : old.floor ≤ new.floor
  pub upto : new.floor ≤ max old.floor scn
  pub high : new.high ≡ old.high
  pub windows : new.windows ≡ option_map (windows_between new.floor old.high) old.windows

-- what a drop leaves, by its answer; after `Failed` the log is opened again
abbrev pub DropLeaves : ℕ → LogState → LogState → Result Unit LogFault → Type 0
DropLeaves scn old new (Ok done) = Dropped scn old new
DropLeaves scn old new (Err Failed) = Unit {0}
DropLeaves scn old new (Err Full) = ⊥
DropLeaves scn old new (Err NoMemory) = SameLog old new

-- a drop of every window that may be dropped: the log begins behind the newest window up to the SCN, where it tells its
-- windows, and memory never runs out
abbrev pub DropsAll : ℕ → LogState → LogState → Result Unit LogFault → Type 0
DropsAll scn old new (Ok done) = IfSome old.windows (λ ws. new.floor ≡ end_from old.floor (windows_between old.floor scn ws))
DropsAll scn old new (Err Failed) = Unit {0}
DropsAll scn old new (Err Full) = ⊥
DropsAll scn old new (Err NoMemory) = ⊥

-- a call that drops windows
pub record DropsWindows (scn : ℕ) (old new : LogState) (result : Result Unit LogFault) : Type 0 where
  pub counts : LogCounts old new result
  pub leaves : DropLeaves scn old new result
  pub all : IfSome old.room (λ room. room.drops_all ≡ true → DropsAll scn old new result)

-- ---- what a crash leaves

-- between which SCNs the floor of a log lies, and the SCN of its newest window
pub record Bounds : Type 0 where
  pub least_floor : ℕ
  pub most_floor : ℕ
  pub least_high : ℕ
  pub most_high : ℕ

-- the ends of a log lie within bounds
pub record LieWithin (b : Bounds) (floor high : ℕ) : Type 0 where
  pub least_floor : b.least_floor ≤ floor
  pub most_floor : floor ≤ b.most_floor
  pub least_high : b.least_high ≤ high
  pub most_high : high ≤ b.most_high

-- within some bounds two lists have the same windows, and those bounds lie within others
pub record Weakens (ws vs : List Span) (b c : Bounds) : Type 0 where
  pub within : (floor high : ℕ) → LieWithin b floor high → LieWithin c floor high
  pub same : (floor high : ℕ) → LieWithin b floor high → windows_between floor high vs ≡ windows_between floor high ws

-- the ends of a log stay
abbrev pub at_rest : LogState → Bounds
at_rest s = record { least_floor = s.floor; most_floor = s.floor; least_high = s.high; most_high = s.high }

-- its newest window may become another
abbrev pub growing_to : ℕ → LogState → Bounds
growing_to scn s = record (at_rest s) { most_high = scn }

-- its windows up to an SCN may be dropped
abbrev pub dropping_to : ℕ → LogState → Bounds
dropping_to scn s = record (at_rest s) { most_floor = max s.floor scn }
