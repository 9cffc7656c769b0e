-- A window of a segment that is found by its SCN, and read again.
use Rattle.std.specs.Prelude.{◌≡◌, ℕ, ◌+◌, ◌<◌, ◌≤◌, zero, suc, if◌then◌else◌, nat_lt, List, [], ◌∷◌, ◌++◌, drop, Option, Some, None, IfSome, IfNone, Result, IfOk}
use Rattle.bus_types.specs.Causes.{Rose}
use Rattle.bus_types.specs.Window.{Span, span_size}
use Rattle.bus_types.specs.Timeline.{Follows}
use Rattle.bus_stores.specs.declared.log.LogFault.{LogFault}
use Rattle.bus_stores.specs.Log.{OnLogFailed, OnFull, first_after}
use Rattle.log_segment.specs.declared.segment.Entry.{Entry}
use Rattle.log_segment.specs.Image.{record_bytes}
use Rattle.log_segment.specs.Looking.{Looks}
use Rattle.log_segment.specs.Segment.{Numbers, SegmentState, fault_count, Stands}

-- the SCN of the window before a place, or the floor
abbrev pub scn_before : ℕ → ℕ → List Entry → ℕ
scn_before floor zero es = floor
scn_before floor (suc at) [] = floor
scn_before floor (suc at) (e ∷ es) = scn_before e.scn at es

-- the oldest window behind an SCN, with the SCN of the window before it
abbrev pub entry_after : ℕ → ℕ → List Entry → Option (ℕ × Entry)
entry_after floor scn [] = None
entry_after floor scn (e ∷ es) = if nat_lt scn e.scn then Some (floor, e) else entry_after e.scn scn es

-- the window whose record stands at a place before an end, where it follows an SCN
abbrev pub FetchesAt : ℕ → ℕ → ℕ → List ℕ → Option Span → Type 0
FetchesAt end place prev bytes found = (w : Span) (more : List ℕ) → Follows prev w → drop place bytes ≡ record_bytes w ++ more
    → place + span_size w + 4 ≤ end → found ≡ Some w

-- the window of an entry, where its record stands at its place before an end, and follows an SCN
abbrev pub Fetches : ℕ → Entry → ℕ → List ℕ → Option Span → Type 0
Fetches end e prev bytes found = (w : Span) (more : List ℕ) → Follows prev w → e.scn ≡ w.scn
    → drop e.place bytes ≡ record_bytes w ++ more → e.place + span_size w + 4 ≤ end → found ≡ Some w

-- what is found behind an SCN is a window up to the newest one, and nothing where there is none
pub record IsFoundIn (scn : ℕ) (n : Numbers) (found : Option Span) : Type 0 where
  pub window : IfSome found (λ w. (scn < w.scn) × (w.scn ≤ n.high))
  pub none : IfNone found (n.floor ≤ scn → n.high ≤ scn)

-- The oldest window behind an SCN was read. Where the segment stands for windows it is the first of those behind the SCN, and
-- none was lost; else a window that was lost counts as a fault.
pub record ReadsNext (scn : ℕ) (old new : SegmentState) (result : Result (Option Span) LogFault) : Type 0 where
  pub looks : Looks old.disk new.disk
  pub failed : OnLogFailed result (Rose (fault_count old) (fault_count new))
  pub later : old.numbers.lost ≤ new.numbers.lost
  pub numbers : new.numbers ≡ record old.numbers { lost = new.numbers.lost }
  pub found : IfOk result (λ found. IsFoundIn scn old.numbers found)
  pub told : (from : ℕ) (ws : List Span) → Stands from ws old → IfOk result (λ found. found ≡ first_after scn ws)
  pub stands : (from : ℕ) (ws : List Span) → Stands from ws old → Stands from ws new
  pub sure : (from : ℕ) (ws : List Span) → Stands from ws old → new.numbers.lost ≡ old.numbers.lost
  pub roomy : OnFull result ⊥
