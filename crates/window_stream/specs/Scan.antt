-- How far a stream is scanned.
use Rattle.std.specs.Prelude.{◌≡◌, ℕ, ◌-◌, ◌<◌, List, ◌++◌, length, drop, slice_index, Option, Some, None, Result, Ok, Err}
use Rattle.bus_types.specs.declared.change.Change.{Change}
use Rattle.bus_types.specs.declared.fault.NoMemory.{NoMemory}
use Rattle.bus_types.specs.Window.{Span}
use Rattle.event_codec.specs.Items.{Since, Open, Front, front_of, since_of, open_in}
use Rattle.event_codec.specs.Items.Front.{Unfinished, Refused, AnEvent}
use Rattle.event_codec.specs.Streams.{Begun, Come, after_windows, windows_bytes}
use Rattle.window_stream.specs.declared.scan.Scan.{Scan}
use Rattle.window_stream.specs.declared.scan.Stop.{Stop}
use Rattle.window_stream.specs.declared.scan.Stop.TheVariants as stops
use Rattle.window_stream.specs.declared.scan.Step.{Step}
use Rattle.window_stream.specs.declared.scan.Step.TheVariants as steps

-- each element is a byte
abbrev pub IsBytes : List ℕ → Type 0
IsBytes bytes = (i : ℕ) → slice_index bytes i < 256

-- so it is as long as the stream is not bad
abbrev pub IsScanned : Option ℕ → Since → Open → List ℕ → Type 0
IsScanned None s o rest = Begun s o rest
IsScanned (Some place) s o rest = Unit {0}

-- from bytes in a stream the windows at their front were given
pub record Moves (s : Since) (bytes : List ℕ) (t : Since) (o : Open) (rest : List ℕ) (before after : List Span) : Type 0 where
  pub windows : List Span
  pub given : after ≡ before ++ windows
  pub parts : bytes ≡ windows_bytes windows ++ rest
  pub come : Come s windows
  pub since : t ≡ after_windows s windows
  pub begun : Begun t o rest

-- ---- the code's words

pub record IsScan (scan : Scan) : Type 0 where
  pub bytes : IsBytes scan.rest.now
  pub begun : Begun (since_of scan.follows) (open_in scan.events) scan.rest.now

-- what stands behind the events
abbrev pub front_at : Scan → Front
front_at scan = front_of (since_of scan.follows) (open_in scan.events) (drop scan.events.size scan.rest.now)

-- an event of this SCN and of so many bytes stands there
abbrev pub ShowsEvent : Scan → ℕ → ℕ → Type 0
ShowsEvent scan scn size = (c : Change) × (front_at scan ≡ AnEvent scn c size)

-- the bytes that aren't scanned
abbrev pub unscanned : Scan → ℕ
unscanned scan = length scan.rest.now - scan.events.size

abbrev pub MovesOn : Scan → Scan → List Span → List Span → Type 0
MovesOn old new before after = Moves (since_of old.follows) old.rest.now (since_of new.follows) (open_in new.events) new.rest.now before after

abbrev pub front_of_stop : Stop → Front
front_of_stop stops.Unfinished = Unfinished
front_of_stop stops.Refused = Refused

-- a step took an item, or stopped
abbrev pub Advances : Result Step NoMemory → Scan → List Span → List Span → Type 0
Advances (Ok (steps.On new)) old before after = MovesOn old new before after × (unscanned new < unscanned old)
Advances (Ok (steps.At stop)) old before after = (front_at old ≡ front_of_stop stop) × (after ≡ before)
Advances (Err e) old before after = after ≡ before

-- a scan of bytes went on to where it stops
abbrev pub Reaches : Since → List ℕ → Scan × Stop → List Span → List Span → Type 0
Reaches s bytes end before after =
    Moves s bytes (since_of end.0.follows) (open_in end.0.events) end.0.rest.now before after × (front_at end.0 ≡ front_of_stop end.1)

-- windows were appended
abbrev pub AppendsSome : List Span → List Span → Type 0
AppendsSome before after = (windows : List Span) × (after ≡ before ++ windows)
