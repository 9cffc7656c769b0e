-- Bytes read from their front: an event, a window, and as many of them as stand one after the other. Each function is total,
-- and reads back what was spelled.
use Rattle.std.specs.Prelude.{◌≡◌, ℕ, ◌+◌, ◌==◌, if◌then◌else◌, List, [], ◌∷◌, length, drop, map, flat_map, Option, Some, None, option_map}
use Rattle.std.specs.List.{AllByRecursion}
use Rattle.bus_types.specs.declared.change.Key.TheVariants.{Long}
use Rattle.bus_types.specs.declared.change.Change.{Change}
use Rattle.bus_types.specs.Window.{Span, IsSpan}
use Rattle.event_codec.specs.declared.head.Head.{Head}
use Rattle.event_codec.specs.Bytes.{Event, IsEvent, event_bytes, window_bytes}
use Rattle.event_codec.specs.Frames.{Closing, run_of}
use Rattle.event_codec.specs.Reading.{event_front, mark_front, closing_front}
use Rattle.event_codec.specs.declared.close.Close.{Close}
use Rattle.event_codec.specs.Streams.{windows_bytes}

-- ---- items one after the other

-- an item in front of others that were read, and what is left
abbrev pub in_front : {A : Type 0} → A → List A × List ℕ → List A × List ℕ
in_front x read = (x ∷ read.0, read.1)

-- the item in front, if there is one, and those behind it
abbrev pub item_and_others : {A : Type 0} → List ℕ → (List ℕ → List A × List ℕ) → Option (A × List ℕ) → List A × List ℕ
item_and_others bytes others None = ([], bytes)
item_and_others bytes others (Some x) = in_front x.0 (others x.1)

-- items as long as one stands in front, and what is left. The first list bounds their number
unfoldable pub read_within : {A : Type 0} → (List ℕ → Option (A × List ℕ)) → List ℕ → List ℕ → List A × List ℕ
read_within one [] bytes = ([], bytes)
read_within one (b ∷ bound) bytes = item_and_others bytes (read_within one bound) (one bytes)

-- no item takes no byte, so the bytes themselves are bound enough
abbrev pub read_all : {A : Type 0} → (List ℕ → Option (A × List ℕ)) → List ℕ → List A × List ℕ
read_all one bytes = read_within one bytes bytes

-- ---- events

-- the event of a head and its payload
abbrev pub event_with : Head × List ℕ → Event
event_with x = record { scn = x.0.scn; change = record { source = x.0.source; key = Long x.0.key; put = if x.0.kind == 1 then Some x.1 else None } }

-- the event that bytes begin with, and what follows it
unfoldable pub event_in_front : List ℕ → Option (Event × List ℕ)
event_in_front bytes = option_map (λ x. (event_with x, drop (23 + length x.1) bytes)) (event_front bytes)

-- the events that bytes begin with
abbrev pub events_in : List ℕ → List Event
events_in bytes = (read_all event_in_front bytes).0

abbrev pub events_bytes : List Event → List ℕ
events_bytes events = flat_map event_bytes events

-- bytes are events and nothing else
pub record AreEvents (events : List Event) (bytes : List ℕ) : Type 0 where
  pub within : AllByRecursion IsEvent events
  pub spelled : bytes ≡ events_bytes events

abbrev pub HaveEvents : List ℕ → Type 0
HaveEvents bytes = (events : List Event) × AreEvents events bytes

-- ---- the closing frame

abbrev pub close_of : Close → Closing
close_of c = record { run = run_of c.kind; scn = c.scn; more = c.more }

-- the closing frame that bytes begin with, and what follows it
unfoldable pub closing_in_front : List ℕ → Option (Closing × List ℕ)
closing_in_front bytes = option_map (λ c. (c, drop 10 bytes)) (closing_front bytes)

-- ---- windows

-- the window of events and of the SCNs of a mark
abbrev pub window_with : List Event → ℕ × ℕ → Span
window_with events mark = record { scn = mark.0; prev = mark.1; changes = map (λ e. e.change) events }

-- the window of events, where a mark stands behind them, and what follows it
abbrev pub closed_by_mark : List Event × List ℕ → Option (Span × List ℕ)
closed_by_mark read = option_map (λ mark. (window_with read.0 mark, drop 17 read.1)) (mark_front read.1)

-- the window that bytes begin with, and what follows it
unfoldable pub window_in_front : List ℕ → Option (Span × List ℕ)
window_in_front bytes = closed_by_mark (read_all event_in_front bytes)

-- the windows that bytes begin with
abbrev pub windows_in : List ℕ → List Span
windows_in bytes = (read_all window_in_front bytes).0

-- bytes are windows and nothing else
pub record AreWindows (windows : List Span) (bytes : List ℕ) : Type 0 where
  pub within : AllByRecursion IsSpan windows
  pub spelled : bytes ≡ windows_bytes windows

abbrev pub HaveWindows : List ℕ → Type 0
HaveWindows bytes = (windows : List Span) × AreWindows windows bytes

-- ---- the items of windows, one by one

abbrev pub first_scn : List Span → Option ℕ
first_scn [] = None
first_scn (w ∷ ws) = Some w.scn

-- changes of one SCN, as events
abbrev pub events_of : ℕ → List Change → List Event
events_of scn changes = map (λ c. record { scn = scn; change = c }) changes

-- the events of a window
abbrev pub window_events : Span → List Event
window_events w = events_of w.scn w.changes

abbrev pub first_of : {A : Type 0} → List A → Option A
first_of [] = None
first_of (x ∷ xs) = Some x

-- the first event of the first window, if it has one
abbrev pub first_event : List Span → Option Event
first_event [] = None
first_event (w ∷ ws) = first_of (window_events w)

-- the windows without it
abbrev pub behind_event : List Span → List Span
behind_event [] = []
behind_event (w ∷ ws) = record { scn = w.scn; prev = w.prev; changes = drop 1 w.changes } ∷ ws

-- the mark of the first window, where it stands in front, since the window has no event
abbrev pub mark_before : {A B : Type 0} → List A → B → Option B
mark_before [] mark = Some mark
mark_before (x ∷ xs) mark = None

abbrev pub first_mark : List Span → Option (ℕ × ℕ)
first_mark [] = None
first_mark (w ∷ ws) = mark_before w.changes (w.scn, w.prev)

-- the windows without that one
abbrev pub others_of : {A : Type 0} → List A → Span → List Span → List Span
others_of [] w ws = ws
others_of (x ∷ xs) w ws = w ∷ ws

abbrev pub behind_mark : List Span → List Span
behind_mark [] = []
behind_mark (w ∷ ws) = others_of w.changes w ws

-- the events of the first window
abbrev pub first_events : List Span → List Event
first_events [] = []
first_events (w ∷ ws) = window_events w

-- the windows, of the first of which only its mark is left
abbrev pub without_events : List Span → List Span
without_events [] = []
without_events (w ∷ ws) = record { scn = w.scn; prev = w.prev; changes = [] } ∷ ws

-- the windows behind the first one
abbrev pub others : List Span → List Span
others [] = []
others (w ∷ ws) = ws

-- ---- a window where it stands

abbrev pub window_read : Option (Span × List ℕ) → Span
window_read None = record { scn = 0; prev = 0; changes = [] }
window_read (Some x) = x.0

abbrev pub window_of : List ℕ → Span
window_of bytes = window_read (window_in_front bytes)

-- the bytes are a window with these SCNs
pub record IsWindow (number before : ℕ) (bytes : List ℕ) : Type 0 where
  pub window : Span
  pub within : IsSpan window
  pub spelled : bytes ≡ window_bytes window
  pub scn : number ≡ window.scn
  pub prev : before ≡ window.prev
