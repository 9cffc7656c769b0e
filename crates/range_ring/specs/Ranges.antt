-- What a pass opens: entries of a ring that are read in place.
use Rattle.std.specs.Prelude.{◌≡◌, ℕ, ◌+◌, ◌<◌, ◌≤◌, List, [], ◌∷◌, length, map, Option, Some, None}
use Rattle.bus_types.specs.declared.change.Change.{Change}
use Rattle.bus_types.specs.Change.{Test}
use Rattle.bus_types.specs.Window.{Span, IsSpan, span_size}
use Rattle.bus_types.specs.Timeline.{total_size}
use Rattle.bus_types.specs.Cut.{cut, cuts}
use Rattle.bus_types.specs.Relay.{Served, most_windows}
use Rattle.event_codec.specs.Bytes.{Event, window_bytes}
use Rattle.ring_cells.specs.Entries.{Held, IsAt}
use Rattle.range_ring.specs.Belonging.{PassIs}
use Rattle.range_ring.specs.Answering.{answer_at}

-- a range: what is left of its windows by a filter, its entries, and the bytes that are left of them
pub record RangeIs (F : Type 0) : Type 0 where
  pub filter : F
  pub entries : List Held
  pub size : ℕ

-- an entry holds a window that stands at a position
pub record Holds (timeline : Option (List Span)) (position : ℕ) (e : Held) (window : Span) : Type 0 where
  pub place : e.position ≡ position
  pub within : IsSpan window
  pub spelled : e.bytes ≡ window_bytes window
  pub told : IsAt timeline position window

-- entries hold windows that stand one after the other from a position on
abbrev pub HoldAll : Option (List Span) → ℕ → List Held → List Span → Type 0
HoldAll timeline position [] [] = Unit {0}
HoldAll timeline position [] (w ∷ ws) = ⊥
HoldAll timeline position (e ∷ es) [] = ⊥
HoldAll timeline position (e ∷ es) (w ∷ ws) = Holds timeline position e w × HoldAll timeline (position + 1) es ws

-- a range holds windows from a position on whose cuts are of its size, at most so many and so large
pub record IsRange (timeline : Option (List Span)) (position : ℕ) (test : Test) (max : ℕ) (entries : List Held) (size : ℕ) (windows : List Span) : Type 0 where
  pub holds : HoldAll timeline position entries windows
  pub total : size ≡ total_size (cuts test windows)
  pub some : 0 < length entries
  pub few : length entries ≤ most_windows
  pub fits : size ≤ max

-- where a timeline is told, a pass of these numbers gets this answer
abbrev pub IsAnswer : Option (List Span) → PassIs → ℕ → Test → ℕ → Served → Type 0
IsAnswer None pass scn test max served = Unit {0}
IsAnswer (Some windows) pass scn test max served = served ≡ answer_at windows pass.evicted pass.published scn test max

-- ---- the code's words

-- the changes of events
abbrev pub changes_of : List Event → List Change
changes_of events = map (λ e. e.change) events

-- the window at a position, with what is there already, is too large
pub record IsTooLarge (timeline : Option (List Span)) (position : ℕ) (test : Test) (max size : ℕ) : Type 0 where
  pub window : Span
  pub told : IsAt timeline position window
  pub large : max < size + span_size (cut test window)

-- a range ends where it has all the windows that it may have, where the next one is not published, or where it is too large
pub record IsGathered (timeline : Option (List Span)) (position published : ℕ) (test : Test) (max : ℕ) (entries : List Held) (size : ℕ) : Type 0 where
  pub windows : List Span
  pub range : IsRange timeline position test max entries size windows
  pub within : position + length entries ≤ published
  pub longest : length entries < most_windows → position + length entries < published → IsTooLarge timeline (position + length entries) test max size

-- the first window's size
pub record IsSmall (timeline : Option (List Span)) (position : ℕ) (test : Test) (max need : ℕ) : Type 0 where
  pub window : Span
  pub told : IsAt timeline position window
  pub size : need ≡ span_size (cut test window)
  pub large : max < need
