-- The changes of events that stand one after the other.
use Rattle.std.specs.Prelude.{◌≡◌, ℕ, List, map}
use Rattle.bus_types.specs.declared.change.Change.{Change}
use Rattle.event_codec.specs.Bytes.{Event}
use Rattle.event_codec.specs.Parsing.{AreEvents}

abbrev pub changes_in : List Event → List Change
changes_in events = map (λ e. e.change) events

-- these are the changes of the events that the bytes are
abbrev pub AreEventsOf : List Change → List ℕ → Type 0
AreEventsOf changes bytes = (events : List Event) → AreEvents events bytes → changes ≡ changes_in events
