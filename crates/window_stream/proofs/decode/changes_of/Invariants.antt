use Rattle.std.proofs.Common.{◌≡◌, ◌++◌, List, length}
use Rattle.event_codec.specs.Bytes.{Event}
use Rattle.event_codec.specs.Parsing.{AreEvents}
use Rattle.window_stream.specs.Decode.{changes_in}
use Rattle.window_stream.proofs.decode.changes_of.Given as goal

abbrev pub invariant-loop-event : goal.invariant-loop-event
invariant-loop-event l = (events : List Event) → AreEvents events l.bytes → l.changes.items ++ changes_in l.left ≡ changes_in events

abbrev pub decreases-loop-event : goal.decreases-loop-event
decreases-loop-event l = length l.left
