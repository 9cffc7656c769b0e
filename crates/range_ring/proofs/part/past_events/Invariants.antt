use Rattle.std.proofs.Common.{◌≡◌, length}
use Rattle.event_codec.specs.Parsing.{first_events}
use Rattle.range_ring.specs.Parts.{past_events}
use Rattle.range_ring.proofs.part.past_events.Given as goal

abbrev pub invariant-loop-accepted : goal.invariant-loop-accepted
invariant-loop-accepted g l = past_events (g.F.Accepts.test l.filter) l.left ≡ past_events (g.F.Accepts.test l.filter) l.fn.windows

abbrev pub decreases-loop-accepted : goal.decreases-loop-accepted
decreases-loop-accepted g l = length (first_events l.left)
