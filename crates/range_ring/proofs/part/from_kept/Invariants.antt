use Rattle.std.proofs.Common.{◌≡◌, length}
use Rattle.event_codec.specs.Parsing.{first_events}
use Rattle.range_ring.specs.Parts.{from_kept}
use Rattle.range_ring.proofs.part.from_kept.Given as goal

abbrev pub invariant-loop-accepted : goal.invariant-loop-accepted
invariant-loop-accepted g l = from_kept (g.F.Accepts.test l.filter) l.left ≡ from_kept (g.F.Accepts.test l.filter) l.fn.windows

abbrev pub decreases-loop-accepted : goal.decreases-loop-accepted
decreases-loop-accepted g l = length (first_events l.left)
