use Rattle.std.proofs.Common.{length}
use Rattle.range_ring.specs.Ranges.{changes_of}
use Rattle.range_ring.proofs.Counted.{Counts}
use Rattle.range_ring.proofs.cutting.accepted_size.Given as goal

abbrev pub invariant-loop-event : goal.invariant-loop-event
invariant-loop-event g l = Counts (g.F.Accepts.test l.filter) (changes_of l.events) l.left l.size

abbrev pub decreases-loop-event : goal.decreases-loop-event
decreases-loop-event g l = length l.left
