use Rattle.std.proofs.Common.{◌-◌, ◌<◌}
use Rattle.range_ring.proofs.Gathering.{Grows}
use Rattle.range_ring.proofs.range.gather.Given as goal

abbrev pub invariant-loop-range : goal.invariant-loop-range
invariant-loop-range g l = Grows g.T.Timeline.told l.fn.first.position l.published (g.F.Accepts.test l.filter) l.max l.filter l.range l.position × (l.cell < l.ring.limits.windows)

abbrev pub decreases-loop-range : goal.decreases-loop-range
decreases-loop-range g l = l.published - l.position
