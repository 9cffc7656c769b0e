use Rattle.std.proofs.Common.{length}
use Rattle.byte_ring.specs.Kept.{Holds, MakesRoom}
use Rattle.byte_ring.proofs.kept.Kept.make_room.Given as goal

abbrev pub invariant-loop-self : goal.invariant-loop-self
invariant-loop-self l = (new : Holds) → MakesRoom l.self new l.window → MakesRoom l.fn.self new l.window

abbrev pub decreases-loop-self : goal.decreases-loop-self
decreases-loop-self l = length l.self.windows
