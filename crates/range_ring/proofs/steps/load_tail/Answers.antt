use Rattle.std.proofs.Common.{arith}
use Rattle.range_ring.proofs.Moves.{loads_tail}
use Rattle.range_ring.proofs.steps.load_tail.Goals as goal

pub load-requires : goal.load-requires
load-requires g c = let sits = c.requires in let two = sits.words in (sits.same, omega arith, loads_tail c.args.words.now.key g.T.Timeline.told _ _ _ sits.limits)
