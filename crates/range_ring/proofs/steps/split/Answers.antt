use Rattle.std.proofs.Common.{arith}
use Rattle.range_ring.proofs.Moves.{splits}
use Rattle.range_ring.proofs.steps.split.Goals as goal

pub split_seat-requires : goal.split_seat-requires
split_seat-requires g c = let sits = c.requires in let two = sits.words in (sits.same, omega arith, splits c.args.words.now.key g.T.Timeline.told _ _)
