use Rattle.std.proofs.Common.{arith}
use Rattle.range_ring.proofs.Moves.{joins}
use Rattle.range_ring.proofs.steps.join.Goals as goal

pub join_seat-requires : goal.join_seat-requires
join_seat-requires g c =
    let sits = c.requires.place_sits in
    let other = c.requires.other_sits in
    let two = sits.words in
    (sits.same, other.same, other.empty, omega arith, joins c.args.words.now.key g.T.Timeline.told _ _ _ _)
