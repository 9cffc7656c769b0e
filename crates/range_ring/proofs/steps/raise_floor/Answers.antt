use Rattle.std.proofs.Common.{arith}
use Rattle.range_ring.proofs.Moves.{raises_floor}
use Rattle.range_ring.proofs.steps.raise_floor.Goals as goal

pub fetch_max-requires : goal.fetch_max-requires
fetch_max-requires g c =
    let sits = c.requires.place_sits in
    let two = sits.words in
    (sits.same, omega arith, raises_floor c.args.words.now.key g.T.Timeline.told _ _ _ _ c.requires.room g.T.Timeline.lawful c.requires.feeds c.requires.may)
