use Rattle.std.proofs.Common.{◌+◌, ap, ◌∙◌, arith}
use Rattle.range_ring.proofs.Moves.{raises_tail}
use Rattle.range_ring.proofs.steps.raise_tail.Goals as goal

pub fetch_max-requires : goal.fetch_max-requires
fetch_max-requires g c =
    let sits = c.requires.place_sits in
    let two = sits.words in
    (sits.same, omega arith, raises_tail c.args.words.now.key g.T.Timeline.told _ _ _ _ c.requires.room g.T.Timeline.lawful c.requires.feeds (c.published.ensures ∙ ap (λ n. n + 1) c.requires.next) c.requires.may)
