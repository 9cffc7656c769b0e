use Rattle.std.proofs.Common.{[], rules, ◌∙◌}
use Rattle.range_ring.proofs.Moves.{begins}
use Rattle.range_ring.proofs.Starting.{feeds_new}
use Rattle.range_ring.proofs.make.make_ring.Goals as goal

pub of_words-requires : goal.of_words-requires
of_words-requires g c = let start = begins (record { bytes = c.args.bytes; windows = c.args.windows }) g.T.Timeline.told [] in search rules

pub new-feeder-requires-after_bounds : goal.new-feeder-requires-after_bounds
new-feeder-requires-after_bounds g c =
    let start = feeds_new (record { bytes = c.args.bytes; windows = c.args.windows }) g.T.Timeline.told c.new-3.new.place.me c.in_ok-stock.stock (c.in_ok-passes.ensures.same ∙ c.in_ok-board.ensures.4) c.in_ok-stock.ensures in
    search rules
