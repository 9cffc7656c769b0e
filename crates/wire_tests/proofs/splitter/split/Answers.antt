use Rattle.std.proofs.Common.{arith}
use Rattle.window_stream.proofs.Splits.{feeds_fit}
use Rattle.wire_tests.proofs.splitter.split.Goals as goal

pub loop-last-preserved : goal.loop-last-preserved
loop-last-preserved c = λ good.
    let fed = feeds_fit c.feed-last.result c.loop-last.splitter c.split_at.result.0.now c.feed-last.new.self c.loop-last.whole.items c.feed-last.new.whole.items c.feed-last.ensures.piece good in
    omega (arith, fed.1, c.loop-last.invariant fed.0, c.split_at.ensures.front_len, c.split_at.ensures.back_len)
