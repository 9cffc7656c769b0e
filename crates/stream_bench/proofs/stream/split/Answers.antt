use Rattle.std.proofs.Common.{arith}
use Rattle.window_stream.proofs.Splits.{feeds_fit}
use Rattle.stream_bench.proofs.stream.split.Goals as goal

pub loop-rest-preserved : goal.loop-rest-preserved
loop-rest-preserved c = λ good.
    let fed = feeds_fit c.feed.result c.loop-rest.splitter c.split_at.result.0.now c.feed.new.self c.loop-rest.whole.items c.feed.new.whole.items c.feed.ensures.piece good in
    omega (arith, fed.1, c.loop-rest.invariant fed.0, c.split_at.ensures.front_len, c.split_at.ensures.back_len)
