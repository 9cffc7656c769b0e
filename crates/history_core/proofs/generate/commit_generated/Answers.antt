use Rattle.std.proofs.Common.{arith}
use Rattle.history_core.proofs.Generating.{generated_more, end_near}
use Rattle.history_core.proofs.generate.commit_generated.Goals as goal

pub loop-i-preserved : goal.loop-i-preserved
loop-i-preserved c =
    let ws = c.loop-i.source.windows in
    let w = c.in_ok-window.window in
    let made = c.in_ok-window.ensures in
    let near = end_near ws w c.last.result c.last.ensures.value made.near in
    record {
      rest = rw (c.in_ok-append.ensures.ok, made.state) (generated_more ws _ c.loop-i.state c.loop-i._i c.args.count w c.loop-i-test.true (rw (← c.last.ensures.value) made.window) c.loop-i.invariant.rest);
      low = rw c.in_ok-append.ensures.ok (omega (arith, near, c.loop-i.invariant.low));
      passed = rw c.in_ok-append.ensures.ok c.loop-i.invariant.passed;
    }
