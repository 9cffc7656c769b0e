use Rattle.std.proofs.Common.{◌≡◌, ◌≤◌, None, IfSome}
use Rattle.bus_stores.specs.Log.{at_rest}
use Rattle.partition_filter.specs.Selection.{test_of}
use Rattle.bus_stores.proofs.Ahead.{Unmoved}
use Rattle.snapshot_scan.specs.Filling.{Extends}
use Rattle.bootstrap_core.specs.Replaying.{replayed}
use Rattle.bootstrap_core.proofs.Replays.{Running}
use Rattle.bootstrap_core.proofs.replaying.take_windows.Given as goal

abbrev pub invariant-loop-taken : goal.invariant-loop-taken
invariant-loop-taken g l = record {
  unmoved : Unmoved (g.G.WindowLog.state l.fn.log) (g.G.WindowLog.state l.log);
  crash : IfSome (g.G.WindowLog.state l.fn.log).windows (λ ws. g.G.WindowLog.passes ws (at_rest (g.G.WindowLog.state l.fn.log)) l.fn.log l.log);
  low : l.at ≤ l.replay.last;
  count : l.replay.count ≡ l._taken;
  fits : l.replay.unfit ≡ None;
  run : Running (test_of l.filter) l.at l.target l.max l.fn.reply.items (g.G.WindowLog.state l.fn.log).windows (replayed l.reply.items l.replay);
  front : Extends l.fn.reply.items l.reply.items;
}
