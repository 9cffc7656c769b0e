use Rattle.std.proofs.Common.{◌-◌, ◌≤◌, length, IfSome}
use Rattle.partition_filter.specs.Selection.{test_of}
use Rattle.bus_stores.specs.Log.{at_rest}
use Rattle.bus_stores.proofs.Ahead.{Unmoved}
use Rattle.delta_consolidate.proofs.Stretch.{Walked}
use Rattle.delta_consolidate.proofs.gathering.gather.Given as goal

abbrev pub invariant-windows : goal.invariant-windows
invariant-windows g l = record {
  unmoved : Unmoved (g.G.WindowLog.state l.fn.log) (g.G.WindowLog.state l.log);
  crash : IfSome (g.G.WindowLog.state l.fn.log).windows (λ ws. g.G.WindowLog.passes ws (at_rest (g.G.WindowLog.state l.fn.log)) l.fn.log l.log);
  walked : Walked (test_of l.filter) l.cursor l.most l.since l.at l.target (g.G.WindowLog.state l.fn.log) l.latest.entries;
  few : length l.latest.entries ≤ l.most;
}

abbrev pub decreases-windows : goal.decreases-windows
decreases-windows g l = l.target - l.at
