use Rattle.std.proofs.Common.{◌-◌, IfSome}
use Rattle.bus_stores.specs.Log.{at_rest}
use Rattle.bus_stores.proofs.Ahead.{Unmoved, ReadUpto}
use Rattle.bus_stores.proofs.following.next_windows.Given as goal

abbrev pub invariant-reads : goal.invariant-reads
invariant-reads g l = record {
  unmoved : Unmoved (g.G.WindowLog.state l.fn.log) (g.G.WindowLog.state l.log);
  crash : IfSome (g.G.WindowLog.state l.fn.log).windows (λ ws. g.G.WindowLog.passes ws (at_rest (g.G.WindowLog.state l.fn.log)) l.fn.log l.log);
  read : ReadUpto l.scn l.at l.most (g.G.WindowLog.state l.fn.log) l.windows.items;
}

abbrev pub decreases-reads : goal.decreases-reads
decreases-reads g l = l.high - l.at
