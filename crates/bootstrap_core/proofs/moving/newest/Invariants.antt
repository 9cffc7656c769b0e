use Rattle.std.proofs.Common.{◌-◌, IfSome}
use Rattle.bus_stores.specs.Log.{at_rest}
use Rattle.bootstrap_core.proofs.NewestRead.{NewestSo}
use Rattle.bootstrap_core.proofs.moving.newest.Given as goal

abbrev pub invariant-reads : goal.invariant-reads
invariant-reads g l = record {
  so : NewestSo l.base l.found l.upto (g.G.WindowLog.state l.fn.log) (g.G.WindowLog.state l.log);
  crash : IfSome (g.G.WindowLog.state l.fn.log).windows (λ ws. g.G.WindowLog.passes ws (at_rest (g.G.WindowLog.state l.fn.log)) l.fn.log l.log);
}

abbrev pub decreases-reads : goal.decreases-reads
decreases-reads g l = l.upto - l.found
