use Rattle.std.proofs.Common.{Ok, Err, length}
use Rattle.bus_stores.specs.declared.log.LogFault.TheVariants as faults
use Rattle.log_store.specs.Store.{StoreParts}
use Rattle.log_store.specs.Steps.{Drops}
use Rattle.log_store.proofs.store.LogStoreWindowLog.drop_through.Given as goal

abbrev pub invariant-loop-self : goal.invariant-loop-self
invariant-loop-self g l = record {
  done : (c : StoreParts _) → Drops g.D.Disk.state l.scn l.self c (Ok tt) → Drops g.D.Disk.state l.scn l.fn.self c (Ok tt);
  failed : (c : StoreParts _) → Drops g.D.Disk.state l.scn l.self c (Err faults.Failed) → Drops g.D.Disk.state l.scn l.fn.self c (Err faults.Failed);
}

abbrev pub decreases-loop-self : goal.decreases-loop-self
decreases-loop-self g l = length l.self.order
