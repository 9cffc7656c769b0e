use Rattle.std.proofs.Common.{IfSome, subst}
use Rattle.bus_stores.specs.Log.{IsLog, at_rest}
use Rattle.log_store.specs.Store.{StoreParts, log_of, passes}
use Rattle.log_store.proofs.Resting.{is_log, told_rests}
use Rattle.log_store.proofs.store.LogStoreWindowLog.floor.Goals as goal

pub returns-clause-log : goal.returns-clause-log
returns-clause-log g c = subst (λ (s : StoreParts _). IsLog (log_of g.D.Disk.state s)) c.self.view_is (is_log g.D.Disk.state _ c.self.invariant.0)

pub returns-clause-crash : goal.returns-clause-crash
returns-clause-crash g c =
    subst (λ (s : StoreParts _). IfSome (log_of g.D.Disk.state s).windows (λ ws. passes g.D.Disk.state ws (at_rest (log_of g.D.Disk.state s)) s s)) c.self.view_is (told_rests g.D.Disk.state _ c.self.invariant.0)
