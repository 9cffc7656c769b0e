use Rattle.log_store.proofs.OneLog.{finds_same}
use Rattle.log_store.proofs.store.LogStore.open.Goals as goal

pub returns-clause-finds : goal.returns-clause-finds
returns-clause-finds g c = finds_same g.D.Disk.state c.args.disks.items c.join.result c.join.ensures
