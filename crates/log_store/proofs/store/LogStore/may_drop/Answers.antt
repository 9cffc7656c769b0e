use Rattle.log_store.proofs.Views.{unchanged_drops}
use Rattle.log_store.proofs.store.LogStore.may_drop.Goals as goal

pub returns-in_default-clause-none : goal.returns-in_default-clause-none
returns-in_default-clause-none g c = unchanged_drops g.D.Disk.state _ _ c.self.view_is c.self.invariant.0 c.args.scn tt

pub returns-then-not-is_empty-clause-none : goal.returns-then-not-is_empty-clause-none
returns-then-not-is_empty-clause-none g c = unchanged_drops g.D.Disk.state _ _ c.self.view_is c.self.invariant.0 c.args.scn tt

pub returns-else-not-is_empty-clause-none : goal.returns-else-not-is_empty-clause-none
returns-else-not-is_empty-clause-none g c = unchanged_drops g.D.Disk.state _ _ c.self.view_is c.self.invariant.0 c.args.scn tt
