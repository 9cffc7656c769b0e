use Rattle.std.proofs.Common.{◌∙◌, sym, subst, None, Ok}
use Rattle.log_store.specs.Order.{high_at, place_after}
use Rattle.log_store.specs.Store.{StoreParts}
use Rattle.log_store.specs.Steps.{Reads}
use Rattle.log_store.proofs.Views.{reads_none}
use Rattle.log_store.proofs.store.LogStoreWindowLog.next.Goals as goal

pub returns-in-None-clause-next : goal.returns-in-None-clause-next
returns-in-None-clause-next g c = (subst (λ (s : StoreParts _). Reads g.D.Disk.state c.args.scn c.args.self.now s (Ok None)) c.self.view_is (reads_none g.D.Disk.state _ _ c.self.view_is c.self.invariant.0 c.args.scn c.requires (sym (c.place_after.ensures ∙ (λ i. place_after (high_at (c.deref.ensures.value i)) c.args.scn (c.deref-2.ensures.value i))) ∙ c.in-None.is))).next

pub returns-in-None-clause-crash : goal.returns-in-None-clause-crash
returns-in-None-clause-crash g c = (subst (λ (s : StoreParts _). Reads g.D.Disk.state c.args.scn c.args.self.now s (Ok None)) c.self.view_is (reads_none g.D.Disk.state _ _ c.self.view_is c.self.invariant.0 c.args.scn c.requires (sym (c.place_after.ensures ∙ (λ i. place_after (high_at (c.deref.ensures.value i)) c.args.scn (c.deref-2.ensures.value i))) ∙ c.in-None.is))).crash

pub returns-in-None-clause-losses : goal.returns-in-None-clause-losses
returns-in-None-clause-losses g c = (subst (λ (s : StoreParts _). Reads g.D.Disk.state c.args.scn c.args.self.now s (Ok None)) c.self.view_is (reads_none g.D.Disk.state _ _ c.self.view_is c.self.invariant.0 c.args.scn c.requires (sym (c.place_after.ensures ∙ (λ i. place_after (high_at (c.deref.ensures.value i)) c.args.scn (c.deref-2.ensures.value i))) ∙ c.in-None.is))).losses
