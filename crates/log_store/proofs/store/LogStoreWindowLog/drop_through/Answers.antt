use Rattle.log_store.proofs.Freeing.{drops_then, drops_failed}
use Rattle.log_store.proofs.store.LogStoreWindowLog.drop_through.Goals as goal

pub loop-self-preserved : goal.loop-self-preserved
loop-self-preserved g c =
    let i = c.loop-self.invariant in
    let first = c.in-Ok.ensures.drops.0 in
    record {
      done = λ s d. i.done s (drops_then g.D.Disk.state c.args.scn c.loop-self.self c.drop_oldest.new.self s tt tt first d);
      failed = λ s d. i.failed s (drops_failed g.D.Disk.state c.args.scn c.loop-self.self c.drop_oldest.new.self s tt first d);
    }

pub returns-in_default-clause-drops : goal.returns-in_default-clause-drops
returns-in_default-clause-drops g c = (c.loop-self.invariant.failed c.drop_oldest.new.self c.in_default.ensures.drops).drops

pub returns-in_default-clause-crash : goal.returns-in_default-clause-crash
returns-in_default-clause-crash g c = (c.loop-self.invariant.failed c.drop_oldest.new.self c.in_default.ensures.drops).crash

pub returns-in_default-clause-losses : goal.returns-in_default-clause-losses
returns-in_default-clause-losses g c = (c.loop-self.invariant.failed c.drop_oldest.new.self c.in_default.ensures.drops).losses
