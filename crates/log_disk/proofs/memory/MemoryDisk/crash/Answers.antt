use Rattle.log_disk.proofs.Contents.{picked_left}
use Rattle.log_disk.proofs.Calls.{is_now, new_lasting}
use Rattle.log_disk.specs.Memory.{content}
use Rattle.log_disk.proofs.memory.MemoryDisk.crash.Goals as goal

pub returns-clause-left : goal.returns-clause-left
returns-clause-left c = is_now c.args.self.start c.args.self.steps _ (picked_left c.args.pick (content c.args.self) c.restart.ensures.whole)

pub returns-clause-lasting : goal.returns-clause-lasting
returns-clause-lasting c = new_lasting _ _ _ _ _ c.restart.ensures.state
