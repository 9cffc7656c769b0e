use Rattle.log_disk.proofs.Calls.{refused_write, made_write}
use Rattle.log_disk.proofs.memory.MemoryDiskDisk.write_at.Goals as goal

pub returns-clause-writes : goal.returns-clause-writes
returns-clause-writes c = made_write _ _ c.exceeds.ensures.whole _ _ _ _ _ c.requires c.make_write.ensures c.answer.ensures.state c.answer.ensures.later c.answer.ensures.fails

pub returns-then-exceeds-clause-writes : goal.returns-then-exceeds-clause-writes
returns-then-exceeds-clause-writes c = refused_write _ _ c.exceeds.ensures.whole _ _ _ c.fail.ensures.state c.fail.ensures.later
