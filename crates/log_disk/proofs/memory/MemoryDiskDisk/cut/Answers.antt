use Rattle.log_disk.proofs.Calls.{refused_cut, made_cut}
use Rattle.log_disk.proofs.memory.MemoryDiskDisk.cut.Goals as goal

pub returns-clause-cuts : goal.returns-clause-cuts
returns-clause-cuts c = made_cut _ _ c.exceeds.ensures.whole _ _ _ _ c.requires c.make_cut.ensures c.answer.ensures.state c.answer.ensures.later c.answer.ensures.fails

pub returns-then-exceeds-clause-cuts : goal.returns-then-exceeds-clause-cuts
returns-then-exceeds-clause-cuts c = refused_cut _ _ c.exceeds.ensures.whole _ _ c.fail.ensures.state c.fail.ensures.later
