use Rattle.log_disk.proofs.Calls.{refused, asked, same_content}
use Rattle.log_disk.proofs.memory.MemoryDisk.ask.Goals as goal

pub returns-then-exceeds-clause-keeps : goal.returns-then-exceeds-clause-keeps
returns-then-exceeds-clause-keeps c = refused _ _ c.exceeds.ensures.whole _ c.fail.ensures.state c.fail.ensures.later

pub returns-clause-keeps : goal.returns-clause-keeps
returns-clause-keeps c = asked _ _ c.exceeds.ensures.whole _ _ _ c.count.ensures c.answer.ensures.state c.answer.ensures.later c.answer.ensures.fails

pub returns-clause-content : goal.returns-clause-content
returns-clause-content c = same_content _ _ _ _ c.count.ensures c.answer.ensures.state
