use Rattle.std.proofs.Common.{true, refl}
use Rattle.log_disk.proofs.Calls.{refused, asked, made_sync}
use Rattle.log_disk.proofs.memory.MemoryDiskDisk.sync.Goals as goal

pub returns-clause-syncs : goal.returns-clause-syncs
returns-clause-syncs c = made_sync _ _ c.exceeds.ensures.whole _ c.make_sync.ensures

pub returns-then-exceeds-clause-syncs : goal.returns-then-exceeds-clause-syncs
returns-then-exceeds-clause-syncs c = record { keeps = refused _ _ c.exceeds.ensures.whole _ c.fail.ensures.state c.fail.ensures.later; lasting = tt }

pub returns-then-is_listed-clause-syncs : goal.returns-then-is_listed-clause-syncs
returns-then-is_listed-clause-syncs c = record { keeps = asked _ _ c.exceeds.ensures.whole _ true _ c.count.ensures c.fail-then-is_listed.ensures.state c.fail-then-is_listed.ensures.later refl; lasting = tt }
