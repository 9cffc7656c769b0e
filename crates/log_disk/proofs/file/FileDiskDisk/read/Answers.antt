use Rattle.std.specs.Counts.{IsPrefixLen}
use Rattle.log_disk.proofs.Untold.{untold_read, bound_kept}
use Rattle.log_disk.proofs.file.FileDiskDisk.read.Goals as goal

pub returns : goal.returns
returns c = untold_read _ _ _ _ _ c.answer.ensures.cause (bound_kept (λ n. IsPrefixLen n c.read_at-count.new.buf) _ _ c.answer.ensures.value c.read_at-count.ensures.bound)
