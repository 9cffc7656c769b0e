use Rattle.log_disk.proofs.Untold.{untold_write}
use Rattle.log_disk.proofs.file.FileDiskDisk.write_at.Goals as goal

pub returns : goal.returns
returns c = untold_write _ _ _ _ _ c.answer.ensures.cause
