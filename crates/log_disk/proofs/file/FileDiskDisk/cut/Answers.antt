use Rattle.log_disk.proofs.Untold.{untold_cut}
use Rattle.log_disk.proofs.file.FileDiskDisk.cut.Goals as goal

pub returns : goal.returns
returns c = untold_cut _ _ _ _ c.answer.ensures.cause
