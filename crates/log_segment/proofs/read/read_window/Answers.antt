use Rattle.log_segment.proofs.Records.{found_window}
use Rattle.log_segment.proofs.read.read_window.Goals as goal

pub returns : goal.returns
returns c = found_window _ _ _ _ c.in_ok-windows.ensures c.only.ensures
