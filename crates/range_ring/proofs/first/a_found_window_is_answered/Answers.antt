use Rattle.range_ring.proofs.Answering.{found, missed}
use Rattle.range_ring.proofs.first.a_found_window_is_answered.Goals as goal

pub returns : goal.returns
returns c = record { found = found; missed = missed }
