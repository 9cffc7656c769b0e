use Rattle.event_codec.proofs.WindowBytes.{no_front}
use Rattle.event_codec.proofs.laws.no_window_begins_another.Goals as goal

pub returns : goal.returns
returns c = no_front
