use Rattle.event_codec.proofs.Standing.{one_event_stands, one_mark_stands, not_both_stand}
use Rattle.event_codec.proofs.Frames.{one_closing, one_answer}
use Rattle.event_codec.proofs.laws.a_frame_is_read_in_one_way.Goals as goal

pub returns : goal.returns
returns c = record { events = one_event_stands; marks = one_mark_stands; apart = not_both_stand; closings = one_closing; answers = one_answer }
