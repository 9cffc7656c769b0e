use Rattle.event_codec.proofs.Readings.{one_reading, one_place}
use Rattle.event_codec.proofs.laws.a_stream_is_read_in_one_way.Goals as goal

pub returns : goal.returns
returns c = record { windows = one_reading; place = one_place }
