use Rattle.log_segment.proofs.OneReading.{windows_one, not_free, not_bad, free_not_bad, place_one}
use Rattle.log_segment.proofs.laws.a_segment_is_read_in_one_way.Goals as goal

pub returns : goal.returns
returns c = record { windows = windows_one; free = not_free; good = not_bad; good_free = free_not_bad; place = place_one }
