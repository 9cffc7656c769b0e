use Rattle.range_ring.proofs.Lending.{as_many, held_bytes, held_whole, parts_joined}
use Rattle.range_ring.proofs.laws.a_range_lends_its_windows.Goals as goal

pub returns : goal.returns
returns c = record { count = as_many; bytes = held_bytes; items = held_whole; parts = parts_joined }
