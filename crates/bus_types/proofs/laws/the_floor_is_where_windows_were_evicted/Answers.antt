use Rattle.bus_types.proofs.Floors.{floor_evicted}
use Rattle.bus_types.proofs.laws.the_floor_is_where_windows_were_evicted.Goals as goal

pub returns : goal.returns
returns c = floor_evicted
