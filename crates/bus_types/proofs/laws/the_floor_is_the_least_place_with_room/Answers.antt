use Rattle.bus_types.proofs.Floors.{floor_is, floor_rises}
use Rattle.bus_types.proofs.laws.the_floor_is_the_least_place_with_room.Goals as goal

pub returns : goal.returns
returns c = record { least = floor_is; rises = floor_rises }
