use Rattle.bus_stores.proofs.Rooms.{payload_at-map, copied_at-map}
use Rattle.bus_stores.proofs.entries.payload.Goals as goal

pub returns-in_default : goal.returns-in_default
returns-in_default c = payload_at-map c.args.entries.now c.args.name.now _ c.len-rising.ensures.ordered c.in_default.ensures.value

pub returns : goal.returns
returns c = copied_at-map c.args.entries.now c.args.name.now _ _ c.len-rising.ensures.ordered c.in-Some.ensures.value c.copy_put.ensures
