use Rattle.bus_stores.proofs.Rooms.{has_room_ok, unwrapped, written, room_kept}
use Rattle.std.proofs.Common.{refl}
use Rattle.bus_stores.proofs.entries.restore.Goals as goal

pub unwrap-requires : goal.unwrap-requires
unwrap-requires c = has_room_ok _ _ c.args.name _ refl c.requires c.insert-replaced.ensures.absent

pub returns-clause-rows : goal.returns-clause-rows
returns-clause-rows c =
    let made = unwrapped _ c.insert-replaced.result c.unwrap.result c.unwrap.ensures c.insert-replaced.ensures.entries in
    written _ _ _ _ c.insert-replaced.ensures.was_ordered made

pub returns-clause-kept : goal.returns-clause-kept
returns-clause-kept c =
    let made = unwrapped _ c.insert-replaced.result c.unwrap.result c.unwrap.ensures c.insert-replaced.ensures.updates in
    room_kept _ _ _ _ made.0
