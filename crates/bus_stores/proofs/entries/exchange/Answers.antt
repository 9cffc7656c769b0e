use Rattle.std.proofs.Common.{◌∙◌, ap}
use Rattle.std.specs.BTreeMap.{insert_entry}
use Rattle.bus_types.specs.contracts.change.RowNameOrd.TheImpl.{cmp-value}
use Rattle.bus_types.specs.Table.{row_after, payload_at}
use Rattle.bus_stores.specs.Entries.{rows_in}
use Rattle.bus_stores.proofs.Rooms.{map_table, payload_at-map, written, room_kept}
use Rattle.bus_stores.proofs.entries.exchange.Goals as goal

pub returns-clause-rows : goal.returns-clause-rows
returns-clause-rows c =
    let rows = rows_in c.args.entries.now.entries in
    written c.args.entries.now.entries _ c.name.result c.args.change.now.put c.in_ok-had.ensures.was_ordered (c.in_ok-had.ensures.entries ∙ ap (λ put. insert_entry cmp-value.it c.args.entries.now.entries c.name.result put) c.take.ensures.value) ∙ ap (λ name. row_after rows name c.args.change.now.put) c.name.ensures

pub returns-clause-had : goal.returns-clause-had
returns-clause-had c =
    c.flat.ensures ∙ payload_at-map c.args.entries.now c.name.result c.in_ok-had.had c.len-rising.ensures.ordered c.in_ok-had.ensures.old ∙ ap (payload_at (rows_in c.args.entries.now.entries)) c.name.ensures

pub returns-clause-kept : goal.returns-clause-kept
returns-clause-kept c = room_kept _ _ _ _ c.in_ok-had.ensures.updates.0

pub returns-clause-ordered : goal.returns-clause-ordered
returns-clause-ordered c = map_table c.args.entries.now c.len-rising.ensures.ordered
