use Rattle.std.proofs.Common.{◌<◌, ◌∙◌, length, get_or, sym, ap, subst, arith}
use Rattle.std.proofs.lemmas.List.{length-set}
use Rattle.bus_types.specs.Change.{name_of}
use Rattle.bus_types.specs.Table.{row_after, payload_at}
use Rattle.bus_stores.specs.Entries.{rows_in, HasRoom}
use Rattle.bus_stores.proofs.Rooms.{back_more, made_at, room_more, undone_more}
use Rattle.bus_stores.proofs.entries.write.Goals as goal

pub loop-at-preserved : goal.loop-at-preserved
loop-at-preserved c =
    let was = c.loop-at in
    let cs = was.changes in
    let now = rows_in was.entries.entries in
    let change = get_or cs was.at c.index-changes-at.result in
    let left = c.write_one.new.change in
    let done = c.in-Ok.ensures in
    let lt : was.at < length cs = omega (arith, c.loop-at-test.true, was.invariant.as_many) in
    record {
      as_many = length-set cs was.at left ∙ was.invariant.as_many;
      rows = made_at now _ _ cs was.at left c.index-changes-at.result lt done.rows was.invariant.rows;
      undone = undone_more now _ _ _ _ (name_of left) change.put left.put done.ordered (back_more cs was.at left lt) (done.had ∙ (λ i. payload_at now (sym done.name i))) (done.rows ∙ (λ i. row_after now (sym done.name i) change.put)) was.invariant.undone;
      room = room_more _ _ _ _ (name_of left) left.put (back_more cs was.at left lt) done.kept (subst (HasRoom c.write_one.new.entries.entries) (sym done.name) done.room) was.invariant.room;
    }
