use Rattle.std.proofs.Common.{◌≡◌, ◌+◌, ◌-◌, ◌<◌, ◌≤◌, length, take, map, sym, ap, subst, ◌∙◌, arith}
use Rattle.std.proofs.lemmas.List.{length-set}
use Rattle.bus_types.specs.Table.{row_after}
use Rattle.bus_stores.specs.Entries.{rows_in, entry_of, undone, HasRoom, HaveRoom}
use Rattle.bus_stores.proofs.Rooms.{back_last, back_same, rooms_kept, room_left, undone_left}
use Rattle.bus_stores.proofs.entries.undo.Goals as goal

pub restore-requires : goal.restore-requires
restore-requires c =
    let cs = c.back.changes in
    let at = c.back.left - 1 in
    let change = c.index-changes-left.result in
    let lt : at < length cs = omega (arith, c.back-test.true, c.back.invariant.within) in
    let one : c.back.left ≡ at + 1 = omega (arith, c.back-test.true) in
    let last = ap (λ n. map entry_of (take n cs)) one ∙ back_last cs at change lt in
    let room = (room_left _ _ (map entry_of (take at cs)) _ last c.back.invariant.room).1 in
    subst (HasRoom c.back.entries.entries) (sym c.name-name.ensures) room

pub back-preserved : goal.back-preserved
back-preserved c =
    let cs = c.back.changes in
    let at = c.back.left - 1 in
    let change = c.index-changes-left.result in
    let lt : at < length cs = omega (arith, c.back-test.true, c.back.invariant.within) in
    let one : c.back.left ≡ at + 1 = omega (arith, c.back-test.true) in
    let last = ap (λ n. map entry_of (take n cs)) one ∙ back_last cs at change lt in
    let name = c.name-name.ensures in
    let put = c.take-put.ensures.value in
    let made = c.restore.ensures.rows ∙ (λ i. row_after (rows_in c.back.entries.entries) (name i) (put i)) in
    let same = back_same cs at _ in
    let left = room_left _ _ (map entry_of (take at cs)) _ last c.back.invariant.room in
    record {
      within = subst (λ n. at ≤ n) (sym (length-set cs at _)) (omega (arith, lt));
      rows = ap (undone (rows_in c.restore.new.entries.entries)) same ∙ undone_left _ _ _ _ (map entry_of (take at cs)) _ last made c.back.invariant.rows;
      room = subst (HaveRoom c.restore.new.entries.entries) (sym same) (rooms_kept _ _ _ c.restore.ensures.kept left.0);
    }
