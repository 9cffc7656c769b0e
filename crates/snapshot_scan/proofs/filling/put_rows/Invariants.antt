use Rattle.std.proofs.Common.{◌≡◌, ◌+◌, ◌≤◌, map}
use Rattle.std.specs.Vec.Iter.{into_iter_items}
use Rattle.bus_types.specs.Rows.{pair_of}
use Rattle.partition_filter.specs.Selection.{test_of}
use Rattle.snapshot_scan.specs.Filling.{Extends, filled, with_rows}
use Rattle.snapshot_scan.proofs.filling.put_rows.Given as goal

abbrev pub invariant-loop-row : goal.invariant-loop-row
invariant-loop-row l = record {
  rows : with_rows (test_of l.filter) l.scn (filled l.reply.items l.filling) (map pair_of (into_iter_items l.row-iterator)) ≡ with_rows (test_of l.filter) l.scn (filled l.fn.reply.items l.fn.filling) (map pair_of l.fn.rows.items);
  small : l.filling.count + l.filling.room ≤ l.fn.filling.count + l.fn.filling.room;
  front : Extends l.fn.reply.items l.reply.items;
}
