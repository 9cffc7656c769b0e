use Rattle.std.proofs.Common.{◌≡◌, ◌≤◌, length}
use Rattle.std.specs.Vec.Iter.{into_iter_items}
use Rattle.partition_filter.specs.Selection.{test_of}
use Rattle.delta_consolidate.specs.Latest.{kept_after}
use Rattle.delta_consolidate.proofs.latest.take_changes.Given as goal

abbrev pub invariant-loop-change : goal.invariant-loop-change
invariant-loop-change l = record {
  taken : kept_after (test_of l.filter) l.cursor l.most l.latest.entries (into_iter_items l.change-iterator) ≡ kept_after (test_of l.filter) l.cursor l.most l.fn.latest.entries l.fn.changes.items;
  few : length l.latest.entries ≤ l.most;
}
