use Rattle.std.proofs.Common.{◌≡◌, ◌++◌}
use Rattle.std.specs.Vec.Iter.{into_iter_items}
use Rattle.snapshot_applier.proofs.applying.append_changes.Given as goal

abbrev pub invariant-loop-change : goal.invariant-loop-change
invariant-loop-change l = l.batch.items ++ into_iter_items l.change-iterator ≡ l.fn.batch.items ++ l.fn.changes.items
