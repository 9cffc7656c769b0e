use Rattle.std.proofs.Common.{◌≡◌, ◌++◌}
use Rattle.client_switch.specs.Batch.{items_left}
use Rattle.client_switch.specs.Moves.{changes_of}
use Rattle.client_switch.proofs.changes.windows_changes.Given as goal

abbrev pub invariant-items : goal.invariant-items
invariant-items l = l.changes.items ++ changes_of l.left ≡ changes_of l.windows

abbrev pub decreases-items : goal.decreases-items
decreases-items l = items_left l.left
