use Rattle.std.proofs.Common.{◌≡◌, ◌++◌, map, length}
use Rattle.client_switch.proofs.changes.run_changes.Given as goal

abbrev pub invariant-loop-event : goal.invariant-loop-event
invariant-loop-event l = l.changes.items ++ map (λ e. e.change) l.left ≡ map (λ e. e.change) l.run

abbrev pub decreases-loop-event : goal.decreases-loop-event
decreases-loop-event l = length l.left
