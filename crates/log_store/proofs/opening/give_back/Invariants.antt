use Rattle.std.proofs.Common.{◌≡◌, ◌≤◌, ◌+◌, ◌++◌, length}
use Rattle.std.specs.Prelude.{vec_capacity}
use Rattle.log_store.specs.Opening.{disks_of}
use Rattle.log_store.proofs.opening.give_back.Given as goal

abbrev pub invariant-loop-segment : goal.invariant-loop-segment
invariant-loop-segment g l = record {
  same : disks_of l.segments.items ++ l.disks.items ≡ disks_of l.fn.segments.items ++ l.fn.disks.items;
  room : length l.segments.items + length l.disks.items ≤ vec_capacity l.disks;
}

abbrev pub decreases-loop-segment : goal.decreases-loop-segment
decreases-loop-segment g l = length l.segments.items
