use Rattle.std.proofs.Common.{◌≡◌, ◌≤◌, ◌+◌, length}
use Rattle.std.specs.Prelude.{vec_capacity}
use Rattle.log_store.specs.Joining.{OpenedSome}
use Rattle.log_store.proofs.opening.open_all.Given as goal

abbrev pub invariant-loop-alloc : goal.invariant-loop-alloc
invariant-loop-alloc g l = record {
  some : OpenedSome g.D.Disk.state l.fn.disks.items l.segments.items l.disks.items;
  many : length l.segments.items + length l.disks.items ≡ length l.fn.disks.items;
  disks : vec_capacity l.disks ≡ vec_capacity l.fn.disks;
  segments : vec_capacity l.fn.segments ≤ vec_capacity l.segments;
}

abbrev pub decreases-loop-alloc : goal.decreases-loop-alloc
decreases-loop-alloc g l = length l.disks.items
