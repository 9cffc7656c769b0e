use Rattle.std.proofs.Common.{◌≡◌, ◌<◌, ◌≤◌, ℕ, length, get_or}
use Rattle.log_disk.specs.Memory.{filled_at}
use Rattle.log_disk.proofs.memory.fill.Given as goal

abbrev pub invariant-loop-place : goal.invariant-loop-place
invariant-loop-place l = record {
  size : length l.bytes ≡ length l.fn.bytes;
  done : (k : ℕ) → k < l.place → get_or l.bytes k 0 ≡ filled_at l.ranges l.byte l.fn.bytes k;
  rest : (k : ℕ) → l.place ≤ k → get_or l.bytes k 0 ≡ get_or l.fn.bytes k 0;
}
