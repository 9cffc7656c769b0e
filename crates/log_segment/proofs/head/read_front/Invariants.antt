use Rattle.std.proofs.Common.{◌≡◌, ◌≤◌, ◌++◌, ◌-◌, ℕ, List, length, IfSome}
use Rattle.log_segment.specs.Looking.{Looks}
use Rattle.log_segment.proofs.head.read_front.Given as goal

abbrev pub invariant-loop-alloc : goal.invariant-loop-alloc
invariant-loop-alloc g l = record {
  looks : Looks (g.D.Disk.state l.fn.disk) (g.D.Disk.state l.disk);
  within : length l.ahead ≤ l.end;
  told : IfSome (g.D.Disk.state l.fn.disk).seen (λ bytes. l.end ≡ length bytes → (rest : List ℕ) × (bytes ≡ l.ahead ++ rest));
}

abbrev pub decreases-loop-alloc : goal.decreases-loop-alloc
decreases-loop-alloc g l = l.end - length l.ahead
