use Rattle.std.proofs.Common.{◌+◌, ◌≤◌, ◌-◌, length, IfSome}
use Rattle.log_segment.specs.Looking.{Looks}
use Rattle.log_segment.proofs.Lookups.{PartAt}
use Rattle.log_segment.proofs.fetch.fetch_at.Given as goal

abbrev pub invariant-loop-front : goal.invariant-loop-front
invariant-loop-front g l = record {
  looks : Looks (g.D.Disk.state l.fn.disk) (g.D.Disk.state l.disk);
  within : l.place + length l.ahead ≤ l.end;
  told : IfSome (g.D.Disk.state l.fn.disk).seen (λ bytes. l.end ≤ length bytes → PartAt l.place bytes l.ahead);
}

abbrev pub decreases-loop-front : goal.decreases-loop-front
decreases-loop-front g l = l.end - (l.place + length l.ahead)
