use Rattle.std.proofs.Common.{◌≡◌, length, IfSome}
use Rattle.log_segment.specs.Looking.{Looks}
use Rattle.log_segment.specs.Scanning.{IsScan, Reached, left}
use Rattle.log_segment.proofs.scan.scan_all.Given as goal

abbrev pub invariant-loop-scan : goal.invariant-loop-scan
invariant-loop-scan g l = record {
  looks : Looks (g.D.Disk.state l.fn.disk) (g.D.Disk.state l.disk);
  scan : IsScan l.end l.scan l.ahead;
  told : IfSome (g.D.Disk.state l.fn.disk).seen (λ bytes. l.end ≡ length bytes → Reached bytes l.fn.from l.fn.ahead → Reached bytes l.scan l.ahead);
}

abbrev pub decreases-loop-scan : goal.decreases-loop-scan
decreases-loop-scan g l = left l.end l.scan.gate l.ahead
