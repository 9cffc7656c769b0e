use Rattle.window_stream.specs.Scan.{IsScan, MovesOn, unscanned}
use Rattle.window_stream.proofs.scan.scan_items.Given as goal

abbrev pub invariant-loop-next : goal.invariant-loop-next
invariant-loop-next l = record {
  is : IsScan l.scan;
  moved : MovesOn l.fn.from l.scan l.fn.whole.items l.whole.items;
}

abbrev pub decreases-loop-next : goal.decreases-loop-next
decreases-loop-next l = unscanned l.scan
