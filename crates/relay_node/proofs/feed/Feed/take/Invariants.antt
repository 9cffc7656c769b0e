use Rattle.std.proofs.Common.{length}
use Rattle.relay_node.specs.Pieces.{IsWithin, TakesPart}
use Rattle.relay_node.proofs.feed.Feed.take.Given as goal

abbrev pub invariant-loop-after : goal.invariant-loop-after
invariant-loop-after g l = record {
  within : IsWithin (record { sent = l.self.publisher; lines = l.self.lines });
  part : TakesPart (record { sent = l.fn.self.publisher; lines = l.fn.self.lines }) l.fn.piece (record { sent = l.self.publisher; lines = l.self.lines }) l.rest;
}

abbrev pub decreases-loop-after : goal.decreases-loop-after
decreases-loop-after g l = length l.rest
