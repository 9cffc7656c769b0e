use Rattle.std.proofs.Common.{◌≡◌, ◌+◌, ◌≤◌, length, None}
use Rattle.wire_tests.proofs.splitter.split.Given as goal

abbrev pub invariant-loop-last : goal.invariant-loop-last
invariant-loop-last l = l.splitter.bad ≡ None → l.splitter.given + length l.splitter.rest + length l.rest ≤ length l.stream

abbrev pub decreases-loop-last : goal.decreases-loop-last
decreases-loop-last l = length l.rest
