use Rattle.std.proofs.Common.{◌≡◌, ◌+◌, ◌≤◌, length, None}
use Rattle.stream_bench.proofs.stream.split.Given as goal

-- a splitter that isn't bad has no more bytes than came
abbrev pub invariant-loop-rest : goal.invariant-loop-rest
invariant-loop-rest l = l.splitter.bad ≡ None → l.splitter.given + length l.splitter.rest + length l.rest ≤ length l.bytes

abbrev pub decreases-loop-rest : goal.decreases-loop-rest
decreases-loop-rest l = length l.rest
