use Rattle.std.proofs.Common.{◌≡◌}
use Rattle.ring_bench.proofs.shared.read.Given as goal

abbrev pub invariant-loop : goal.invariant-loop
invariant-loop g l = l.pass.home ≡ l.ring
