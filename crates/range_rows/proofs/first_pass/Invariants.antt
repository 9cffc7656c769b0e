use Rattle.std.proofs.Common.{◌≡◌}
use Rattle.range_rows.proofs.first_pass.Given as goal

abbrev pub invariant-loop-row : goal.invariant-loop-row
invariant-loop-row g l = (l.pass.home ≡ l.ring) × (l.feeder.home ≡ l.ring)
