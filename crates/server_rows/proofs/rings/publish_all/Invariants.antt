use Rattle.std.proofs.Common.{◌≡◌}
use Rattle.server_rows.proofs.rings.publish_all.Given as goal

abbrev pub invariant-loop-position : goal.invariant-loop-position
invariant-loop-position g l = (l.feeder.home ≡ l.ring) × (l.feeder.published ≡ l.position)
