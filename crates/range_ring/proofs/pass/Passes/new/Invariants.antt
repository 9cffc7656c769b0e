use Rattle.std.proofs.Common.{◌≡◌, length}
use Rattle.std.specs.Prelude.{replicate}
use Rattle.range_ring.specs.Belonging.{Sits, fresh_pass}
use Rattle.range_ring.proofs.pass.Passes.new.Given as goal

abbrev pub invariant-loop : goal.invariant-loop
invariant-loop g l = record {
  sits : Sits l.ring l.place.table_id l.place.me;
  same : l.place.me ≡ l.fn.place.me;
  count : length l.passes.items ≡ l.counter;
  fresh : l.passes.items ≡ replicate (length l.passes.items) (fresh_pass l.ring);
}
