use Rattle.std.proofs.Common.{◌≡◌}
use Rattle.form_urlencoded.specs.Parse.{raw_pairs_left}
use Rattle.bus_http.specs.Query.{first_named}
use Rattle.bus_http.proofs.query.next_named.Given as goal

abbrev pub invariant-loop-key : goal.invariant-loop-key
invariant-loop-key l = record {
  next : (goal.iterator-loop-key).can_next l.pairs;
  finite : (goal.iterator-loop-key).is_finite l.pairs;
  same : first_named l.name (raw_pairs_left l.fn.pairs) ≡ first_named l.name (raw_pairs_left l.pairs);
}
