use Rattle.std.proofs.Common.{◌≡◌, map, drop}
use Rattle.httparse.specs.Spans.{header_bytes}
use Rattle.bus_http.specs.Answers.{first_length}
use Rattle.bus_http.proofs.answer.next_length.Given as goal

abbrev pub invariant-loop-i : goal.invariant-loop-i
invariant-loop-i l = record {
  same : first_length (map (header_bytes l.text) l.headers) ≡ first_length (map (header_bytes l.text) (drop l.i l.headers));
}
