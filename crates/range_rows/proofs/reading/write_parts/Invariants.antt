use Rattle.range_ring.specs.Parts.{IsPlace, bytes_at}
use Rattle.range_rows.proofs.reading.write_parts.Given as goal

abbrev pub invariant-loop : goal.invariant-loop
invariant-loop l = IsPlace (bytes_at l.range.entries l.i) l.place
