use Rattle.std.proofs.Common.{◌≡◌, ℕ, ◌+◌, List, ◌++◌, drop}
use Rattle.bus_http.specs.Ending.{end_after}
use Rattle.bus_http.proofs.ending.find_end.Given as goal

abbrev pub invariant-loop-i : goal.invariant-loop-i
invariant-loop-i l = (rest : List ℕ) → end_after l.place l.fn.seen (l.bytes ++ rest) ≡ end_after (l.place + l.i) l.seen (drop l.i l.bytes ++ rest)
