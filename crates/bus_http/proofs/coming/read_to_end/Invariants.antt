use Rattle.std.proofs.Common.{◌≡◌, ℕ, ◌-◌, ◌≤◌, List, ◌++◌, length, drop}
use Rattle.bus_http.specs.declared.ending.Seen.TheVariants.{Front}
use Rattle.bus_http.specs.Ending.{end_after}
use Rattle.bus_http.specs.Inbox.{Draws}
use Rattle.bus_http.proofs.coming.read_to_end.Given as goal

abbrev pub invariant-loop-end : goal.invariant-loop-end
invariant-loop-end g l = record {
  draws : Draws (g.S.Source.left l.fn.from) (g.S.Source.left l.from) (g.S.Source.given l.fn.from) (g.S.Source.given l.from) l.fn.inbox l.inbox;
  place : l.place ≤ length l.inbox;
  seen : (rest : List ℕ) → end_after 0 Front (l.inbox ++ rest) ≡ end_after l.place l.seen (drop l.place l.inbox ++ rest);
  later : g.S.Source.faults l.fn.from ≤ g.S.Source.faults l.from;
  beside : g.S.Source.beside l.from ≡ g.S.Source.beside l.fn.from;
}

abbrev pub decreases-loop-end : goal.decreases-loop-end
decreases-loop-end g l = 16384 - length l.inbox
