use Rattle.std.proofs.Common.{◌≡◌, ◌-◌, ◌≤◌, length, take}
use Rattle.bus_http.specs.Inbox.{Draws}
use Rattle.bus_http.proofs.receiving.fill_up.Given as goal

abbrev pub invariant-loop-count : goal.invariant-loop-count
invariant-loop-count g l = record {
  draws : Draws (g.S.Source.left l.fn.from) (g.S.Source.left l.from) (g.S.Source.given l.fn.from) (g.S.Source.given l.from) (take l.used l.fn.room) (take l.count l.room);
  within : l.count ≤ length l.room;
  size : length l.room ≡ length l.fn.room;
  later : g.S.Source.faults l.fn.from ≤ g.S.Source.faults l.from;
  beside : g.S.Source.beside l.from ≡ g.S.Source.beside l.fn.from;
}

abbrev pub decreases-loop-count : goal.decreases-loop-count
decreases-loop-count g l = length l.room - l.count
