use Rattle.std.proofs.Common.{◌≡◌}
use Rattle.bus_stores.specs.Entries.{rows_in}
use Rattle.bus_stores.proofs.entries.drop_room_of.Given as goal

abbrev pub invariant-loop-change : goal.invariant-loop-change
invariant-loop-change l = rows_in l.entries.entries ≡ rows_in l.fn.entries.entries
