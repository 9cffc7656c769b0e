use Rattle.std.proofs.Common.{◌≡◌}
use Rattle.bus_stores.specs.Entries.{rows_in}
use Rattle.bus_stores.proofs.entries.drop_room.Given as goal

abbrev pub invariant-loop-name : goal.invariant-loop-name
invariant-loop-name l = rows_in l.entries.entries ≡ rows_in l.fn.entries.entries
