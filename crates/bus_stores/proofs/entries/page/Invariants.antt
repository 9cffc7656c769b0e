use Rattle.std.proofs.Common.{◌≡◌, ◌-◌, ◌++◌, length, map, take}
use Rattle.bus_types.specs.Rows.{pair_of, page_of}
use Rattle.bus_stores.specs.Entries.{rows_in}
use Rattle.bus_stores.proofs.entries.page.Given as goal

abbrev pub invariant-loop-name : goal.invariant-loop-name
invariant-loop-name l = map pair_of l.page.items ++ take (l.max - length l.page.items) (rows_in l.name-iterator) ≡ page_of l.cursor l.max (rows_in l.entries.entries)
