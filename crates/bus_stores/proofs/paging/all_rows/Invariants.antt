use Rattle.std.proofs.Common.{◌-◌, ◌^◌, length, map}
use Rattle.bus_types.specs.declared.row.Cursor.TheVariants.{Start}
use Rattle.bus_types.specs.Rows.{pair_of, RiseAfter}
use Rattle.bus_stores.proofs.Held.{Kept}
use Rattle.bus_stores.proofs.Fronts.{ToldAll}
use Rattle.bus_stores.proofs.paging.all_rows.Given as goal

abbrev pub invariant-pages : goal.invariant-pages
invariant-pages g l = record {
  kept : Kept (g.K.Keeper.state l.fn.keeper) (g.K.Keeper.state l.keeper);
  told : ToldAll (g.K.Keeper.state l.keeper) (map pair_of l.all.items);
  rising : RiseAfter Start (map pair_of l.all.items);
}

abbrev pub decreases-pages : goal.decreases-pages
decreases-pages g l = 2 ^ 63 - length l.all.items
