use Rattle.std.proofs.Common.{◌+◌, ◌-◌, ◌<◌, ◌^◌}
use Rattle.partition_filter.specs.Selection.{test_of}
use Rattle.bus_stores.proofs.Held.{Kept}
use Rattle.snapshot_scan.specs.Filling.{Extends, filled, empty_in}
use Rattle.snapshot_scan.specs.Paging.{IsPlace}
use Rattle.snapshot_scan.proofs.Walking.{rank_of, HasWalked}
use Rattle.snapshot_scan.proofs.pages.fill.Given as goal

abbrev pub invariant-pages : goal.invariant-pages
invariant-pages g l = record {
  walked : HasWalked (test_of l.filter) l.scn l.fn.cursor l.place (g.K.Keeper.state l.keeper).content (empty_in l.max l.fn.reply.items) (filled l.reply.items l.filling);
  kept : Kept (g.K.Keeper.state l.fn.keeper) (g.K.Keeper.state l.keeper);
  place : IsPlace l.place;
  small : l.filling.count + l.filling.room < 2 ^ 32;
  front : Extends l.fn.reply.items l.reply.items;
}

abbrev pub decreases-pages : goal.decreases-pages
decreases-pages g l = 2 ^ 81 - rank_of l.place
