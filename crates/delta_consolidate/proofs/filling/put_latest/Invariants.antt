use Rattle.std.proofs.Common.{◌≡◌, ◌+◌, ◌<◌, ◌^◌}
use Rattle.delta_consolidate.specs.Latest.{changes_of}
use Rattle.delta_consolidate.specs.Filling.{Extends, filled, with_items}
use Rattle.delta_consolidate.proofs.filling.put_latest.Given as goal

abbrev pub invariant-loop-name : goal.invariant-loop-name
invariant-loop-name l = record {
  changes : with_items l.scn (filled l.reply.items l.filling) (changes_of l.name-iterator) ≡ with_items l.scn (filled l.fn.reply.items l.fn.filling) (changes_of l.fn.latest.entries);
  small : l.filling.count + l.filling.room < 2 ^ 32;
  front : Extends l.fn.reply.items l.reply.items;
}
