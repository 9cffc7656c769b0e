use Rattle.std.proofs.Common.{◌≡◌, ◌+◌, ◌*◌, ◌≤◌, ◌++◌, length, map, drop, flat_map}
use Rattle.bus_types.specs.Rows.{pair_of}
use Rattle.history_core.specs.Script.{rows_size}
use Rattle.consumer_lines.specs.Shown.{row_line}
use Rattle.history_core.proofs.sum.lines.Given as goal

abbrev pub invariant-loop-row : goal.invariant-loop-row
invariant-loop-row l = record {
  lines : l.lines.items ++ flat_map row_line (map pair_of (drop l.row-index l.rows)) ≡ flat_map row_line (map pair_of l.rows);
  size : l.size + rows_size (map pair_of (drop l.row-index l.rows)) ≡ rows_size (map pair_of l.rows);
  small : 2 * l.size ≤ length l.lines.items;
}
