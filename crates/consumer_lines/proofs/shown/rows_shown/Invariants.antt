use Rattle.std.proofs.Common.{◌≡◌, ◌++◌, map, drop, flat_map}
use Rattle.bus_types.specs.Rows.{pair_of}
use Rattle.consumer_lines.specs.Shown.{row_line, rows_text}
use Rattle.consumer_lines.proofs.shown.rows_shown.Given as goal

abbrev pub invariant-loop-row : goal.invariant-loop-row
invariant-loop-row l = l.text.items ++ flat_map row_line (map pair_of (drop l.row-index l.rows)) ≡ rows_text l.name l.scn (map pair_of l.rows)
