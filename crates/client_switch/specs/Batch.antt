-- Windows that are gathered item by item.
use Rattle.std.specs.Prelude.{ℕ, ◌+◌, List, length}
use Rattle.bus_types.specs.Window.{Span}
use Rattle.client_switch.specs.Moves.{changes_of}

-- how many marks and changes of windows are left
abbrev pub items_left : List Span → ℕ
items_left ws = length ws + length (changes_of ws)
