-- The sizes of windows as a filter leaves them, and the longest run of them.
use Rattle.std.specs.Prelude.{◌≡◌, ℕ, ◌+◌, if◌then◌else◌, List, length}
use Rattle.bus_types.specs.declared.change.Change.{Change}
use Rattle.bus_types.specs.Change.{Test, change_size}
use Rattle.bus_types.specs.Window.{Span}
use Rattle.bus_types.specs.Timeline.{end_from, total_size}

-- the bytes of a change that is accepted, and else none
abbrev pub accepted_size : Test → Change → ℕ
accepted_size test c = if test c.source c.key then change_size c else 0

-- of a run so many windows, their bytes and the SCN of the last of them are told, and the rest of it is still to come
pub record Tells (number scn size : ℕ) (rest run : List Span) : Type 0 where
  pub count : number + length rest ≡ length run
  pub last : end_from scn rest ≡ end_from 0 run
  pub bytes : size + total_size rest ≡ total_size run
