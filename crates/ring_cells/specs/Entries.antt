-- The entries of a shared ring.
use Rattle.std.specs.Prelude.{◌≡◌, ℕ, ◌<◌, List, [], Option, Some, None}
use Rattle.std.specs.List.{slice_get}
use Rattle.bus_types.specs.Window.{Span, IsSpan}
use Rattle.event_codec.specs.Bytes.{window_bytes}

-- a position in a timeline, where 0 is that of its first window, and the bytes of a window in full
pub record Held : Type 0 where
  pub position : ℕ
  pub bytes : List ℕ

-- where a timeline is told, the window is the one at that position
abbrev pub IsAt : Option (List Span) → ℕ → Span → Type 0
IsAt None position window = Unit {0}
IsAt (Some windows) position window = slice_get windows position ≡ Some window

-- the bytes are those of a window within its limits, its position is below its SCN, and it is the timeline's window there
pub record IsEntry (timeline : Option (List Span)) (e : Held) : Type 0 where
  pub window : Span
  pub within : IsSpan window
  pub below : e.position < window.scn
  pub spelled : e.bytes ≡ window_bytes window
  pub told : IsAt timeline e.position window

-- ---- what a cell shows

abbrev pub HasEntry : Option (List Span) → Option (Option Held) → Type 0
HasEntry timeline (Some (Some e)) = IsEntry timeline e
HasEntry timeline (Some None) = ⊥
HasEntry timeline None = ⊥

abbrev pub held_of : Option (Option Held) → Held
held_of (Some (Some e)) = e
held_of (Some None) = record { position = 0; bytes = [] }
held_of None = record { position = 0; bytes = [] }
