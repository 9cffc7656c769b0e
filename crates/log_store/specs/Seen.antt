-- The windows of a segment, read from its bytes. What is told of a log follows the definitions of its bytes (`Log.antt`); this
-- reading serves to compute the list.
use Rattle.std.specs.Prelude.{ℕ, ◌==◌, if◌then◌else◌, List, [], ◌∷◌, drop, Option, Some, None}
use Rattle.bus_types.specs.Window.{Span}
use Rattle.event_codec.specs.Parsing.{window_in_front}

-- a window that was read, and those behind it
abbrev pub and_behind : (List ℕ → List Span) → Option (Span × List ℕ) → List Span
and_behind behind None = []
and_behind behind (Some x) = x.0 ∷ behind x.1

-- the windows behind open gates, at most as many as a list has elements
abbrev pub windows_within : List ℕ → List ℕ → List Span
windows_within [] bytes = []
windows_within (x ∷ xs) [] = []
windows_within (x ∷ xs) (gate ∷ bytes) = if gate == 165 then and_behind (windows_within xs) (window_in_front (drop 4 bytes)) else []

-- those of a segment in use
abbrev pub windows_seen : Option (List ℕ) → List Span
windows_seen None = []
windows_seen (Some bytes) = windows_within bytes (drop 17 bytes)
