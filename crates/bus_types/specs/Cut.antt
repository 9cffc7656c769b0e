-- What a filter leaves of a window.
use Rattle.std.specs.Prelude.{ℕ, List, map}
use Rattle.bus_types.specs.Change.{Test, accepted}
use Rattle.bus_types.specs.Window.{Span, span_size}

-- the accepted changes of a window, in order, and always its mark
abbrev pub cut : Test → Span → Span
cut test w = record w { changes = accepted test w.changes }

abbrev pub cuts : Test → List Span → List Span
cuts test ws = map (cut test) ws

-- its size in bytes
abbrev pub cut_size : Test → Span → ℕ
cut_size test w = span_size (cut test w)
