-- The run of windows that a reply has.
use Rattle.std.specs.Prelude.{ℕ, List, [], drop}
use Rattle.bus_types.specs.Change.{Test}
use Rattle.bus_types.specs.Window.{Span}
use Rattle.bus_types.specs.Timeline.{total_size}
use Rattle.bus_types.specs.Cut.{cuts}
use Rattle.bus_types.specs.Relay.{longest_run, most_windows}
use Rattle.plain_buffer.specs.Run.{Tells}

-- the longest run of windows from a place on, as a test leaves them
abbrev pub run_from : Test → List Span → ℕ → ℕ → List Span
run_from test ws from max = longest_run most_windows max (cuts test (drop from ws))

-- it has so many windows, of which the last one has this SCN
abbrev pub IsRun : Test → List Span → ℕ → ℕ → ℕ → ℕ → Type 0
IsRun test ws from max count last = Tells count last (total_size (run_from test ws from max)) [] (run_from test ws from max)
