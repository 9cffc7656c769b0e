-- What a commit appends, and when it is refused.
use Rattle.std.specs.Prelude.{◌≡◌, ℕ, ◌<◌, ◌≤◌, List, Some, None, Result, Ok, Err}
use Rattle.bus_types.specs.declared.change.Change.{Change}
use Rattle.bus_types.specs.Window.{Span, window_fault}
use Rattle.bus_types.specs.Timeline.{end_of}
use Rattle.source_db.specs.declared.source.CommitFault.{CommitFault}
use Rattle.source_db.specs.declared.source.CommitFault.TheVariants.{NotRising, Bad, NoMemory}

-- the window of the next commit
abbrev pub next_window : List Span → ℕ → List Change → Span
next_window windows scn changes = record { scn = scn; prev = end_of windows; changes = changes }

-- when each answer of a commit comes; want of memory says nothing
abbrev pub Refuses : List Span → ℕ → List Change → Result Unit CommitFault → Type 0
Refuses windows scn changes (Ok u) = (end_of windows < scn) × (window_fault (next_window windows scn changes) ≡ None)
Refuses windows scn changes (Err (NotRising last)) = (last ≡ end_of windows) × (scn ≤ end_of windows)
Refuses windows scn changes (Err (Bad fault)) = (end_of windows < scn) × (window_fault (next_window windows scn changes) ≡ Some fault)
Refuses windows scn changes (Err NoMemory) = Unit {0}
