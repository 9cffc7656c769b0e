-- Windows: the changes of one commit.
use Rattle.std.specs.Prelude.{ℕ, ◌+◌, ◌<◌, ◌≤◌, Bool, if◌then◌else◌, ◌==◌, ◌||◌, nat_lt, nat_le, List, length, Option, Some, None}
use Rattle.bus_types.specs.declared.change.Change.{Change}
use Rattle.bus_types.specs.declared.window.WindowFault.{WindowFault}
use Rattle.bus_types.specs.declared.window.WindowFault.TheVariants.{BadScn, Empty, TooMany, TooLarge}
use Rattle.bus_types.specs.declared.limits.TheConstants.{MAX_SCN, MAX_CHANGES, MAX_WINDOW}
use Rattle.bus_types.specs.Change.{changes_size, AreChanges}

-- a window as contracts see it: its SCN, the SCN of the window before it, or 0, and its changes in order
pub record Span : Type 0 where
  pub scn : ℕ
  pub prev : ℕ
  pub changes : List Change

-- the bytes of a window: its events, and a mark of 17 bytes
abbrev pub span_size : Span → ℕ
span_size w = changes_size w.changes + 17

-- a window in full, or as a filter left it, is within its limits
pub record IsSpan (w : Span) : Type 0 where
  pub scn : w.scn ≤ MAX_SCN
  pub prev : w.prev < w.scn
  pub count : length w.changes ≤ MAX_CHANGES
  pub size : span_size w ≤ MAX_WINDOW
  pub changes : AreChanges w.changes

abbrev pub bad_scn : Span → Bool
bad_scn w = w.scn == 0 || nat_lt MAX_SCN w.scn || nat_le w.scn w.prev

-- the first fault of a window that may have no change
abbrev pub cut_fault : Span → Option WindowFault
cut_fault w =
    if bad_scn w then Some BadScn
    else if nat_lt MAX_CHANGES (length w.changes) then Some TooMany
    else if nat_lt MAX_WINDOW (span_size w) then Some TooLarge
    else None

-- the first fault of a window in full
abbrev pub window_fault : Span → Option WindowFault
window_fault w = if bad_scn w then Some BadScn else if length w.changes == 0 then Some Empty else cut_fault w
