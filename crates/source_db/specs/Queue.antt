-- Commits of which those that were passed on are let go.
use Rattle.std.specs.Prelude.{◌≡◌, ℕ, ◌≤◌, List, [], ◌∷◌, ◌++◌, length, Option, Some, None}
use Rattle.bus_types.specs.declared.limits.TheConstants.{MAX_SCN}
use Rattle.bus_types.specs.Window.{Span}
use Rattle.bus_types.specs.Timeline.{IsTimeline, end_of, windows_between}

-- the windows that were committed, and the SCN of the last one that was passed on, or 0
pub record Commits : Type 0 where
  pub windows : List Span
  pub passed : ℕ

-- the windows that wait
abbrev pub waiting : Commits → List Span
waiting q = windows_between q.passed (end_of q.windows) q.windows

-- the windows that were let go: the last one behind those before it, where there was one
abbrev pub past_after : Option (List Span) → Option Span → List Span
past_after None last = []
past_after (Some before) None = before
past_after (Some before) (Some last) = before ++ last ∷ []

-- what is kept of all of them: the SCN of the last one, and their number, which no SCN is below
pub record IsKept (windows : List Span) (last count : ℕ) : Type 0 where
  pub timeline : IsTimeline windows
  pub end : last ≡ end_of windows
  pub many : count ≡ length windows
  pub few : count ≤ last
  pub small : last ≤ MAX_SCN
