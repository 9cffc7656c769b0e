-- The list of windows that a source committed.
use Rattle.std.specs.Prelude.{◌≡◌, ℕ, ◌+◌, ◌<◌, ◌&&◌, nat_lt, nat_le, List, [], ◌∷◌, length, filter, flat_map, Option, Some, None}
use Rattle.bus_types.specs.declared.change.Change.{Change}
use Rattle.bus_types.specs.Window.{Span, span_size, IsSpan}

-- a window in full that is committed next
pub record Follows (prev : ℕ) (w : Span) : Type 0 where
  pub chained : w.prev ≡ prev
  pub full : 0 < length w.changes
  pub within : IsSpan w

-- windows that follow each other, the first of them the SCN prev. A window is above its own prev, so SCNs rise strictly
abbrev pub IsTimelineFrom : ℕ → List Span → Type 0
IsTimelineFrom prev [] = Unit {0}
IsTimelineFrom prev (w ∷ ws) = Follows prev w × IsTimelineFrom w.scn ws

abbrev pub IsTimeline : List Span → Type 0
IsTimeline ws = IsTimelineFrom 0 ws

-- what is told of a timeline, if anything is, is one
abbrev pub IsTold : Option (List Span) → Type 0
IsTold None = Unit {0}
IsTold (Some ws) = IsTimeline ws

abbrev pub end_from : ℕ → List Span → ℕ
end_from prev [] = prev
end_from prev (w ∷ ws) = end_from w.scn ws

-- the last SCN, or 0
abbrev pub end_of : List Span → ℕ
end_of ws = end_from 0 ws

-- the windows with low < SCN <= high
abbrev pub windows_between : ℕ → ℕ → List Span → List Span
windows_between low high ws = filter (λ w. nat_lt low w.scn && nat_le w.scn high) ws

-- their changes, in the order of the windows and within each
abbrev pub changes_between : ℕ → ℕ → List Span → List Change
changes_between low high ws = flat_map (λ w. w.changes) (windows_between low high ws)

-- the bytes of windows in full
abbrev pub total_size : List Span → ℕ
total_size [] = 0
total_size (w ∷ ws) = span_size w + total_size ws
