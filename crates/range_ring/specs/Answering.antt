-- What a ring answers, by positions.
use Rattle.std.specs.Prelude.{◌≡◌, ◌⊎◌, ℕ, ◌<◌, ◌≤◌, List, take, drop, Option, Some, None}
use Rattle.std.specs.List.{slice_get}
use Rattle.bus_types.specs.declared.limits.TheConstants.{MAX_SCN}
use Rattle.bus_types.specs.Change.{Test}
use Rattle.bus_types.specs.Window.{Span}
use Rattle.bus_types.specs.Timeline.{end_of}
use Rattle.bus_types.specs.Relay.{Served, NotFound, Empty, stream}
use Rattle.ring_cells.specs.Entries.{Held, IsEntry}
use Rattle.range_ring.specs.Words.{IsSeen}
use Rattle.range_ring.specs.Belonging.{PassIs}
use Rattle.range_ring.specs.declared.first.Miss.{Miss}
use Rattle.range_ring.specs.declared.first.Miss.TheVariants as misses

-- the SCN of the window before a position, or 0
abbrev pub scn_before : List Span → ℕ → ℕ
scn_before windows position = end_of (take position windows)

-- the windows from a position up to the one before another
abbrev pub windows_from : List Span → ℕ → ℕ → List Span
windows_from windows first past = drop first (take past windows)

-- what a relay answers of a timeline that evicted and published so many of its windows
abbrev pub answer_at : List Span → ℕ → ℕ → ℕ → Test → ℕ → Served
answer_at windows evicted published scn test max = stream windows (scn_before windows evicted) (scn_before windows published) scn test max

-- the windows at a position and before it stand around an SCN: the window is the first one after it
pub record IsNext (windows : List Span) (evicted published scn position : ℕ) (window : Span) : Type 0 where
  pub low : evicted ≤ position
  pub high : position < published
  pub there : slice_get windows position ≡ Some window
  pub before : window.prev ≤ scn
  pub after : scn < window.scn

-- where a timeline is told, this is the SCN before that position
abbrev pub IsBefore : Option (List Span) → ℕ → ℕ → Type 0
IsBefore None position scn = Unit {0}
IsBefore (Some windows) position scn = scn ≡ scn_before windows position

-- an entry between two positions is that of the first window after an SCN
pub record IsFirst (timeline : Option (List Span)) (evicted published scn : ℕ) (e : Held) : Type 0 where
  pub low : evicted ≤ e.position
  pub high : e.position < published
  pub entry : IsEntry timeline e
  pub before : entry.window.prev ≤ scn
  pub after : scn < entry.window.scn

-- why none is: the first one was evicted, or none is published yet, or one has to look again
abbrev pub IsMissed : Option (List Span) → ℕ → ℕ → ℕ → Miss → Type 0
IsMissed timeline evicted published scn (misses.NotFound floor) = (scn < floor) × (evicted < published) × IsBefore timeline evicted floor
IsMissed timeline evicted published scn (misses.Empty tail) = (tail ≤ scn) × ((evicted < published) ⊎ (published ≡ 0)) × IsBefore timeline published tail
IsMissed timeline evicted published scn misses.Again = Unit {0}

-- its number is an SCN, or 0
abbrev pub HasScn : Miss → Type 0
HasScn (misses.NotFound floor) = floor ≤ MAX_SCN
HasScn (misses.Empty tail) = tail ≤ MAX_SCN
HasScn misses.Again = Unit {0}

-- that none was found is this answer of the relay
abbrev pub Misses : Miss → Served → Type 0
Misses (misses.NotFound floor) answer = answer ≡ NotFound floor
Misses (misses.Empty tail) answer = answer ≡ Empty tail
Misses misses.Again answer = Unit {0}

-- numbers at which a ring answers: such as a pass may have seen, with a window between them, or none was published
pub record IsLawful (timeline : Option (List Span)) (pass : PassIs) : Type 0 where
  pub seen : IsSeen pass.home.limits timeline pass.evicted pass.published
  pub some : (pass.evicted < pass.published) ⊎ ((pass.evicted ≡ 0) × (pass.published ≡ 0))

-- a pass has loaded both words, and has not seen lower numbers than it had
pub record HasLooked (old new : PassIs) : Type 0 where
  pub home : new.home ≡ old.home
  pub evicted : old.evicted ≤ new.evicted
  pub published : old.published ≤ new.published
  pub floor_loads : old.floor_loads < new.floor_loads
  pub tail_loads : old.tail_loads < new.tail_loads
