-- What a pass finds when it opens a ring after an SCN.
use Rattle.std.specs.Prelude.{◌≡◌, ℕ, ◌<◌, ◌≤◌, List, Option}
use Rattle.bus_types.specs.declared.limits.TheConstants.{MAX_SCN, MAX_WINDOW}
use Rattle.bus_types.specs.Change.{Test}
use Rattle.bus_types.specs.Window.{Span}
use Rattle.bus_types.specs.Cut.{cuts}
use Rattle.bus_types.specs.Relay.{NotFound, Empty, TooSmall, Windows}
use Rattle.range_ring.specs.Belonging.{PassIs}
use Rattle.range_ring.specs.Ranges.{IsRange, IsAnswer}
use Rattle.range_ring.specs.declared.opened.Opened.{Opened}
use Rattle.range_ring.specs.declared.opened.Opened.TheVariants as opened

-- the answer to a pass of these numbers
abbrev pub Opens : {T F : Type 0} → Option (List Span) → PassIs → ℕ → Test → ℕ → F → Opened T F → Type 0
Opens timeline pass scn test max filter (opened.Range range) = (range.filter ≡ filter) × ((position : ℕ) × (windows : List Span) × IsRange timeline position test max range.entries range.size windows × IsAnswer timeline pass scn test max (Windows (cuts test windows)))
Opens timeline pass scn test max filter (opened.NotFound floor) = (scn < floor) × IsAnswer timeline pass scn test max (NotFound floor)
Opens timeline pass scn test max filter (opened.Empty tail) = (tail ≤ scn) × IsAnswer timeline pass scn test max (Empty tail)
Opens timeline pass scn test max filter (opened.TooSmall need) = (max < need) × IsAnswer timeline pass scn test max (TooSmall need)

-- its number is an SCN or 0, or the size of a window, also where no timeline is told
abbrev pub IsWithin : {T F : Type 0} → Opened T F → Type 0
IsWithin (opened.Range range) = Unit {0}
IsWithin (opened.NotFound floor) = floor ≤ MAX_SCN
IsWithin (opened.Empty tail) = tail ≤ MAX_SCN
IsWithin (opened.TooSmall need) = need ≤ MAX_WINDOW
