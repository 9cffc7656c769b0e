-- What is read of a log.
use Rattle.std.specs.Prelude.{◌≡◌, ℕ, ◌<◌, ◌≤◌, List, [], ◌∷◌, flat_map, Option, Some, None, IfSome, Result}
use Rattle.bus_types.specs.declared.row.Cursor.{Cursor}
use Rattle.bus_types.specs.Change.{Test}
use Rattle.bus_types.specs.Window.{Span}
use Rattle.bus_types.specs.Timeline.{windows_between}
use Rattle.bus_types.specs.Latest.{Latest}
use Rattle.bus_stores.specs.declared.log.LogFault.{LogFault}
use Rattle.bus_stores.specs.Log.{LogState, LogCounts, SameLog, OnFull}
use Rattle.bus_stores.specs.Following.{RiseBetween}
use Rattle.delta_consolidate.specs.Latest.{kept_after}

-- calls that only read a log, and never answer `Full`
pub record OnlyReads {X : Type 0} (old new : LogState) (result : Result X LogFault) : Type 0 where
  pub counts : LogCounts old new result
  pub same : SameLog old new
  pub roomy : OnFull result ⊥

-- the oldest window behind an SCN, up to another, is found among windows
abbrev pub IsNext : ℕ → ℕ → List Span → Option Span → Type 0
IsNext at target ws None = windows_between at target ws ≡ []
IsNext at target ws (Some w) = windows_between at target ws ≡ w ∷ windows_between w.scn target ws

-- a read of that window
pub record FindsNext (at target : ℕ) (old : LogState) (found : Option Span) : Type 0 where
  pub within : IfSome found (λ w. (at < w.scn) × (w.scn ≤ target))
  pub told : IfSome old.windows (λ ws. IsNext at target ws found)

-- the last changes were taken from windows between two SCNs; where the log tells its windows, from all of those
pub record GatheredFrom (test : Test) (cursor : Cursor) (most since target : ℕ) (log : LogState) (es : Latest) : Type 0 where
  pub windows : List Span
  pub rising : RiseBetween since target windows
  pub some : es ≡ kept_after test cursor most [] (flat_map (λ w. w.changes) windows)
  pub all : IfSome log.windows (λ ws. windows ≡ windows_between since target ws)
