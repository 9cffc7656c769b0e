-- The next windows of a log, read one after the other.
use Rattle.std.specs.Prelude.{◌≡◌, ℕ, ◌<◌, ◌≤◌, List, [], ◌∷◌, length, take, Vec, IfSome, Result, IfOk}
use Rattle.std.specs.Global.{Global}
use Rattle.bus_types.specs.Window.{Span}
use Rattle.bus_types.specs.Timeline.{end_from, windows_between}
use Rattle.bus_stores.specs.declared.log.LogFault.{LogFault}
use Rattle.bus_stores.specs.Log.{LogState, LogCounts, SameLog, OnFull}

-- windows that rise strictly behind an SCN, up to another
abbrev pub RiseBetween : ℕ → ℕ → List Span → Type 0
RiseBetween scn high [] = Unit {0}
RiseBetween scn high (w ∷ ws) = (scn < w.scn) × (w.scn ≤ high) × RiseBetween w.scn high ws

-- what is found behind an SCN up to the newest window: at most so many, and fewer only where none is left
pub record AreFound (scn high most : ℕ) (found : List Span) : Type 0 where
  pub rising : RiseBetween scn high found
  pub few : length found ≤ most
  pub all : length found < most → high ≤ end_from scn found

-- a call that reads the next windows behind an SCN: it changes nothing and never answers `Full`
pub record ReadsWindows (scn most : ℕ) (old new : LogState) (result : Result (Vec Span Global) LogFault) : Type 0 where
  pub counts : LogCounts old new result
  pub same : SameLog old new
  pub found : IfOk result (λ found. AreFound scn old.high most found.items)
  pub told : IfOk result (λ found. IfSome old.windows (λ ws. found.items ≡ take most (windows_between scn old.high ws)))
  pub roomy : OnFull result ⊥
