-- When a count has risen.
use Rattle.std.specs.Prelude.{ℕ, ◌+◌, ◌-◌, ◌<◌, ◌≤◌, ◌^◌, min, Result, OnErr}

-- a count of faults, which has no end, has risen
abbrev pub Rose : ℕ → ℕ → Type 0
Rose before now = before < now

-- a number of calls has risen, or stands at its type's end
abbrev pub WasCounted : ℕ → ℕ → Type 0
WasCounted before now = min (before + 1) (2 ^ 64 - 1) ≤ now

-- a call of an object that counts its faults: the count never falls, and an error comes only where it rose
pub record HasCause {T E : Type 0} (before now : ℕ) (result : Result T E) : Type 0 where
  pub later : before ≤ now
  pub failed : OnErr result (Rose before now)
