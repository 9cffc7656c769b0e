-- Where the bytes of a segment are at fault. Of several faults the first one that applies counts.
use Rattle.std.specs.Prelude.{◌≡◌, ℕ, ◌+◌, ◌≤◌, ◌⊎◌, List, [], ◌∷◌, ◌++◌, length, codes}
use Rattle.std.specs.Int.{w64, to_be_bytes}
use Rattle.bus_types.specs.declared.limits.TheConstants.{MAX_SCN}
use Rattle.bus_types.specs.Window.{Span}
use Rattle.bus_types.specs.Timeline.{IsTimelineFrom, end_from}
use Rattle.log_segment.specs.Image.{whole}
use Rattle.log_segment.specs.Reading.{NoRecord}

-- there are no bytes
pub record IsNothing (place : ℕ) (bytes : List ℕ) : Type 0 where
  pub none : bytes ≡ []
  pub place_is : place ≡ 0

-- behind the open gate of the segment the tag doesn't stand
pub record HasNoTag (place : ℕ) (bytes : List ℕ) : Type 0 where
  pub rest : List ℕ
  pub parts : bytes ≡ 165 ∷ rest
  pub wrong : (behind : List ℕ) → rest ≡ codes "DBUSLOG1" ++ behind → ⊥
  pub place_is : place ≡ 1

-- behind the tag no SCN in its range stands whole
pub record HasNoFloor (place : ℕ) (bytes : List ℕ) : Type 0 where
  pub rest : List ℕ
  pub parts : bytes ≡ 165 ∷ (codes "DBUSLOG1" ++ rest)
  pub wrong : (floor : ℕ) (behind : List ℕ) → floor ≤ MAX_SCN → rest ≡ to_be_bytes w64 floor ++ behind → ⊥
  pub place_is : place ≡ 9

-- behind the head or a record no gate follows
pub record HasNoGate (place : ℕ) (bytes : List ℕ) : Type 0 where
  pub floor : ℕ
  pub windows : List Span
  pub low : floor ≤ MAX_SCN
  pub chained : IsTimelineFrom floor windows
  pub parts : bytes ≡ whole floor windows
  pub place_is : place ≡ length (whole floor windows)

-- behind an open gate stands no whole record of a window that follows the one before it
pub record HasNoRecord (place : ℕ) (bytes : List ℕ) : Type 0 where
  pub floor : ℕ
  pub windows : List Span
  pub rest : List ℕ
  pub low : floor ≤ MAX_SCN
  pub chained : IsTimelineFrom floor windows
  pub parts : bytes ≡ whole floor windows ++ 165 ∷ rest
  pub none : NoRecord (end_from floor windows) rest
  pub place_is : place ≡ length (whole floor windows) + 1

-- the bytes are at fault at a place
abbrev pub IsBadAt : ℕ → List ℕ → Type 0
IsBadAt place bytes = IsNothing place bytes ⊎ HasNoTag place bytes ⊎ HasNoFloor place bytes ⊎ HasNoGate place bytes ⊎ HasNoRecord place bytes
