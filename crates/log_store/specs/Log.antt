-- What the bytes of disks mean as one log.
use Rattle.std.specs.Prelude.{◌≡◌, ◌⊎◌, ℕ, ◌<◌, ◌==◌, if◌then◌else◌, List, [], ◌∷◌, flat_map, slice_get, Option, Some, None}
use Rattle.bus_types.specs.Window.{Span}
use Rattle.bus_types.specs.Timeline.{end_from}
use Rattle.log_segment.specs.Image.{IsFree, HoldsInUse}
use Rattle.log_segment.specs.Faults.{IsBadAt}

-- ---- an order of segments

-- a number is one of these
abbrev pub IsIn : ℕ → List ℕ → Type 0
IsIn i [] = ⊥
IsIn i (j ∷ js) = (i ≡ j) ⊎ IsIn i js

-- one begins at a lower SCN than the other, or at the same one on a disk of a lower number
abbrev pub IsBefore : (ℕ → ℕ) → ℕ → ℕ → Type 0
IsBefore from i j = (from i < from j) ⊎ ((from i ≡ from j) × (i < j))

-- one is before all of these
abbrev pub IsBeforeAll : (ℕ → ℕ) → ℕ → List ℕ → Type 0
IsBeforeAll from i [] = Unit {0}
IsBeforeAll from i (j ∷ js) = IsBefore from i j × IsBeforeAll from i js

-- each is before all those that stand behind it
abbrev pub AreInOrder : (ℕ → ℕ) → List ℕ → Type 0
AreInOrder from [] = Unit {0}
AreInOrder from (i ∷ is) = IsBeforeAll from i is × AreInOrder from is

-- each begins where the one before ends, the first one at an SCN and the last one's end is another
abbrev pub AreJoined : (from to : ℕ → ℕ) → ℕ → List ℕ → ℕ → Type 0
AreJoined from to low [] high = low ≡ high
AreJoined from to low (i ∷ is) high = (from i ≡ low) × AreJoined from to (to i) is high

-- the first of them that doesn't begin where the one before ends, the first one at an SCN
abbrev pub apart_behind : (from to : ℕ → ℕ) → ℕ → List ℕ → Option ℕ
apart_behind from to low [] = None
apart_behind from to low (i ∷ is) = if from i == low then apart_behind from to (to i) is else Some i

-- the first of them that doesn't begin where the one before ends
abbrev pub first_apart : (from to : ℕ → ℕ) → List ℕ → Option ℕ
first_apart from to [] = None
first_apart from to (i ∷ is) = apart_behind from to (to i) is

-- ---- the log

-- a segment in use: the SCN behind which its windows begin, and these
pub record Run : Type 0 where
  pub from : ℕ
  pub windows : List Span

abbrev pub end_of_run : Run → ℕ
end_of_run r = end_from r.from r.windows

-- the windows of runs, in this order
abbrev pub windows_of : (ℕ → List Span) → List ℕ → List Span
windows_of windows order = flat_map windows order

-- bytes of disks are segments: the disks of these numbers hold these runs, in order, and all others a segment that isn't in use
pub record HoldRuns (runs : ℕ → Run) (order : List ℕ) (images : List (List ℕ)) : Type 0 where
  pub used : (i : ℕ) → IsIn i order → (bytes : List ℕ) × (slice_get images i ≡ Some bytes)
      × HoldsInUse (runs i).from (runs i).windows bytes
  pub free : (i : ℕ) (bytes : List ℕ) → slice_get images i ≡ Some bytes → (IsIn i order → ⊥) → IsFree bytes
  pub sorted : AreInOrder (λ i. (runs i).from) order

-- bytes of disks are a log with these windows between its ends; without a segment in use it begins at 0
pub record HoldLog (low high : ℕ) (ws : List Span) (images : List (List ℕ)) : Type 0 where
  pub runs : ℕ → Run
  pub order : List ℕ
  pub hold : HoldRuns runs order images
  pub joined : AreJoined (λ i. (runs i).from) (λ i. end_of_run (runs i)) low order high
  pub empty : order ≡ [] → low ≡ 0
  pub windows : ws ≡ windows_of (λ i. (runs i).windows) order

-- ---- what is no log

-- bytes are a segment, in use or not
abbrev pub IsGood : List ℕ → Type 0
IsGood bytes = IsFree bytes ⊎ ((from : ℕ) × (ws : List Span) × HoldsInUse from ws bytes)

-- the first disk that holds no segment is this one, and its bytes are at fault at this place
pub record IsFirstBad (segment place : ℕ) (images : List (List ℕ)) : Type 0 where
  pub bytes : List ℕ
  pub stands : slice_get images segment ≡ Some bytes
  pub bad : IsBadAt place bytes
  pub before : (i : ℕ) (other : List ℕ) → i < segment → slice_get images i ≡ Some other → IsGood other

-- each disk holds a segment, and the first that doesn't begin where the one before ends is this one
pub record IsFirstApart (segment : ℕ) (images : List (List ℕ)) : Type 0 where
  pub runs : ℕ → Run
  pub order : List ℕ
  pub hold : HoldRuns runs order images
  pub apart : first_apart (λ i. (runs i).from) (λ i. end_of_run (runs i)) order ≡ Some segment

-- the segment of a disk is at fault at a place, which is that of its SCN where its windows don't follow
abbrev pub AreBadAt : (segment place : ℕ) → List (List ℕ) → Type 0
AreBadAt segment place images = IsFirstBad segment place images ⊎ ((place ≡ 9) × IsFirstApart segment images)
