-- One segment of a list that changes.
use Rattle.std.specs.Prelude.{◌≡◌, ℕ, List, slice_get, slice_set, Some}
use Rattle.log_segment.specs.Segment.{SegmentParts}

-- the segment at a place became another one, and all others stay
pub record Changes {D : Type 0} (step : SegmentParts D → SegmentParts D → Type 0) (place : ℕ) (old new : List (SegmentParts D)) : Type 0 where
  pub before : SegmentParts D
  pub after : SegmentParts D
  pub stood : slice_get old place ≡ Some before
  pub stands : new ≡ slice_set old place after
  pub made : step before after
