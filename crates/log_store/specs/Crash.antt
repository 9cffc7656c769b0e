-- What a crash leaves of several disks, of which one at a time moves on.
use Rattle.std.specs.Prelude.{◌≡◌, ℕ, List, length, slice_get, slice_set, Some}
use Rattle.std.proofs.Common.{sym, ◌∙◌}
use Rattle.bus_types.specs.Window.{Span}
use Rattle.bus_types.specs.Timeline.{windows_between}
use Rattle.bus_stores.specs.Log.{Bounds, LieWithin, Weakens}
use Rattle.log_disk.specs.Disk.{DiskState, may_leave}
use Rattle.log_store.specs.Log.{HoldLog}

-- a crash now leaves such bytes of each disk but the one of this number
pub record LeaveBeside {D : Type 0} (state : D → DiskState) (place : ℕ) (disks : List D) (images : List (List ℕ)) : Type 0 where
  pub many : length images ≡ length disks
  pub each : (i : ℕ) (d : D) (c : List ℕ) → (i ≡ place → ⊥) → slice_get disks i ≡ Some d → slice_get images i ≡ Some c
      → may_leave (state d).clock c

-- a crash at any moment while the disk of this number moves on leaves bytes of which P is true
pub record Moves {D : Type 0} (state : D → DiskState) (P : List (List ℕ) → Type 0) (place : ℕ) (old : List D) (new : List D) : Type 0 where
  pub before : D
  pub after : D
  pub stood : slice_get old place ≡ Some before
  pub stands : new ≡ slice_set old place after
  pub left : (images : List (List ℕ)) (c : List ℕ) → LeaveBeside state place old images → slice_get images place ≡ Some c
      → (state after).clock.left_since (state before).clock.moment c → P images

-- a crash now leaves bytes of which P is true
abbrev pub LeaveNow : {D : Type 0} → (D → DiskState) → (List (List ℕ) → Type 0) → List D → Type 0
LeaveNow state P disks = (images : List (List ℕ)) → LeaveBeside state (length disks) disks images → P images

-- a crash at any moment, while one disk moves on after the other or none does, leaves bytes of which P is true
pub data Passes {D : Type 0} (state : D → DiskState) (P : List (List ℕ) → Type 0) : List D → List D → Type 0 where
  Stays : {disks : List D} → LeaveNow state P disks → Passes state P disks disks
  Goes : {olds mids news : List D} → (place : ℕ) → Passes state P olds mids → Moves state P place mids news → Passes state P olds news

-- first these moments, and then those
pub passes_then : {D : Type 0} (state : D → DiskState) (P : List (List ℕ) → Type 0) (olds mids news : List D) → Passes state P olds mids
    → Passes state P mids news → Passes state P olds news
passes_then state P olds mids news p (Passes.Stays now) = p
passes_then state P olds mids news p (Passes.Goes {mids = between} place q moves) =
    Passes.Goes place (passes_then state P olds mids between p q) moves

-- what has P has Q
moves_weaker : {D : Type 0} (state : D → DiskState) (P Q : List (List ℕ) → Type 0) (place : ℕ) (old new : List D)
    → ((images : List (List ℕ)) → P images → Q images) → Moves state P place old new → Moves state Q place old new
moves_weaker state P Q place old new so m = record {
  before = m.before;
  after = m.after;
  stood = m.stood;
  stands = m.stands;
  left = λ images c beside at left. so images (m.left images c beside at left);
}

pub passes_weaker : {D : Type 0} (state : D → DiskState) (P Q : List (List ℕ) → Type 0) (olds news : List D)
    → ((images : List (List ℕ)) → P images → Q images) → Passes state P olds news → Passes state Q olds news
passes_weaker state P Q olds news so (Passes.Stays now) = Passes.Stays (λ images left. so images (now images left))
passes_weaker state P Q olds news so (Passes.Goes {mids = between} place p moves) =
    Passes.Goes place (passes_weaker state P Q olds between so p) (moves_weaker state P Q place between news so moves)

-- ---- a part of a list

-- bytes of disks are a log with the windows of a list between its ends, which lie within bounds
pub record HoldPart (ws : List Span) (b : Bounds) (images : List (List ℕ)) : Type 0 where
  pub low : ℕ
  pub high : ℕ
  pub within : LieWithin b low high
  pub part : List Span
  pub part_is : part ≡ windows_between low high ws
  pub holds : HoldLog low high part images

pub part_weaker : (ws vs : List Span) (b c : Bounds) → Weakens ws vs b c → (images : List (List ℕ)) → HoldPart ws b images
    → HoldPart vs c images
part_weaker ws vs b c w images p = record {
  low = p.low;
  high = p.high;
  within = w.within p.low p.high p.within;
  part = p.part;
  part_is = p.part_is ∙ sym (w.same p.low p.high p.within);
  holds = p.holds;
}
