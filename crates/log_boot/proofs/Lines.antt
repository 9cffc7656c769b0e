-- The windows of a log on disks follow its floor and each other up to the newest one; and where they are a part of a timeline's.
use Rattle.std.proofs.Common.{◌≡◌, ◌∙◌, inl, inr, ℕ, ◌≤◌, true, List, [], ◌∷◌, sym, ap, subst, refl}
use Rattle.bus_types.specs.Window.{Span}
use Rattle.bus_types.specs.Timeline.{IsTimeline, IsTimelineFrom, end_from, windows_between}
use Rattle.bus_types.specs.Relay.{is_place}
use Rattle.bus_types.proofs.Stretches.{timelines_joined, end_from-append}
use Rattle.bootstrap_core.proofs.StretchEnds.{between_within, floor_place, stretch_end_place}
use Rattle.log_store.specs.Log.{IsIn, AreJoined, windows_of, Run, end_of_run, HoldLog}

-- ---- they follow each other

module _ (runs : ℕ → Run) where
  runs_line : (low high : ℕ) (is : List ℕ) → ((i : ℕ) → IsIn i is → IsTimelineFrom (runs i).from (runs i).windows)
      → AreJoined (λ i. (runs i).from) (λ i. end_of_run (runs i)) low is high
      → IsTimelineFrom low (windows_of (λ i. (runs i).windows) is) × (end_from low (windows_of (λ i. (runs i).windows) is) ≡ high)
  runs_line low high [] each joined = (tt, joined)
  runs_line low high (i ∷ is) each joined =
      let wins = λ (k : ℕ). (runs k).windows in
      let rest = runs_line (end_of_run (runs i)) high is (λ k m. each k (inr m)) joined.1 in
      let ends : end_of_run (runs i) ≡ end_from low (wins i) = ap (λ n. end_from n (wins i)) joined.0 in (
        timelines_joined low (wins i) (windows_of wins is) (subst (λ n. IsTimelineFrom n (wins i)) joined.0 (each i (inl refl))) (subst (λ n. IsTimelineFrom n (windows_of wins is)) ends rest.0),
        end_from-append low (wins i) (windows_of wins is) ∙ ap (λ n. end_from n (windows_of wins is)) (sym ends) ∙ rest.1,
      )

pub log_line : (low high : ℕ) (ws : List Span) (images : List (List ℕ)) → HoldLog low high ws images → IsTimelineFrom low ws × (end_from low ws ≡ high)
log_line low high ws images h =
    let line = runs_line h.runs low high h.order (λ i m. (h.hold.used i m).2.chained) h.joined in
    (subst (IsTimelineFrom low) (sym h.windows) line.0, ap (end_from low) h.windows ∙ line.1)

-- ---- a part of a timeline

-- the windows are the timeline's between two places of it
pub record IsStretch (ws : List Span) (low high : ℕ) (windows : List Span) : Type 0 where
  pub are : windows ≡ windows_between low high ws
  pub low_place : is_place low ws ≡ true
  pub high_place : is_place high ws ≡ true

-- a log with a part of a timeline's windows between its ends
module _ (ws : List Span) (timeline : IsTimeline ws) (floor top : ℕ) (held : List Span) (held_are : held ≡ windows_between floor top ws)
    (low high : ℕ) (windows : List Span) (images : List (List ℕ)) (above : floor ≤ low) (below : high ≤ top)
    (part : windows ≡ windows_between low high held) (holds : HoldLog low high windows images) where
  part_are : windows ≡ windows_between low high ws
  part_are = part ∙ ap (windows_between low high) held_are ∙ between_within floor low high top ws above below

  part_ends : end_from low (windows_between low high ws) ≡ high
  part_ends = ap (end_from low) (sym part_are) ∙ (log_line low high windows images holds).1

  -- it begins at a place
  pub from_low : is_place low ws ≡ true → IsStretch ws low high windows
  from_low place = record { are = part_are; low_place = place; high_place = subst (λ n. is_place n ws ≡ true) part_ends (stretch_end_place low low high ws place) }

  -- or it ends at one
  pub from_high : is_place high ws ≡ true → IsStretch ws low high windows
  from_high place =
      let chained = subst (IsTimelineFrom low) part_are (log_line low high windows images holds).0 in
      record { are = part_are; low_place = floor_place low high ws timeline chained part_ends place; high_place = place }
