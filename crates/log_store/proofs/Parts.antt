-- The windows between the ends of a log, of a list that has more.
use Rattle.std.proofs.Common.{◌≡◌, ◌∙◌, ◌≤◌, ℕ, List, [], ◌∷◌, ◌++◌, sym, ap, subst, arith, append-nil}
use Rattle.std.specs.Prelude.{max}
use Rattle.bus_types.specs.Window.{Span}
use Rattle.bus_types.specs.Timeline.{Follows, IsTimelineFrom, end_from, windows_between}
use Rattle.bus_types.proofs.Stretches.{between_all, between_above, between-append, timeline-append, end_from-append, timeline_rises, rises_all, rises_past, Rises}
use Rattle.bus_types.proofs.Floors.{rises_fore, rises_back}
use Rattle.bus_stores.specs.Log.{LogState, at_rest, growing_to, dropping_to}
use Rattle.log_store.specs.Log.{HoldLog}
use Rattle.log_store.specs.Crash.{HoldPart}

module _ (low high : ℕ) (ws : List Span) (chained : IsTimelineFrom low ws) (ends : end_from low ws ≡ high) where
  pub all_part : ws ≡ windows_between low high ws
  all_part = sym (between_all low low high ws chained (omega arith) (omega (arith, ends)))

  module _ (w : Span) (follows : Follows high w) where
    pub old_part : ws ≡ windows_between low high (ws ++ w ∷ [])
    old_part =
        all_part ∙ sym (between-append low high ws (w ∷ []) ∙ ap (λ rest. windows_between low high ws ++ rest) (between_above low high w [] (omega (arith, follows.chained, follows.within.prev))) ∙ append-nil (windows_between low high ws))

    pub longer : IsTimelineFrom low (ws ++ w ∷ [])
    longer = timeline-append low ws w chained (subst (λ h. Follows h w) (sym ends) follows)

    pub longer_ends : end_from low (ws ++ w ∷ []) ≡ w.scn
    longer_ends = end_from-append low ws (w ∷ [])

    pub new_part : ws ++ w ∷ [] ≡ windows_between low w.scn (ws ++ w ∷ [])
    new_part = sym (between_all low low w.scn (ws ++ w ∷ []) longer (omega arith) (omega (arith, longer_ends)))

  pub later_part : (gone rest : List Span) → ws ≡ gone ++ rest → rest ≡ windows_between (end_from low gone) high ws
  later_part gone rest parts =
      let mid = end_from low gone in
      let rising : Rises low (gone ++ rest) = subst (Rises low) parts (timeline_rises low ws chained) in
      let ends_rest : end_from mid rest ≡ high = sym (end_from-append low gone rest) ∙ ap (end_from low) (sym parts) ∙ ends in
      sym (ap (windows_between mid high) parts ∙ between-append mid high gone rest
      ∙ (λ i. rises_past low mid high gone (rises_fore low gone rest rising) (omega arith) i ++ rises_all mid mid high rest (rises_back low gone rest rising) (omega arith) (omega (arith, ends_rest)) i))

module _ (s : LogState) (images : List (List ℕ)) where
  pub at_rest_part : (ws part : List Span) → part ≡ windows_between s.floor s.high ws → HoldLog s.floor s.high part images → HoldPart ws (at_rest s) images
  at_rest_part ws part is holds = record {
    low = s.floor;
    high = s.high;
    within = record { least_floor = omega arith; most_floor = omega arith; least_high = omega arith; most_high = omega arith };
    part = part;
    part_is = is;
    holds = holds;
  }

  pub growing_part : (ws part : List Span) (scn high : ℕ) → s.high ≤ high → high ≤ scn → part ≡ windows_between s.floor high ws → HoldLog s.floor high part images → HoldPart ws (growing_to scn s) images
  growing_part ws part scn high low upto is holds = record {
    low = s.floor;
    high = high;
    within = record { least_floor = omega arith; most_floor = omega arith; least_high = low; most_high = upto };
    part = part;
    part_is = is;
    holds = holds;
  }

  pub dropping_part : (ws part : List Span) (scn floor : ℕ) → s.floor ≤ floor → floor ≤ max s.floor scn → part ≡ windows_between floor s.high ws → HoldLog floor s.high part images → HoldPart ws (dropping_to scn s) images
  dropping_part ws part scn floor low upto is holds = record {
    low = floor;
    high = s.high;
    within = record { least_floor = low; most_floor = upto; least_high = omega arith; most_high = omega arith };
    part = part;
    part_is = is;
    holds = holds;
  }
