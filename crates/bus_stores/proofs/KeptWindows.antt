-- The windows of a log in memory: what is told of them, where those behind an SCN begin, and what is left without the oldest.
use Rattle.std.proofs.Common.{◌≡◌, ℕ, zero, suc, ◌+◌, ◌-◌, ◌<◌, ◌≤◌, max, true, false, leb, nat_lt, List, [], ◌∷◌, ◌++◌, length, take, drop, slice_get, get_or, Some, refl, sym, ap, subst, ◌∙◌, arith, take-append-drop, inl, inr}
use Rattle.std.specs.List.Sorted.{IsPartitionPoint}
use Rattle.std.proofs.lemmas.Bool.{cond-true, cond-false, leb-true, leb-false, lt-ltb, le-ltb, cases_lt}
use Rattle.std.proofs.lemmas.List.{take_all, drop-drop}
use Rattle.std.proofs.lemmas.Option.{same_Some, slice_get_read}
use Rattle.std.proofs.Math.Seq.{take-add}
use Rattle.bus_types.specs.declared.limits.TheConstants.{MAX_SCN}
use Rattle.bus_types.specs.Window.{Span, span_size, IsSpan}
use Rattle.bus_types.specs.Timeline.{IsTimelineFrom, end_from, total_size, windows_between}
use Rattle.bus_types.proofs.Stretches.{Rises, rises_end, rises_take, rises_drop, rises_all, rises_past, rises_before, timeline_rises, timeline-append, timeline-take, end_from-append, end_rises, end_at, between-append, between_in, between_below, between_above, rises_from}
use Rattle.bus_types.proofs.Places.{drop_place}
use Rattle.bus_stores.specs.Log.{IsLog, IsFound, Dropped, first_after}
use Rattle.bus_stores.specs.MemoryLog.{MemoryWindows, AreKept, IsPlaceAfter, log_of, without_front, without_upto}

-- ---- what is told

-- a timeline ends within the limit, if it begins there
end_within : (prev : ℕ) (ws : List Span) → prev ≤ MAX_SCN → IsTimelineFrom prev ws → end_from prev ws ≤ MAX_SCN
end_within prev [] low t = low
end_within prev (w ∷ ws) low t = end_within w.scn ws t.0.within.scn t.1

-- a log whose windows follow each other is one
pub kept_log : (s : MemoryWindows) (size : ℕ) → AreKept s.floor s.windows size s.limit → IsLog (log_of s)
kept_log s size k = record {
  low = end_rises s.floor s.windows k.chained;
  within = end_within s.floor s.windows k.low k.chained;
  holds = record { chained = k.chained; ends = refl };
  roomy = λ n. refl;
}

-- the end of windows is the SCN of the last one
pub end_from-last : (prev count : ℕ) (ws : List Span) (w : Span) → count ≡ length ws → 0 < length ws → w ≡ get_or ws (count - 1) w → end_from prev ws ≡ w.scn
end_from-last prev count ws w all some e =
    let last : suc (count - 1) ≡ length ws = omega arith in
    ap (end_from prev) (sym (take_all (length ws) ws (omega arith)) ∙ ap (λ n. take n ws) (sym last)) ∙ end_at prev (count - 1) ws w (slice_get_read ws count (count - 1) w all (omega arith) e)

-- ---- one window more

total_more : (ws : List Span) (w : Span) → total_size (ws ++ w ∷ []) ≡ total_size ws + span_size w
total_more [] w = omega arith
total_more (v ∷ ws) w = omega (arith, total_more ws w)

-- windows and one that follows them are kept, where there is room
pub kept_more : (floor : ℕ) (ws : List Span) (size limit : ℕ) (w : Span) → AreKept floor ws size limit → w.prev ≡ end_from floor ws → 0 < length w.changes → IsSpan w → size + span_size w ≤ limit → AreKept floor (ws ++ w ∷ []) (size + span_size w) limit
kept_more floor ws size limit w k chained full within room = record {
  chained = timeline-append floor ws w k.chained (record { chained = chained; full = full; within = within });
  low = k.low;
  bytes = omega (arith, k.bytes, total_more ws w);
  room = room;
}

-- ---- the oldest windows less

pub front_none : (s : MemoryWindows) → without_front 0 s ≡ s
front_none s = refl

-- one more of the oldest
pub front_more : (n : ℕ) (s : MemoryWindows) → without_front 1 (without_front n s) ≡ without_front (n + 1) s
front_more n s =
    let kept = drop-drop 1 n s.windows in
    let front = sym (end_from-append s.floor (take n s.windows) (take 1 (drop n s.windows))) ∙ ap (end_from s.floor) (sym (take-add n 1 s.windows)) in
    λ i. record s { windows = kept i; floor = front i }

-- the windows behind the oldest are those behind the SCN of the last of these
behind_front : (prev n : ℕ) (ws : List Span) → Rises prev ws → drop n ws ≡ windows_between (end_from prev (take n ws)) (end_from prev ws) ws
behind_front prev n ws r =
    let front = take n ws in
    let back = drop n ws in
    let low = end_from prev front in
    let high = end_from prev ws in
    let ends : end_from prev ws ≡ end_from low back = ap (end_from prev) (sym (take-append-drop n ws)) ∙ end_from-append prev front back in
    sym (ap (windows_between low high) (sym (take-append-drop n ws)) ∙ between-append low high front back
    ∙ (λ i. rises_past prev low high front (rises_take prev n ws r) (omega arith) i ++ rises_all low low high back (rises_drop prev n ws r) (omega arith) (omega arith) i))

-- a log without its windows up to an SCN
pub front_dropped : (scn n : ℕ) (s : MemoryWindows) → IsTimelineFrom s.floor s.windows → IsPlaceAfter scn s.floor s.windows n → Dropped scn (log_of s) (log_of (without_front n s))
front_dropped scn n s t p = record {
  later = end_rises s.floor (take n s.windows) (timeline-take s.floor n s.windows t);
  upto = p.upto;
  high = sym (end_from-append s.floor (take n s.windows) (drop n s.windows)) ∙ ap (end_from s.floor) (take-append-drop n s.windows);
  windows = ap Some (behind_front s.floor n s.windows (timeline_rises s.floor s.windows t));
}

-- it is the log without them
pub front_upto : (scn n : ℕ) (s : MemoryWindows) → IsPlaceAfter scn s.floor s.windows n → without_front n s ≡ without_upto scn s
front_upto scn n s p = λ i. record s { windows = p.behind i; floor = end_from s.floor (p.front i) }

-- ---- places

place_upto : (prev scn : ℕ) (ws : List Span) (i : ℕ) → IsPartitionPoint (λ (w : Span). leb w.scn scn ≡ true) (λ (w : Span). leb w.scn scn ≡ false) ws i → end_from prev (take i ws) ≤ max prev scn
place_upto prev scn [] zero p = omega arith
place_upto prev scn [] (suc i) p = omega arith
place_upto prev scn (w ∷ ws) zero p = omega arith
place_upto prev scn (w ∷ ws) (suc i) p =
    let within : w.scn ≤ scn = leb-true w.scn scn (p.0 0 w (omega arith) (omega arith)) in
    let rest = place_upto w.scn scn ws i (λ k d low high. p.0 (suc k) d (omega arith) (omega arith), λ k d low high. p.1 (suc k) d (omega arith) (omega arith)) in
    omega arith

take_place : (prev scn : ℕ) (ws : List Span) (i : ℕ) → Rises prev ws → IsPartitionPoint (λ (w : Span). leb w.scn scn ≡ true) (λ (w : Span). leb w.scn scn ≡ false) ws i → take i ws ≡ windows_between prev scn ws
take_place prev scn [] zero r p = refl
take_place prev scn [] (suc i) r p = refl
take_place prev scn (w ∷ ws) zero r p =
    let above : scn < w.scn = leb-false w.scn scn (p.1 0 w (omega arith) (omega arith)) in
    sym (between_above prev scn w ws above ∙ rises_before w.scn prev scn ws r.1 (omega arith))
take_place prev scn (w ∷ ws) (suc i) r p =
    let within : w.scn ≤ scn = leb-true w.scn scn (p.0 0 w (omega arith) (omega arith)) in
    let rest = take_place w.scn scn ws i r.1 (λ k d low high. p.0 (suc k) d (omega arith) (omega arith), λ k d low high. p.1 (suc k) d (omega arith) (omega arith)) in
    ap (λ kept. w ∷ kept) (rest ∙ rises_from w.scn w.scn prev scn ws r.1 (omega arith) (omega arith)) ∙ sym (between_in prev scn w ws r.0 within)

-- the place that parts the windows at or below an SCN from those above it
pub place_is : (scn floor : ℕ) (ws : List Span) (i : ℕ) → Rises floor ws → IsPartitionPoint (λ (w : Span). leb w.scn scn ≡ true) (λ (w : Span). leb w.scn scn ≡ false) ws i → IsPlaceAfter scn floor ws i
place_is scn floor ws i r p = record { front = take_place floor scn ws i r p; behind = drop_place floor scn ws i r p; upto = place_upto floor scn ws i p }

slice_get-drop : (ws : List Span) (i : ℕ) → slice_get ws i ≡ slice_get (drop i ws) 0
slice_get-drop [] zero = refl
slice_get-drop [] (suc i) = refl
slice_get-drop (w ∷ ws) zero = refl
slice_get-drop (w ∷ ws) (suc i) = slice_get-drop ws i

-- ---- the oldest window behind an SCN

-- it is the first of those behind the SCN
after_first : (prev scn : ℕ) (ws : List Span) → Rises prev ws → slice_get (windows_between scn (end_from prev ws) ws) 0 ≡ first_after scn ws
after_first prev scn [] r = refl
after_first prev scn (w ∷ ws) r =
    let high = end_from w.scn ws in
    elim (cases_lt scn w.scn) [
      | inl l ↦
          let ends = rises_end w.scn ws r.1 in
          ap (λ (l : List Span). slice_get l 0) (between_in scn high w ws l (omega arith)) ∙ sym (cond-true (nat_lt scn w.scn) (Some w) (first_after scn ws) (lt-ltb scn w.scn l))
      | inr l ↦ ap (λ (l : List Span). slice_get l 0) (between_below scn high w ws l) ∙ after_first w.scn scn ws r.1 ∙ sym (cond-false (nat_lt scn w.scn) (Some w) (first_after scn ws) (le-ltb scn w.scn l))
    ]

-- it stands where those behind the SCN begin
pub first_at : (scn floor : ℕ) (ws : List Span) (i : ℕ) → Rises floor ws → IsPlaceAfter scn floor ws i → slice_get ws i ≡ first_after scn ws
first_at scn floor ws i r p = slice_get-drop ws i ∙ ap (λ (l : List Span). slice_get l 0) p.behind ∙ after_first floor scn ws r

-- it is behind the SCN, and there is none only where no window is
pub first_found : (prev scn : ℕ) (ws : List Span) → IsTimelineFrom prev ws → prev ≤ scn → IsFound scn (end_from prev ws) (first_after scn ws)
first_found prev scn [] t low = record { window = tt; none = low }
first_found prev scn (w ∷ ws) t low =
    let high = end_from w.scn ws in
    let r = timeline_rises prev (w ∷ ws) t in
    elim (cases_lt scn w.scn) [
      | inl l ↦
          let found : IsFound scn high (Some w) = record { window = (l, rises_end w.scn ws r.1); none = tt } in
          subst (IsFound scn high) (sym (cond-true (nat_lt scn w.scn) (Some w) (first_after scn ws) (lt-ltb scn w.scn l))) found
      | inr l ↦ subst (IsFound scn high) (sym (cond-false (nat_lt scn w.scn) (Some w) (first_after scn ws) (le-ltb scn w.scn l))) (first_found w.scn scn ws t.1 l)
    ]

-- the windows behind an SCN are the oldest of them and those behind it
pub between_first : (prev scn : ℕ) (ws : List Span) (w : Span) → Rises prev ws → scn < w.scn → first_after scn ws ≡ Some w → windows_between scn (end_from prev ws) ws ≡ w ∷ windows_between w.scn (end_from prev ws) ws
between_first prev scn [] w r h e = absurd cc
between_first prev scn (v ∷ ws) w r h e =
    let high = end_from v.scn ws in
    let ends = rises_end v.scn ws r.1 in
    elim (cases_lt scn v.scn) [
      | inl l ↦
          let same : v ≡ w = same_Some v w (sym (cond-true (nat_lt scn v.scn) (Some v) (first_after scn ws) (lt-ltb scn v.scn l)) ∙ e) in
          between_in scn high v ws l (omega arith) ∙ ap (λ kept. v ∷ kept) (rises_from v.scn scn v.scn high ws r.1 (omega arith) (omega arith) ∙ sym (between_below v.scn high v ws (omega arith)))
          ∙ ap (λ (u : Span). u ∷ windows_between u.scn high (v ∷ ws)) same
      | inr l ↦
          let later = sym (cond-false (nat_lt scn v.scn) (Some v) (first_after scn ws) (le-ltb scn v.scn l)) ∙ e in
          between_below scn high v ws l ∙ between_first v.scn scn ws w r.1 h later ∙ ap (λ kept. w ∷ kept) (sym (between_below w.scn high v ws (omega arith)))
    ]
