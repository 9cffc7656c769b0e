-- Stretches of windows: those between two SCNs, of a list whose SCNs rise and of a timeline.
use Rattle.std.proofs.Common.{◌≡◌, ℕ, zero, suc, ◌+◌, ◌<◌, ◌≤◌, inl, inr, cond, ◌&&◌, nat_lt, nat_le, List, [], ◌∷◌, ◌++◌, append-nil, length, take, drop, slice_get, flat_map, Some, refl, sym, ap, subst, ◌∙◌, arith, take-append-drop}
use Rattle.std.proofs.lemmas.Bool.{cond-true, cond-false, and_from, and_left, and_right, lt-ltb, le-ltb, le-leb, lt-leb, cases_lt}
use Rattle.std.proofs.lemmas.List.{drop_at, take_all, take-map}
use Rattle.std.proofs.lemmas.List.Elements.{filter-append}
use Rattle.std.proofs.lemmas.List.Concat.{flat_map-append}
use Rattle.bus_types.specs.declared.change.Change.{Change}
use Rattle.bus_types.specs.Change.{Test, accepted}
use Rattle.bus_types.specs.Window.{Span, IsSpan}
use Rattle.bus_types.specs.Timeline.{Follows, IsTimelineFrom, IsTimeline, end_from, end_of, windows_between, changes_between}
use Rattle.bus_types.specs.Table.{rows_after, table}
use Rattle.bus_types.specs.View.{shown, view}
use Rattle.bus_types.specs.Cut.{cut, cuts}
use Rattle.bus_types.proofs.TableLaws.{rows_after-append, table-ordered, shown-after}

-- windows above an SCN, whose SCNs rise strictly
abbrev pub Rises : ℕ → List Span → Type 0
Rises prev [] = Unit {0}
Rises prev (w ∷ ws) = (prev < w.scn) × Rises w.scn ws

-- ---- the first window against the bounds

-- a window within the bounds is the first
pub between_in : (low high : ℕ) (w : Span) (ws : List Span) → low < w.scn → w.scn ≤ high → windows_between low high (w ∷ ws) ≡ w ∷ windows_between low high ws
between_in low high w ws l h = cond-true (nat_lt low w.scn && nat_le w.scn high) _ _ (and_from _ _ (lt-ltb low w.scn l) (le-leb w.scn high h))

-- a window at or below the lower bound is left out
pub between_below : (low high : ℕ) (w : Span) (ws : List Span) → w.scn ≤ low → windows_between low high (w ∷ ws) ≡ windows_between low high ws
between_below low high w ws l = cond-false (nat_lt low w.scn && nat_le w.scn high) _ _ (and_left _ _ (le-ltb low w.scn l))

-- a window above the upper bound is left out
pub between_above : (low high : ℕ) (w : Span) (ws : List Span) → high < w.scn → windows_between low high (w ∷ ws) ≡ windows_between low high ws
between_above low high w ws h = cond-false (nat_lt low w.scn && nat_le w.scn high) _ _ (and_right _ _ (lt-leb w.scn high h))

-- the three cases of a first window
pub between_cases : (P : List Span → Type 0) (low high : ℕ) (w : Span) (ws : List Span) → (low < w.scn → w.scn ≤ high → P (w ∷ windows_between low high ws)) → (w.scn ≤ low → P (windows_between low high ws)) → (high < w.scn → P (windows_between low high ws)) → P (windows_between low high (w ∷ ws))
between_cases P low high w ws inside below above =
    elim (cases_lt low w.scn) [
      | inl l ↦ elim (cases_lt high w.scn) [
        | inl h ↦ subst P (sym (between_above low high w ws h)) (above h)
        | inr h ↦ subst P (sym (between_in low high w ws l h)) (inside l h)
      ]
      | inr l ↦ subst P (sym (between_below low high w ws l)) (below l)
    ]

-- no window is between SCNs of which the upper one is not above the lower one
pub between_none : (low high : ℕ) (ws : List Span) → high ≤ low → windows_between low high ws ≡ []
between_none low high [] h = refl
between_none low high (w ∷ ws) h =
    let none = between_none low high ws h in
    between_cases (λ l. l ≡ []) low high w ws (λ l u. absurd (omega arith)) (λ l. none) (λ u. none)

-- windows in two parts
pub between-append : (low high : ℕ) (xs ys : List Span) → windows_between low high (xs ++ ys) ≡ windows_between low high xs ++ windows_between low high ys
between-append low high xs ys = filter-append (λ (w : Span). nat_lt low w.scn && nat_le w.scn high) xs ys

-- the changes of windows in two parts
pub changes_between-append : (low high : ℕ) (xs ys : List Span) → changes_between low high (xs ++ ys) ≡ changes_between low high xs ++ changes_between low high ys
changes_between-append low high xs ys = ap (flat_map (λ (w : Span). w.changes)) (between-append low high xs ys) ∙ flat_map-append (λ (w : Span). w.changes) (windows_between low high xs) (windows_between low high ys)

-- ---- where windows end

-- the end of windows in two parts
pub end_from-append : (prev : ℕ) (xs ys : List Span) → end_from prev (xs ++ ys) ≡ end_from (end_from prev xs) ys
end_from-append prev [] ys = refl
end_from-append prev (x ∷ xs) ys = end_from-append x.scn xs ys

-- rising windows end at or after the SCN before them
pub rises_end : (prev : ℕ) (ws : List Span) → Rises prev ws → prev ≤ end_from prev ws
rises_end prev [] r = omega arith
rises_end prev (w ∷ ws) r =
    let rest = rises_end w.scn ws r.1 in
    omega arith

-- the windows between two SCNs end at or before the upper one
pub between_end : (start low high : ℕ) (ws : List Span) → start ≤ high → end_from start (windows_between low high ws) ≤ high
between_end start low high [] h = h
between_end start low high (w ∷ ws) h =
    let rest = between_end start low high ws h in
    between_cases (λ l. end_from start l ≤ high) low high w ws (λ l u. between_end w.scn low high ws u) (λ l. rest) (λ u. rest)

-- ---- rising windows

-- rising windows rise above a lower SCN too
pub rises_lower : (low prev : ℕ) (ws : List Span) → low ≤ prev → Rises prev ws → Rises low ws
rises_lower low prev [] l r = tt
rises_lower low prev (w ∷ ws) l r = (omega arith, r.1)

-- a front of rising windows rises
pub rises_take : (prev n : ℕ) (ws : List Span) → Rises prev ws → Rises prev (take n ws)
rises_take prev zero ws r = tt
rises_take prev (suc n) [] r = tt
rises_take prev (suc n) (w ∷ ws) r = (r.0, rises_take w.scn n ws r.1)

-- the windows behind a front of rising windows rise above its end
pub rises_drop : (prev n : ℕ) (ws : List Span) → Rises prev ws → Rises (end_from prev (take n ws)) (drop n ws)
rises_drop prev zero ws r = r
rises_drop prev (suc n) [] r = tt
rises_drop prev (suc n) (w ∷ ws) r = rises_drop w.scn n ws r.1

-- no rising window is between SCNs at or below the one before them
pub rises_before : (prev low high : ℕ) (ws : List Span) → Rises prev ws → high ≤ prev → windows_between low high ws ≡ []
rises_before prev low high [] r h = refl
rises_before prev low high (w ∷ ws) r h = between_above low high w ws (omega arith) ∙ rises_before w.scn low high ws r.1 (omega arith)

-- no rising window is between SCNs at or above their end
pub rises_past : (prev low high : ℕ) (ws : List Span) → Rises prev ws → end_from prev ws ≤ low → windows_between low high ws ≡ []
rises_past prev low high [] r l = refl
rises_past prev low high (w ∷ ws) r l =
    let ends = rises_end w.scn ws r.1 in
    between_below low high w ws (omega arith) ∙ rises_past w.scn low high ws r.1 l

-- all rising windows are between an SCN at or below the one before them and one at or above their end
pub rises_all : (prev low high : ℕ) (ws : List Span) → Rises prev ws → low ≤ prev → end_from prev ws ≤ high → windows_between low high ws ≡ ws
rises_all prev low high [] r l h = refl
rises_all prev low high (w ∷ ws) r l h =
    let ends = rises_end w.scn ws r.1 in
    between_in low high w ws (omega arith) (omega arith) ∙ ap (λ rest. w ∷ rest) (rises_all w.scn low high ws r.1 (omega arith) h)

-- lower bounds at or below the SCN before rising windows give the same
pub rises_from : (prev low other high : ℕ) (ws : List Span) → Rises prev ws → low ≤ prev → other ≤ prev → windows_between low high ws ≡ windows_between other high ws
rises_from prev low other high [] r l o = refl
rises_from prev low other high (w ∷ ws) r l o =
    let rest = rises_from w.scn low other high ws r.1 (omega arith) (omega arith) in
    elim (cases_lt high w.scn) [
      | inl h ↦ between_above low high w ws h ∙ rest ∙ sym (between_above other high w ws h)
      | inr h ↦ between_in low high w ws (omega arith) h ∙ ap (λ kept. w ∷ kept) rest ∙ sym (between_in other high w ws (omega arith) h)
    ]

-- the windows between two SCNs, split at an SCN between them
pub rises_split : (prev low mid high : ℕ) (ws : List Span) → Rises prev ws → low ≤ mid → mid ≤ high → windows_between low high ws ≡ windows_between low mid ws ++ windows_between mid high ws
rises_split prev low mid high [] r l h = refl
rises_split prev low mid high (w ∷ ws) r l h =
    let rest = rises_split w.scn low mid high ws r.1 l h in
    elim (cases_lt mid w.scn) [
      | inl m ↦
          let none = between_above low mid w ws m ∙ rises_before w.scn low mid ws r.1 (omega arith) in
          rises_from mid low mid high (w ∷ ws) (m, r.1) l (omega arith) ∙ ap (λ front. front ++ windows_between mid high (w ∷ ws)) (sym none)
      | inr m ↦ elim (cases_lt low w.scn) [
        | inl k ↦ between_in low high w ws k (omega arith) ∙ ap (λ kept. w ∷ kept) rest ∙ sym (λ i. between_in low mid w ws k m i ++ between_below mid high w ws m i)
        | inr k ↦ between_below low high w ws k ∙ rest ∙ sym (λ i. between_below low mid w ws k i ++ between_below mid high w ws m i)
      ]
    ]

-- of rising windows, those between two SCNs rise above the SCN before all
pub rises_between : (prev low high : ℕ) (ws : List Span) → Rises prev ws → Rises prev (windows_between low high ws)
rises_between prev low high [] r = tt
rises_between prev low high (w ∷ ws) r =
    let rest = rises_between w.scn low high ws r.1 in
    let lower = rises_lower prev w.scn (windows_between low high ws) (omega arith) rest in
    between_cases (Rises prev) low high w ws (λ l h. (r.0, rest)) (λ l. lower) (λ h. lower)

-- of rising windows, those between two SCNs rise above the lower one
pub between_rises : (prev low high : ℕ) (ws : List Span) → Rises prev ws → Rises low (windows_between low high ws)
between_rises prev low high [] r = tt
between_rises prev low high (w ∷ ws) r =
    let rest = between_rises w.scn low high ws r.1 in
    between_cases (Rises low) low high w ws (λ l h. (l, rises_between w.scn low high ws r.1)) (λ l. rest) (λ h. rest)

-- of rising windows, those up to the SCN of the n-th are the first n
pub rises_upto_place : (prev n : ℕ) (ws : List Span) → Rises prev ws → windows_between prev (end_from prev (take n ws)) ws ≡ take n ws
rises_upto_place prev n ws r =
    let front = take n ws in
    let back = drop n ws in
    let end = end_from prev front in
    ap (windows_between prev end) (sym (take-append-drop n ws)) ∙ between-append prev end front back
    ∙ (λ i. rises_all prev prev end front (rises_take prev n ws r) (omega arith) (omega arith) i ++ rises_before end prev end back (rises_drop prev n ws r) (omega arith) i)
    ∙ append-nil front

-- of the windows between two SCNs, those up to an earlier SCN
pub between-between : (low mid high : ℕ) (ws : List Span) → mid ≤ high → windows_between low mid (windows_between low high ws) ≡ windows_between low mid ws
between-between low mid high [] h = refl
between-between low mid high (w ∷ ws) h =
    let rest = between-between low mid high ws h in
    between_cases (λ l. windows_between low mid l ≡ windows_between low mid (w ∷ ws)) low high w ws
    (λ l u. ap (λ kept. cond (nat_lt low w.scn && nat_le w.scn mid) (w ∷ kept) kept) rest)
    (λ l. rest ∙ sym (between_below low mid w ws l))
    (λ u. rest ∙ sym (between_above low mid w ws (omega arith)))

-- a front of rising windows ends at or before the end of all
pub rises_front_end : (prev n : ℕ) (ws : List Span) → Rises prev ws → end_from prev (take n ws) ≤ end_from prev ws
rises_front_end prev zero ws r = rises_end prev ws r
rises_front_end prev (suc n) [] r = omega arith
rises_front_end prev (suc n) (w ∷ ws) r = rises_front_end w.scn n ws r.1

-- of rising windows, those from the start of a run to its last SCN are the run
pub rises_run : (prev scn end k : ℕ) (ws : List Span) → Rises prev ws → windows_between scn (end_from scn (take k (windows_between scn end ws))) ws ≡ take k (windows_between scn end ws)
rises_run prev scn end k ws r =
    let stretch = windows_between scn end ws in
    let last = end_from scn (take k stretch) in
    elim (cases_lt end scn) [
      | inl e ↦
          let none = ap (take k) (between_none scn end ws (omega arith)) ∙ take_all k [] (omega arith) in
          subst (λ (run : List Span). windows_between scn (end_from scn run) ws ≡ run) (sym none) (between_none scn scn ws (omega arith))
      | inr e ↦
          let rising = between_rises prev scn end ws r in
          let front = rises_front_end scn k stretch rising in
          let whole = between_end scn scn end ws e in
          sym (between-between scn last end ws (omega arith)) ∙ rises_upto_place scn k stretch rising
    ]

-- of rising windows, those up to an SCN are a front
pub rises_front : (prev high : ℕ) (ws : List Span) → Rises prev ws → windows_between prev high ws ≡ take (length (windows_between prev high ws)) ws
rises_front prev high [] r = refl
rises_front prev high (w ∷ ws) r =
    elim (cases_lt high w.scn) [
      | inl h ↦
          let none = between_above prev high w ws h ∙ rises_before w.scn prev high ws r.1 (omega arith) in
          subst (λ front. front ≡ take (length front) (w ∷ ws)) (sym none) refl
      | inr h ↦
          let more = between_in prev high w ws r.0 h ∙ ap (λ kept. w ∷ kept) (rises_from w.scn prev w.scn high ws r.1 (omega arith) (omega arith)) in
          subst (λ front. front ≡ take (length front) (w ∷ ws)) (sym more) (ap (λ kept. w ∷ kept) (rises_front w.scn high ws r.1))
    ]

-- of rising windows, those between two SCNs by their places
pub rises_is_part : (prev low high : ℕ) (ws : List Span) → Rises prev ws → low ≤ high → windows_between low high ws ≡ drop (length (windows_between prev low ws)) (take (length (windows_between prev high ws)) ws)
rises_is_part prev low high ws r h =
    let front = windows_between prev low ws in
    let rest = windows_between low high ws in
    elim (cases_lt low prev) [
      | inl l ↦
          let none = between_none prev low ws (omega arith) in
          rises_from prev low prev high ws r (omega arith) (omega arith) ∙ rises_front prev high ws r
          ∙ ap (λ (before : List Span). drop (length before) (take (length (windows_between prev high ws)) ws)) (sym none)
      | inr l ↦ sym (ap (drop (length front)) (sym (rises_front prev high ws r) ∙ rises_split prev prev low high ws r l h) ∙ drop_at front rest (length front) refl)
    ]

-- ---- timelines

-- a timeline rises
pub timeline_rises : (prev : ℕ) (ws : List Span) → IsTimelineFrom prev ws → Rises prev ws
timeline_rises prev [] t = tt
timeline_rises prev (w ∷ ws) t = (omega (arith, t.0.chained, t.0.within.prev), timeline_rises w.scn ws t.1)

-- a timeline's windows between two SCNs, split at an SCN between them
pub between-split : (prev low mid high : ℕ) (ws : List Span) → IsTimelineFrom prev ws → low ≤ mid → mid ≤ high → windows_between low high ws ≡ windows_between low mid ws ++ windows_between mid high ws
between-split prev low mid high ws t l h = rises_split prev low mid high ws (timeline_rises prev ws t) l h

-- the changes of a timeline between two SCNs, split at an SCN between them
pub changes_between-split : (prev low mid high : ℕ) (ws : List Span) → IsTimelineFrom prev ws → low ≤ mid → mid ≤ high → changes_between low high ws ≡ changes_between low mid ws ++ changes_between mid high ws
changes_between-split prev low mid high ws t l h = ap (flat_map (λ (w : Span). w.changes)) (between-split prev low mid high ws t l h) ∙ flat_map-append (λ (w : Span). w.changes) (windows_between low mid ws) (windows_between mid high ws)

-- no window of a timeline is between SCNs at or below the one before it
pub between_before : (prev low high : ℕ) (ws : List Span) → IsTimelineFrom prev ws → high ≤ prev → windows_between low high ws ≡ []
between_before prev low high ws t h = rises_before prev low high ws (timeline_rises prev ws t) h

-- no window of a timeline is between SCNs at or above its end
pub between_past : (prev low high : ℕ) (ws : List Span) → IsTimelineFrom prev ws → end_from prev ws ≤ low → windows_between low high ws ≡ []
between_past prev low high ws t l = rises_past prev low high ws (timeline_rises prev ws t) l

-- all windows of a timeline are between an SCN at or below the one before it and one at or above its end
pub between_all : (prev low high : ℕ) (ws : List Span) → IsTimelineFrom prev ws → low ≤ prev → end_from prev ws ≤ high → windows_between low high ws ≡ ws
between_all prev low high ws t l h = rises_all prev low high ws (timeline_rises prev ws t) l h

-- a timeline ends at or after the SCN before it
pub end_rises : (prev : ℕ) (ws : List Span) → IsTimelineFrom prev ws → prev ≤ end_from prev ws
end_rises prev ws t = rises_end prev ws (timeline_rises prev ws t)

-- two timelines of which the second follows the first
pub timelines_joined : (prev : ℕ) (xs ys : List Span) → IsTimelineFrom prev xs → IsTimelineFrom (end_from prev xs) ys → IsTimelineFrom prev (xs ++ ys)
timelines_joined prev [] ys s t = t
timelines_joined prev (x ∷ xs) ys s t = (s.0, timelines_joined x.scn xs ys s.1 t)

-- a timeline and a window that follows it
pub timeline-append : (prev : ℕ) (ws : List Span) (w : Span) → IsTimelineFrom prev ws → Follows (end_from prev ws) w → IsTimelineFrom prev (ws ++ w ∷ [])
timeline-append prev ws w t f = timelines_joined prev ws (w ∷ []) t (f, tt)

-- a front of a timeline is one
pub timeline-take : (prev n : ℕ) (ws : List Span) → IsTimelineFrom prev ws → IsTimelineFrom prev (take n ws)
timeline-take prev zero ws t = tt
timeline-take prev (suc n) [] t = tt
timeline-take prev (suc n) (w ∷ ws) t = (t.0, timeline-take w.scn n ws t.1)

-- the windows behind a front of a timeline are one from the front's end
pub timeline-drop : (prev n : ℕ) (ws : List Span) → IsTimelineFrom prev ws → IsTimelineFrom (end_from prev (take n ws)) (drop n ws)
timeline-drop prev zero ws t = t
timeline-drop prev (suc n) [] t = tt
timeline-drop prev (suc n) (w ∷ ws) t = timeline-drop w.scn n ws t.1

-- the windows of a timeline between two SCNs are one, from the end of those up to the lower SCN
pub between_timeline : (prev low high : ℕ) (ws : List Span) → IsTimelineFrom prev ws → IsTimelineFrom (end_from prev (windows_between prev low ws)) (windows_between low high ws)
between_timeline prev low high [] t = tt
between_timeline prev low high (w ∷ ws) t =
    let r = timeline_rises prev (w ∷ ws) t in
    let next = between_timeline w.scn low high ws t.1 in
    elim (cases_lt low w.scn) [
      | inl l ↦
          let none = between_above prev low w ws l ∙ rises_before w.scn prev low ws r.1 (omega arith) in
          let from = subst (λ front. IsTimelineFrom (end_from w.scn front) (windows_between low high ws)) (rises_before w.scn w.scn low ws r.1 (omega arith)) next in
          subst (λ front. IsTimelineFrom (end_from prev front) (windows_between low high (w ∷ ws))) (sym none)
          (between_cases (IsTimelineFrom prev) low high w ws
          (λ k h. (t.0, from))
          (λ k. absurd (omega arith))
          (λ h. subst (IsTimelineFrom prev) (sym (rises_before w.scn low high ws r.1 (omega arith))) tt))
      | inr l ↦
          let more = between_in prev low w ws r.0 l ∙ ap (λ kept. w ∷ kept) (rises_from w.scn prev w.scn low ws r.1 (omega arith) (omega arith)) in
          subst (λ front. IsTimelineFrom (end_from prev front) (windows_between low high (w ∷ ws))) (sym more)
          (subst (IsTimelineFrom (end_from w.scn (windows_between w.scn low ws))) (sym (between_below low high w ws l)) next)
    ]

-- the windows of a timeline between two SCNs by their places
pub between_is_part : (prev low high : ℕ) (ws : List Span) → IsTimelineFrom prev ws → low ≤ high → windows_between low high ws ≡ drop (length (windows_between prev low ws)) (take (length (windows_between prev high ws)) ws)
between_is_part prev low high ws t h = rises_is_part prev low high ws (timeline_rises prev ws t) h

-- the windows of a timeline up to the SCN of the n-th are the first n
pub between_upto_place : (prev n : ℕ) (ws : List Span) → IsTimelineFrom prev ws → windows_between prev (end_from prev (take n ws)) ws ≡ take n ws
between_upto_place prev n ws t = rises_upto_place prev n ws (timeline_rises prev ws t)

-- the windows of a timeline from the start of a run to its last SCN are the run
pub between_run : (prev scn end k : ℕ) (ws run : List Span) → IsTimelineFrom prev ws → run ≡ take k (windows_between scn end ws) → windows_between scn (end_from scn run) ws ≡ run
between_run prev scn end k ws run t e = subst (λ (front : List Span). windows_between scn (end_from scn front) ws ≡ front) (sym e) (rises_run prev scn end k ws (timeline_rises prev ws t))

-- a run of a timeline's windows between two SCNs ends at or after the lower one
pub run_rises : (prev scn end k : ℕ) (ws run : List Span) → IsTimelineFrom prev ws → run ≡ take k (windows_between scn end ws) → scn ≤ end_from scn run
run_rises prev scn end k ws run t e =
    let rising = rises_take scn k (windows_between scn end ws) (between_rises prev scn end ws (timeline_rises prev ws t)) in
    subst (λ (front : List Span). scn ≤ end_from scn front) (sym e) (rises_end scn (take k (windows_between scn end ws)) rising)

-- and at or before the upper one
pub run_within : (prev scn end k : ℕ) (ws run : List Span) → IsTimelineFrom prev ws → scn ≤ end → run ≡ take k (windows_between scn end ws) → end_from scn run ≤ end
run_within prev scn end k ws run t h e =
    let whole = between_end scn scn end ws h in
    let front = rises_front_end scn k (windows_between scn end ws) (between_rises prev scn end ws (timeline_rises prev ws t)) in
    subst (λ (front : List Span). end_from scn front ≤ end) (sym e) (omega arith)

-- ---- places

-- the window at a place follows those before it
pub follows_at : (prev i : ℕ) (ws : List Span) (w : Span) → IsTimelineFrom prev ws → slice_get ws i ≡ Some w → Follows (end_from prev (take i ws)) w
follows_at prev i [] w t e = absurd (cc)
follows_at prev zero (v ∷ ws) w t e =
    let same : v ≡ w = cc in
    subst (Follows prev) same t.0
follows_at prev (suc i) (v ∷ ws) w t e = follows_at v.scn i ws w t.1 e

-- the windows of a list up to a place end with the window there
pub end_at : (prev i : ℕ) (ws : List Span) (w : Span) → slice_get ws i ≡ Some w → end_from prev (take (suc i) ws) ≡ w.scn
end_at prev i [] w e = absurd (cc)
end_at prev zero (v ∷ ws) w e =
    let same : v ≡ w = cc in
    ap (λ (u : Span). u.scn) same
end_at prev (suc i) (v ∷ ws) w e = end_at v.scn i ws w e

-- a timeline's place is below the SCN of its window, counted from the SCN before the timeline
pub position_above : (prev i : ℕ) (ws : List Span) (w : Span) → IsTimelineFrom prev ws → slice_get ws i ≡ Some w → prev + i < w.scn
position_above prev i [] w t e = absurd (cc)
position_above prev zero (v ∷ ws) w t e =
    let same : v ≡ w = cc in
    let first = timeline_rises prev (v ∷ ws) t in
    let scn : v.scn ≡ w.scn = ap (λ (u : Span). u.scn) same in
    omega arith
position_above prev (suc i) (v ∷ ws) w t e =
    let first = timeline_rises prev (v ∷ ws) t in
    let later = position_above v.scn i ws w t.1 e in
    omega arith

-- a timeline's place is below the SCN of its window
pub position_below_scn : (i : ℕ) (ws : List Span) (w : Span) → IsTimeline ws → slice_get ws i ≡ Some w → i < w.scn
position_below_scn i ws w t e =
    let above = position_above 0 i ws w t e in
    omega arith

-- the window at a place of a timeline is within its limits and has a change
pub told_at : (i : ℕ) (ws : List Span) (w : Span) → IsTimeline ws → slice_get ws i ≡ Some w → IsSpan w × (0 < length w.changes)
told_at i ws w t e =
    let follows = follows_at 0 i ws w t e in
    (follows.within, follows.full)

-- ---- the table and its views

-- a window that follows changes no stretch that ends before it
pub between_stays : (low high : ℕ) (ws : List Span) (w : Span) → Follows (end_of ws) w → high ≤ end_of ws → windows_between low high (ws ++ w ∷ []) ≡ windows_between low high ws
between_stays low high ws w f h =
    let above : high < w.scn = omega (arith, f.chained, f.within.prev) in
    between-append low high ws (w ∷ []) ∙ ap (λ back. windows_between low high ws ++ back) (between_above low high w [] above) ∙ append-nil (windows_between low high ws)

-- a window that follows changes no earlier table
pub table_stays : (ws : List Span) (w : Span) (scn : ℕ) → Follows (end_of ws) w → scn ≤ end_of ws → table (ws ++ w ∷ []) scn ≡ table ws scn
table_stays ws w scn f h = ap (λ stretch. rows_after [] (flat_map (λ (v : Span). v.changes) stretch)) (between_stays 0 scn ws w f h)

-- nor an earlier view
pub view_stays : (test : Test) (ws : List Span) (w : Span) (scn : ℕ) → Follows (end_of ws) w → scn ≤ end_of ws → view test (ws ++ w ∷ []) scn ≡ view test ws scn
view_stays test ws w scn f h = ap (shown test) (table_stays ws w scn f h)

-- a later table is the earlier one after the changes between
pub table_moves : (ws : List Span) (scn last : ℕ) → IsTimeline ws → scn ≤ last → table ws last ≡ rows_after (table ws scn) (changes_between scn last ws)
table_moves ws scn last t h = ap (rows_after []) (changes_between-split 0 0 scn last ws t (omega arith) h) ∙ rows_after-append [] (changes_between 0 scn ws) (changes_between scn last ws)

-- a later view is the earlier one after the accepted changes between
pub view_moves : (test : Test) (ws : List Span) (scn last : ℕ) → IsTimeline ws → scn ≤ last → view test ws last ≡ rows_after (view test ws scn) (accepted test (changes_between scn last ws))
view_moves test ws scn last t h = ap (shown test) (table_moves ws scn last t h) ∙ shown-after test (table ws scn) (changes_between scn last ws) (table-ordered ws scn)

-- the changes of cut windows are those that the filter accepts
pub changes-cuts : (test : Test) (ws : List Span) → flat_map (λ (w : Span). w.changes) (cuts test ws) ≡ accepted test (flat_map (λ (w : Span). w.changes) ws)
changes-cuts test [] = refl
changes-cuts test (w ∷ ws) =
    ap (λ rest. accepted test w.changes ++ rest) (changes-cuts test ws)
    ∙ sym (filter-append (λ (c : Change). test c.source c.key) w.changes (flat_map (λ (v : Span). v.changes) ws))

-- a front of cut windows
pub take-cuts : (test : Test) (n : ℕ) (ws : List Span) → take n (cuts test ws) ≡ cuts test (take n ws)
take-cuts test n ws = take-map (cut test) n ws

-- cut windows end where the windows in full do
pub end_from-cuts : (test : Test) (prev : ℕ) (ws : List Span) → end_from prev (cuts test ws) ≡ end_from prev ws
end_from-cuts test prev [] = refl
end_from-cuts test prev (w ∷ ws) = end_from-cuts test w.scn ws

-- a view moves over a run of cut windows to the run's last SCN
pub view_runs : (test : Test) (scn end k : ℕ) (ws run : List Span) → IsTimeline ws → run ≡ take k (windows_between scn end ws) → rows_after (view test ws scn) (flat_map (λ w. w.changes) (cuts test run)) ≡ view test ws (end_from scn run)
view_runs test scn end k ws run t e =
    ap (rows_after (view test ws scn)) (changes-cuts test run ∙ ap (λ stretch. accepted test (flat_map (λ (w : Span). w.changes) stretch)) (sym (between_run 0 scn end k ws run t e)))
    ∙ sym (view_moves test ws scn (end_from scn run) t (run_rises 0 scn end k ws run t e))
