-- Commits of which the first ones were passed on.
use Rattle.std.proofs.Common.{◌≡◌, ℕ, ◌+◌, ◌<◌, List, [], ◌∷◌, ◌++◌, length, length-append, drop, take, Option, Some, None, MatchOption, Bor, refl, sym, ap, subst, ◌∙◌, arith}
use Rattle.std.specs.List.{slice_get}
use Rattle.std.specs.Slice.{IsItemAt}
use Rattle.std.proofs.lemmas.List.{append_assoc}
use Rattle.bus_types.specs.Window.{Span, IsSpan}
use Rattle.bus_types.specs.Timeline.{IsTimeline, IsTimelineFrom, end_from, end_of}
use Rattle.bus_types.proofs.Stretches.{end_from-append, between-append, between_past, between_all, timeline-append}
use Rattle.source_db.specs.Queue.{Commits, waiting, IsKept}

-- the two parts of a timeline are two that follow each other
timeline_parts : (prev : ℕ) (xs ys : List Span) → IsTimelineFrom prev (xs ++ ys) → IsTimelineFrom prev xs × IsTimelineFrom (end_from prev xs) ys
timeline_parts prev [] ys t = (tt, t)
timeline_parts prev (x ∷ xs) ys t =
    let rest = timeline_parts x.scn xs ys t.1 in
    ((t.0, rest.0), rest.1)

-- the windows behind those that were passed on are those that wait
pub waiting_is : (past rest : List Span) → IsTimeline (past ++ rest) → waiting (record { windows = past ++ rest; passed = end_of past }) ≡ rest
waiting_is past rest t =
    let parts = timeline_parts 0 past rest t in
    let ends : end_of (past ++ rest) ≡ end_from (end_of past) rest = end_from-append 0 past rest in
    let none = between_past 0 (end_of past) (end_of (past ++ rest)) past parts.0 (omega arith) in
    let all = between_all (end_of past) (end_of past) (end_of (past ++ rest)) rest parts.1 (omega arith) (omega arith) in
    between-append (end_of past) (end_of (past ++ rest)) past rest ∙ (λ i. none i ++ all i)

-- a source with one more window
pub kept_more : (ws : List Span) (last count : ℕ) (w : Span) → IsKept ws last count → w.prev ≡ end_of ws → 0 < length w.changes → IsSpan w → IsKept (ws ++ w ∷ []) w.scn (count + 1)
kept_more ws last count w k chained full within = record {
  timeline = timeline-append 0 ws w k.timeline (record { chained = chained; full = full; within = within });
  end = sym (end_from-append 0 ws (w ∷ []));
  many = omega (arith, k.many, length-append ws (w ∷ []));
  few = omega (arith, k.few, k.end, chained, within.prev);
  small = within.scn;
}

-- what stands in front of the windows that wait
pub front_is : (items ws : List Span) (front : Option (Bor Span)) → ws ≡ items → IsItemAt items 0 front → MatchOption front (ws ≡ []) (λ w. slice_get ws 0 ≡ Some w.now)
front_is [] ws None e h = e
front_is (x ∷ xs) ws None e h = absurd (let short = h.3 in omega arith)
front_is [] ws (Some w) e h = absurd (let some = h.3.0 in omega arith)
front_is (x ∷ xs) ws (Some w) e h =
    let same : w.now ≡ x = h.1 in
    ap (λ (l : List Span). slice_get l 0) e ∙ ap Some (sym same)

-- one window that is passed on waits no more
pub passed_waiting : (q : Commits) (past rest : List Span) (w : Span) → IsTimeline (past ++ w ∷ rest) → waiting q ≡ w ∷ rest → waiting (record { windows = past ++ w ∷ [] ++ rest; passed = end_of (past ++ w ∷ []) }) ≡ drop 1 (waiting q)
passed_waiting q past rest w t e = waiting_is (past ++ w ∷ []) rest (subst IsTimeline (sym (append_assoc past (w ∷ []) rest)) t) ∙ sym (ap (drop 1) e)

-- and the windows that were passed on end with it
pub passed_end : (q : Commits) (past rest : List Span) (w : Span) → q.passed ≡ end_of past → waiting q ≡ w ∷ rest → end_of (past ++ w ∷ []) ≡ end_from q.passed (take 1 (waiting q))
passed_end q past rest w p e = end_from-append 0 past (w ∷ []) ∙ (λ i. end_from (sym p i) (take 1 (sym e i)))

-- a list without its first element is the same only where it has none
pub none_left : (xs : List Span) → xs ≡ drop 1 xs → xs ≡ []
none_left [] e = refl
none_left (x ∷ xs) e = absurd (let sizes = ap (λ (l : List Span). length l) e in omega arith)
