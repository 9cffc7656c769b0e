-- What a crash leaves of a log: within wider bounds, and over one call after another.
use Rattle.std.proofs.Common.{◌≡◌, ℕ, ◌+◌, ◌<◌, ◌≤◌, List, [], ◌∷◌, ◌++◌, append-nil, append_assoc, length, take, drop, take-append-drop, get_or, Option, Some, None, option_map, IfSome, inl, inr, refl, sym, ap, subst, ◌∙◌, arith}
use Rattle.std.proofs.lemmas.List.{take_more}
use Rattle.bus_types.specs.Window.{Span}
use Rattle.bus_types.specs.Timeline.{IsTimelineFrom, end_from, windows_between}
use Rattle.bus_types.proofs.Stretches.{Rises, timeline_rises, rises_before, rises_take, rises_drop, rises_end, rises_front_end, between-append, end_from-append}
use Rattle.bus_stores.specs.Log.{LogState, Bounds, LieWithin, Weakens, at_rest, growing_to, dropping_to}
use Rattle.bootstrap_core.specs.Logging.{AreBrought}

-- a log that rests may be one whose windows are dropped
pub rest_weakens : (n : ℕ) (s : LogState) (ws : List Span) → Weakens ws ws (at_rest s) (dropping_to n s)
rest_weakens n s ws = record {
  within = λ floor high l. record { least_floor = l.least_floor; most_floor = omega (arith, l.most_floor); least_high = l.least_high; most_high = l.most_high };
  same = λ floor high l. refl;
}

told_map : (A B : List Span → Type 0) (told : Option (List Span)) → ((ws : List Span) → A ws → B ws) → IfSome told A → IfSome told B
told_map A B None step p = tt
told_map A B (Some ws) step p = step ws p

pub told_both : (A B C : List Span → Type 0) (told : Option (List Span)) → ((ws : List Span) → A ws → B ws → C ws) → IfSome told A → IfSome told B → IfSome told C
told_both A B C None join p q = tt
told_both A B C (Some ws) join p q = join ws p q

-- so what a crash leaves of it at rest it leaves so
pub rest_drops : (A : List Span → Bounds → Type 0) (n : ℕ) (s : LogState) → ((ws : List Span) (b c : Bounds) → Weakens ws ws b c → A ws b → A ws c) → IfSome s.windows (λ ws. A ws (at_rest s)) → IfSome s.windows (λ ws. A ws (dropping_to n s))
rest_drops A n s weaker p = told_map (λ ws. A ws (at_rest s)) (λ ws. A ws (dropping_to n s)) s.windows (λ ws a. weaker ws (at_rest s) (dropping_to n s) (rest_weakens n s ws) a) p

-- ---- windows that are appended

-- of windows that rise behind a log's newest one, none is between ends up to that
between_more : (floor high low : ℕ) (held more : List Span) → Rises low more → high ≤ low → windows_between floor high (held ++ more) ≡ windows_between floor high held
between_more floor high low held more r h =
    between-append floor high held more ∙ ap (λ rest. windows_between floor high held ++ rest) (rises_before low floor high more r h) ∙ append-nil (windows_between floor high held)

-- a log that rests holds the same of a longer list
pub rest_grows : (s : LogState) (held more : List Span) → Rises s.high more → Weakens held (held ++ more) (at_rest s) (growing_to (end_from s.high more) s)
rest_grows s held more r = record {
  within = λ floor high l. record { least_floor = l.least_floor; most_floor = l.most_floor; least_high = l.least_high; most_high = omega (arith, l.most_high, rises_end s.high more r) };
  same = λ floor high l. between_more floor high s.high held more r l.most_high;
}

-- so does one to which the next of some windows is appended
pub step_grows : (old mid : LogState) (held all : List Span) (i : ℕ) (w : Span) → Rises old.high all → i < length all → w ≡ get_or all i w → mid.floor ≡ old.floor → mid.high ≡ end_from old.high (take i all)
    → Weakens ((held ++ take i all) ++ w ∷ []) (held ++ all) (growing_to w.scn mid) (growing_to (end_from old.high all) old)
step_grows old mid held all i w r in_all at floor_same high_same =
    let front = take (i + 1) all in
    let more : take i all ++ w ∷ [] ≡ front = ap (λ v. take i all ++ v ∷ []) at ∙ sym (take_more all i w in_all) in
    let upto : end_from old.high front ≡ w.scn = ap (end_from old.high) (sym more) ∙ end_from-append old.high (take i all) (w ∷ []) in
    let last = rises_front_end old.high (i + 1) all r in
    let begins = rises_end old.high (take i all) (rises_take old.high i all r) in
    let whole : held ++ all ≡ (held ++ front) ++ drop (i + 1) all = ap (λ l. held ++ l) (sym (take-append-drop (i + 1) all)) ∙ sym (append_assoc held front (drop (i + 1) all)) in
    let first : (held ++ take i all) ++ w ∷ [] ≡ held ++ front = append_assoc held (take i all) (w ∷ []) ∙ ap (λ l. held ++ l) more in
    record {
      within = λ floor high l. record {
        least_floor = omega (arith, l.least_floor, floor_same);
        most_floor = omega (arith, l.most_floor, floor_same);
        least_high = omega (arith, l.least_high, high_same, begins);
        most_high = omega (arith, l.most_high, upto, last);
      };
      same = λ floor high l.
          ap (windows_between floor high) whole
          ∙ between_more floor high (end_from old.high front) (held ++ front) (drop (i + 1) all) (rises_drop old.high (i + 1) all r) (omega (arith, l.most_high, upto))
          ∙ ap (windows_between floor high) (sym first);
    }

-- what a crash leaves while the first of some windows are appended, one after the other
abbrev pub Grows : (List Span → Bounds → Type 0) → LogState → List Span → Type 0
Grows P s all = IfSome s.windows (λ held. P (held ++ all) (growing_to (end_from s.high all) s))

pub grows_none : (P : List Span → Bounds → Type 0) (s : LogState) (all : List Span) → ((ws vs : List Span) (b c : Bounds) → Weakens ws vs b c → P ws b → P vs c) → IsTimelineFrom s.high all → IfSome s.windows (λ ws. P ws (at_rest s)) → Grows P s all
grows_none P s all weaker t p =
    told_map (λ ws. P ws (at_rest s)) (λ held. P (held ++ all) (growing_to (end_from s.high all) s)) s.windows (λ held a. weaker held (held ++ all) (at_rest s) (growing_to (end_from s.high all) s) (rest_grows s held all (timeline_rises s.high all t)) a) p

mid_told : (B C : List Span → Type 0) (old mid : Option (List Span)) (front : List Span) → mid ≡ option_map (λ held. held ++ front) old → ((held : List Span) → B (held ++ front) → C held) → IfSome mid B → IfSome old C
mid_told B C None mid front e step p = tt
mid_told B C (Some held) mid front e step p = step held (subst (λ o. IfSome o B) e p)

-- one window more
pub grows_more : (A B C : List Span → Bounds → Type 0) (old mid : LogState) (all : List Span) (i : ℕ) (w : Span) → ((ws vs : List Span) (b c : Bounds) → Weakens ws vs b c → B ws b → B vs c) → ((ws : List Span) (b : Bounds) → A ws b → B ws b → C ws b)
    → IsTimelineFrom old.high all → i < length all → w ≡ get_or all i w → mid.floor ≡ old.floor → mid.high ≡ end_from old.high (take i all) → mid.windows ≡ option_map (λ held. held ++ take i all) old.windows
    → Grows A old all → IfSome mid.windows (λ held. B (held ++ w ∷ []) (growing_to w.scn mid)) → Grows C old all
grows_more A B C old mid all i w weaker join t in_all at floor high windows p q =
    let b = growing_to (end_from old.high all) old in
    let next : IfSome old.windows (λ held. B (held ++ all) b) =
    mid_told (λ held. B (held ++ w ∷ []) (growing_to w.scn mid)) (λ held. B (held ++ all) b) old.windows mid.windows (take i all) windows
    (λ held step. weaker ((held ++ take i all) ++ w ∷ []) (held ++ all) (growing_to w.scn mid) b (step_grows old mid held all i w (timeline_rises old.high all t) in_all at floor high) step) q in
    told_both (λ held. A (held ++ all) b) (λ held. B (held ++ all) b) (λ held. C (held ++ all) b) old.windows (λ held a step. join (held ++ all) b a step) p next

-- ---- a reply

-- what a crash leaves while windows of a reply are appended
abbrev pub Brings : (List Span → Bounds → Type 0) → LogState → ℕ → List ℕ → Type 0
Brings P s count bytes = IfSome s.windows (λ held. (brought : List Span) × AreBrought count bytes s.high brought × P (held ++ brought) (growing_to (end_from s.high brought) s))

pub brings_none : (P : List Span → Bounds → Type 0) (s : LogState) (count : ℕ) (bytes : List ℕ) → ((ws vs : List Span) (b c : Bounds) → Weakens ws vs b c → P ws b → P vs c) → IfSome s.windows (λ ws. P ws (at_rest s)) → Brings P s count bytes
brings_none P s count bytes weaker p =
    told_map (λ ws. P ws (at_rest s)) (λ held. (brought : List Span) × AreBrought count bytes s.high brought × P (held ++ brought) (growing_to (end_from s.high brought) s)) s.windows
    (λ held a. ([], inl refl, weaker held (held ++ []) (at_rest s) (growing_to s.high s) (rest_grows s held [] tt) a)) p

pub brings_some : (P : List Span → Bounds → Type 0) (s : LogState) (count : ℕ) (bytes : List ℕ) (brought : List Span) → AreBrought count bytes s.high brought → Grows P s brought → Brings P s count bytes
brings_some P s count bytes brought are p =
    told_map (λ held. P (held ++ brought) (growing_to (end_from s.high brought) s)) (λ held. (more : List Span) × AreBrought count bytes s.high more × P (held ++ more) (growing_to (end_from s.high more) s)) s.windows
    (λ held a. (brought, are, a)) p
