-- Bytes of disks that are a log.
use Rattle.std.proofs.Common.{◌≡◌, ◌∙◌, ◌<◌, inl, inr, ⊎_elim, ℕ, zero, suc, Bool, true, false, List, [], ◌∷◌, ◌++◌, length, Option, Some, None, sym, ap, subst, refl, arith, append_assoc, append-nil}
use Rattle.std.specs.Prelude.{◌==◌, if◌then◌else◌, slice_get}
use Rattle.std.proofs.lemmas.Bool.{cond-true, cond-false, ne_eqb, eqb-true, eq-eqb, cases_Bool}
use Rattle.std.proofs.lemmas.Option.{same_Some, none-some, slice_get_within}
use Rattle.bus_types.specs.Window.{Span}
use Rattle.bus_types.specs.Timeline.{IsTimelineFrom, end_from}
use Rattle.bus_types.proofs.Stretches.{timelines_joined, end_from-append}
use Rattle.log_disk.specs.Disk.{DiskState, may_leave}
use Rattle.log_segment.specs.Image.{IsFree, HoldsInUse, Ends, whole}
use Rattle.log_segment.specs.Segment.{Numbers, SegmentParts, told, Stands}
use Rattle.log_store.specs.Log.{IsIn, IsBefore, IsBeforeAll, AreInOrder, AreJoined, windows_of, HoldRuns, HoldLog}
use Rattle.log_store.specs.Crash.{LeaveBeside}
use Rattle.log_store.specs.Order.{AllBelow, Joined, numbers_in, numbers_at, floor_at, last_place}
use Rattle.log_store.specs.Seen.{windows_seen}
use Rattle.log_store.specs.Store.{windows_in, windows_at, StandsSeen}
use Rattle.log_store.proofs.Orders.{in_below, joined_used, last_is_in}

pub not_both : (b : Bool) → b ≡ true → b ≡ false → ⊥
not_both true t f = absurd cc
not_both false t f = absurd cc

-- bytes are a segment with these numbers and windows
pub record IsPlace (n : Numbers) (ws : List Span) (c : List ℕ) : Type 0 where
  pub used : n.in_use ≡ true → HoldsInUse n.floor ws c × (n.high ≡ end_from n.floor ws)
  pub free : n.in_use ≡ false → IsFree c

-- ---- an order of other numbers

pub before_same : (from now : ℕ → ℕ) (i : ℕ) (js : List ℕ) → now i ≡ from i → ((j : ℕ) → IsIn j js → now j ≡ from j) → IsBeforeAll from i js → IsBeforeAll now i js
before_same from now i [] here same h = tt
before_same from now i (j ∷ js) here same h =
    (⊎_elim (λ lt. inl (omega (arith, lt, here, same j (inl refl)))) (λ both. inr (here ∙ both.0 ∙ sym (same j (inl refl)), both.1)) h.0, before_same from now i js here (λ k m. same k (inr m)) h.1)

pub sorted_same : (from now : ℕ → ℕ) (is : List ℕ) → ((i : ℕ) → IsIn i is → now i ≡ from i) → AreInOrder from is → AreInOrder now is
sorted_same from now [] same h = tt
sorted_same from now (i ∷ is) same h = (before_same from now i is (same i (inl refl)) (λ j m. same j (inr m)) h.0, sorted_same from now is (λ j m. same j (inr m)) h.1)

before_push : (from : ℕ → ℕ) (i p : ℕ) (js : List ℕ) → IsBefore from i p → IsBeforeAll from i js → IsBeforeAll from i (js ++ p ∷ [])
before_push from i p [] b h = (b, tt)
before_push from i p (j ∷ js) b h = (h.0, before_push from i p js b h.1)

pub sorted_push : (from : ℕ → ℕ) (p : ℕ) (is : List ℕ) → ((i : ℕ) → IsIn i is → IsBefore from i p) → AreInOrder from is → AreInOrder from (is ++ p ∷ [])
sorted_push from p [] before h = (tt, tt)
sorted_push from p (i ∷ is) before h = (before_push from i p is (before i (inl refl)) h.0, sorted_push from p is (λ j m. before j (inr m)) h.1)

-- ---- windows of an order

module _ (wins now : ℕ → List Span) (p : ℕ) (same : (i : ℕ) → (i ≡ p → ⊥) → now i ≡ wins i) where
  pub windows_else : (is : List ℕ) → (IsIn p is → ⊥) → windows_of now is ≡ windows_of wins is
  windows_else [] not = refl
  windows_else (i ∷ is) not = (λ k. same i (λ e. not (inl (sym e))) k ++ windows_else is (λ m. not (inr m)) k)

  pub windows_push : (is : List ℕ) → (IsIn p is → ⊥) → windows_of now (is ++ p ∷ []) ≡ windows_of wins is ++ now p
  windows_push [] not = append-nil (now p)
  windows_push (i ∷ is) not =
      (λ k. same i (λ e. not (inl (sym e))) k ++ windows_push is (λ m. not (inr m)) k) ∙ sym (append_assoc (wins i) (windows_of wins is) (now p))

  pub windows_grow : (nums : ℕ → Numbers) (low high : ℕ) (is : List ℕ) (more : List Span) → last_place is ≡ Some p → Joined nums low is high → now p ≡ wins p ++ more → windows_of now is ≡ windows_of wins is ++ more
  windows_grow nums low high [] more last h grown = absurd (none-some p last)
  windows_grow nums low high (i ∷ []) more last h grown =
      subst (λ k. windows_of now (k ∷ []) ≡ windows_of wins (k ∷ []) ++ more) (sym (same_Some i p last)) (append-nil (now p) ∙ grown ∙ ap (λ (l : List Span). l ++ more) (sym (append-nil (wins p))))
  windows_grow nums low high (i ∷ j ∷ js) more last h grown =
      let not : i ≡ p → ⊥ = λ e. h.2 (subst (λ k. IsIn k (j ∷ js)) (sym e) (last_is_in (j ∷ js) p last)) in
      (λ k. same i not k ++ windows_grow nums (nums i).high high (j ∷ js) more last h.3 grown k) ∙ sym (append_assoc (wins i) (windows_of wins (j ∷ js)) more)

-- ---- a log

joined_runs : (nums : ℕ → Numbers) (wins : ℕ → List Span) (low high : ℕ) (is : List ℕ) → Joined nums low is high → ((i : ℕ) → IsIn i is → (nums i).high ≡ end_from (nums i).floor (wins i))
    → AreJoined (λ i. (nums i).floor) (λ i. end_from (nums i).floor (wins i)) low is high
joined_runs nums wins low high [] h ends = h
joined_runs nums wins low high (i ∷ is) h ends =
    (h.0, subst (λ (l : ℕ). AreJoined (λ i. (nums i).floor) (λ i. end_from (nums i).floor (wins i)) l is high) (ends i (inl refl)) (joined_runs nums wins (nums i).high high is h.3 (λ j m. ends j (inr m))))

pub at_below : {A : Type 0} (xs : List A) (i : ℕ) → i < length xs → (x : A) × (slice_get xs i ≡ Some x)
at_below [] i lt = absurd (omega (arith, lt))
at_below (x ∷ xs) zero lt = (x, refl)
at_below (x ∷ xs) (suc i) lt = at_below xs i (omega (arith, lt))

module _ (nums : ℕ → Numbers) (wins : ℕ → List Span) (order : List ℕ) (images : List (List ℕ)) (in_use : (i : ℕ) → IsIn i order → (nums i).in_use ≡ true) (covers : (i : ℕ) → (nums i).in_use ≡ true → IsIn i order)
    (sorted : AreInOrder (λ i. (nums i).floor) order) (below : AllBelow (length images) order) (each : (i : ℕ) (c : List ℕ) → slice_get images i ≡ Some c → IsPlace (nums i) (wins i) c) where
  found : (i : ℕ) → IsIn i order → (bytes : List ℕ) × (slice_get images i ≡ Some bytes) × HoldsInUse (nums i).floor (wins i) bytes × ((nums i).high ≡ end_from (nums i).floor (wins i))
  found i m =
      let at = at_below images i (in_below (length images) i order below m) in
      let is = (each i at.0 at.1).used (in_use i m) in
      (at.0, at.1, is.0, is.1)

  pub hold_runs : HoldRuns (λ i. record { from = (nums i).floor; windows = wins i }) order images
  hold_runs = record {
    used = λ i m. let u = found i m in (u.0, u.1, u.2);
    free = λ i bytes at not. elim (cases_Bool (nums i).in_use) [
      | inl t ↦ absurd (not (covers i t))
      | inr f ↦ (each i bytes at).free f
    ];
    sorted = sorted;
  }

  pub runs_end : (i : ℕ) → IsIn i order → (nums i).high ≡ end_from (nums i).floor (wins i)
  runs_end i m = (found i m).3

pub hold_log : (nums : ℕ → Numbers) (wins : ℕ → List Span) (order : List ℕ) (low high : ℕ) (images : List (List ℕ)) → Joined nums low order high → ((i : ℕ) → (nums i).in_use ≡ true → IsIn i order)
    → AreInOrder (λ i. (nums i).floor) order → AllBelow (length images) order → (order ≡ [] → low ≡ 0) → ((i : ℕ) (c : List ℕ) → slice_get images i ≡ Some c → IsPlace (nums i) (wins i) c)
    → HoldLog low high (windows_of wins order) images
hold_log nums wins order low high images joined covers sorted below empty each =
    let in_use = joined_used nums low high order joined in
    record {
      runs = λ i. record { from = (nums i).floor; windows = wins i };
      order = order;
      hold = hold_runs nums wins order images in_use covers sorted below each;
      joined = joined_runs nums wins low high order joined (runs_end nums wins order images in_use covers sorted below each);
      empty = empty;
      windows = refl;
    }

-- ---- segments that stand

module _ {D : Type 0} (state : D → DiskState) where
  held_in : (o : Option (SegmentParts D)) → ((s : SegmentParts D) → o ≡ Some s → StandsSeen (told state s)) → (numbers_in o).in_use ≡ true
      → (s : SegmentParts D) × (o ≡ Some s) × Stands (numbers_in o).floor (windows_in state o) (told state s)
  held_in None each used = absurd cc
  held_in (Some s) each used = (s, refl, (each s refl).used used)

  module _ (ss : List (SegmentParts D)) (each : (i : ℕ) (s : SegmentParts D) → slice_get ss i ≡ Some s → StandsSeen (told state s)) where
    pub held : (i : ℕ) → (numbers_at ss i).in_use ≡ true → (s : SegmentParts D) × (slice_get ss i ≡ Some s) × Stands (floor_at ss i) (windows_at state ss i) (told state s)
    held i used = held_in (slice_get ss i) (each i) used

    pub high_is : (i : ℕ) → (numbers_at ss i).in_use ≡ true → (numbers_at ss i).high ≡ end_from (floor_at ss i) (windows_at state ss i)
    high_is i used =
        let h = held i used in
        ap (λ (o : Option (SegmentParts D)). (numbers_in o).high) h.1 ∙ ap (λ (n : Numbers). n.high) h.2.numbers

    -- they are a timeline
    pub held_timeline : (low high : ℕ) (is : List ℕ) → Joined (numbers_at ss) low is high → IsTimelineFrom low (windows_of (windows_at state ss) is) × (end_from low (windows_of (windows_at state ss) is) ≡ high)
    held_timeline low high [] h = (tt, h)
    held_timeline low high (i ∷ is) h =
        let wins = windows_at state ss in
        let rest = held_timeline (numbers_at ss i).high high is h.3 in
        let stands = (held i h.1.in_use).2 in
        let ends : (numbers_at ss i).high ≡ end_from low (wins i) = high_is i h.1.in_use ∙ ap (λ l. end_from l (wins i)) h.0 in (
          timelines_joined low (wins i) (windows_of wins is) (subst (λ l. IsTimelineFrom l (wins i)) h.0 stands.chained) (subst (λ l. IsTimelineFrom l (windows_of wins is)) ends rest.0),
          end_from-append low (wins i) (windows_of wins is) ∙ ap (λ l. end_from l (windows_of wins is)) (sym ends) ∙ rest.1,
        )

  -- what a crash leaves of one
  pub left_place : (s : SegmentParts D) (c : List ℕ) → StandsSeen (told state s) → may_leave (state s.disk).clock c → IsPlace s.numbers (windows_seen (state s.disk).seen) c
  left_place s c h left = record {
    used = λ used.
        let stands = h.used used in (
          record { low = stands.low; chained = stands.chained; ends = subst (Ends (whole s.numbers.floor (windows_seen (state s.disk).seen))) (sym (stands.rests.rests.only c left)) stands.rests.ends },
          ap (λ (n : Numbers). n.high) stands.numbers,
        );
    free = λ free. let stands = h.free free in subst IsFree (sym (stands.rests.rests.only c left)) stands.rests.ends;
  }

  paired : {A B : Type 0} (xs : List A) (ys : List B) (i : ℕ) (x : A) → length xs ≡ length ys → slice_get xs i ≡ Some x → (y : B) × (slice_get ys i ≡ Some y)
  paired xs ys i x many at = at_below ys i (omega (arith, many, slice_get_within xs i x at))

  module _ (place : ℕ) (ss : List (SegmentParts D)) (images : List (List ℕ)) (beside : LeaveBeside (λ (s : SegmentParts D). state s.disk) place ss images)
      (each : (i : ℕ) (s : SegmentParts D) → slice_get ss i ≡ Some s → StandsSeen (told state s)) where
    pub left_else : (i : ℕ) (c : List ℕ) → (i ≡ place → ⊥) → slice_get images i ≡ Some c → IsPlace (numbers_at ss i) (windows_at state ss i) c
    left_else i c not at =
        let s = paired images ss i c beside.many at in
        subst (λ (o : Option (SegmentParts D)). IsPlace (numbers_in o) (windows_in state o) c) (sym s.1) (left_place s.0 c (each i s.0 s.1) (beside.each i s.0 c not s.1 at))

-- ---- one of a list

abbrev pub swap : {A : Type 0} → ℕ → A → (ℕ → A) → ℕ → A
swap p x f i = if i == p then x else f i

pub swap_here : {A : Type 0} (p : ℕ) (x : A) (f : ℕ → A) → swap p x f p ≡ x
swap_here p x f = cond-true (p == p) x (f p) (eq-eqb p p refl)

pub swap_else : {A : Type 0} (p : ℕ) (x : A) (f : ℕ → A) (i : ℕ) → (i ≡ p → ⊥) → swap p x f i ≡ f i
swap_else p x f i not = cond-false (i == p) x (f i) (ne_eqb i p not)

pub by_place : (p i : ℕ) (P : ℕ → Type 0) → P p → ((i ≡ p → ⊥) → P i) → P i
by_place p i P here other = elim (cases_Bool (i == p)) [
  | inl same ↦ subst P (sym (eqb-true i p same)) here
  | inr not ↦ other (λ e. not_both (i == p) (ap (λ k. k == p) e ∙ eq-eqb p p refl) not)
]

-- a part of each that is the same
pub swap_part : {A B : Type 0} (part : A → B) (p : ℕ) (x : A) (f : ℕ → A) → part x ≡ part (f p) → (i : ℕ) → part (swap p x f i) ≡ part (f i)
swap_part part p x f same i =
    by_place p i (λ k. part (swap p x f k) ≡ part (f k)) (ap part (swap_here p x f) ∙ same) (λ not. ap part (swap_else p x f i not))

module _ (nums : ℕ → Numbers) (wins : ℕ → List Span) (images : List (List ℕ)) (p : ℕ) (n : Numbers) (ws : List Span) (c : List ℕ)
    (each : (i : ℕ) (d : List ℕ) → (i ≡ p → ⊥) → slice_get images i ≡ Some d → IsPlace (nums i) (wins i) d) (at : slice_get images p ≡ Some c) (here : IsPlace n ws c) where
  pub swapped : (i : ℕ) (d : List ℕ) → slice_get images i ≡ Some d → IsPlace (swap p n nums i) (swap p ws wins i) d
  swapped i d found =
      by_place p i (λ k. slice_get images k ≡ Some d → IsPlace (swap p n nums k) (swap p ws wins k) d)
      (λ f. subst (λ m. IsPlace m (swap p ws wins p) d) (sym (swap_here p n nums)) (subst (λ l. IsPlace n l d) (sym (swap_here p ws wins)) (subst (IsPlace n ws) (same_Some c d (sym at ∙ f)) here)))
      (λ not f. subst (λ m. IsPlace m (swap p ws wins i) d) (sym (swap_else p n nums i not)) (subst (λ l. IsPlace (nums i) l d) (sym (swap_else p ws wins i not)) (each i d not f)))
      found

  -- where it is as it was
  pub unswapped : n ≡ nums p → ws ≡ wins p → (i : ℕ) (d : List ℕ) → slice_get images i ≡ Some d → IsPlace (nums i) (wins i) d
  unswapped same_n same_w i d found =
      by_place p i (λ k. slice_get images k ≡ Some d → IsPlace (nums k) (wins k) d)
      (λ f. subst (λ m. IsPlace m (wins p) d) same_n (subst (λ l. IsPlace n l d) same_w (subst (IsPlace n ws) (same_Some c d (sym at ∙ f)) here)))
      (λ not f. each i d not f)
      found
