-- The oldest window behind an SCN is read.
use Rattle.std.proofs.Common.{◌≡◌, ◌∙◌, ◌<◌, ◌≤◌, inl, inr, ℕ, Bool, true, false, nat_lt, List, [], ◌∷◌, ◌++◌, Option, Some, None, Result, Ok, Err, IfSome, IfOk, sym, ap, subst, refl, arith}
use Rattle.std.specs.Prelude.{slice_get, slice_set, if◌then◌else◌}
use Rattle.std.specs.Option.{option_or}
use Rattle.std.proofs.lemmas.Bool.{cond-true, cond-false, lt-ltb, le-ltb, cases_lt}
use Rattle.std.proofs.lemmas.List.{length-set}
use Rattle.std.proofs.lemmas.List.Folds.{find-append}
use Rattle.std.proofs.lemmas.Option.{same_Some, none-some}
use Rattle.bus_types.specs.Window.{Span}
use Rattle.bus_types.specs.Timeline.{IsTimelineFrom, end_from}
use Rattle.bus_types.proofs.Stretches.{end_rises}
use Rattle.bus_stores.specs.declared.log.LogFault.{LogFault}
use Rattle.bus_stores.specs.declared.log.LogFault.TheVariants as faults
use Rattle.bus_stores.specs.Log.{OnLogFailed, IsFound, first_after, at_rest}
use Rattle.log_disk.specs.Disk.{DiskState}
use Rattle.log_segment.specs.Lookup.{IsFoundIn, ReadsNext}
use Rattle.log_segment.specs.Segment.{Numbers, SegmentParts, told, Stands}
use Rattle.log_store.specs.Log.{IsIn, windows_of, HoldLog}
use Rattle.log_store.specs.Crash.{Passes, HoldPart}
use Rattle.log_store.specs.Order.{AllBelow, Joined, numbers_at, floor_at, high_at, last_place, place_after}
use Rattle.log_store.specs.Seen.{windows_seen}
use Rattle.log_store.specs.Store.{StoreParts, IsStore, AllStand, StandsSeen, is_told, log_of, windows_at, faults_of, losses_of}
use Rattle.log_store.specs.Steps.{Reads}
use Rattle.log_store.proofs.Orders.{joined_all, joined_used, joined_within}
use Rattle.log_store.proofs.Seens.{stands_seen}
use Rattle.log_store.proofs.Holdings.{by_place, unswapped, left_else, left_place, hold_log, held, high_is, sorted_same}
use Rattle.log_store.proofs.Places.{if_told, faults_set, losses_set, set_here, set_else, numbers_here, numbers_else, numbers_before, windows_here, windows_others, windows_before, free_same, used_same}
use Rattle.log_store.proofs.Parts.{all_part, at_rest_part}
use Rattle.log_store.proofs.Resting.{disks, windows, line, below_images, rest_log, told_rests, same_log}

-- ---- places by an SCN

place_taken : (to : ℕ → ℕ) (scn i : ℕ) (is : List ℕ) → scn < to i → place_after to scn (i ∷ is) ≡ Some i
place_taken to scn i is lt = cond-true (nat_lt scn (to i)) (Some i) (place_after to scn is) (lt-ltb scn (to i) lt)

place_passed : (to : ℕ → ℕ) (scn i : ℕ) (is : List ℕ) → to i ≤ scn → place_after to scn (i ∷ is) ≡ place_after to scn is
place_passed to scn i is le = cond-false (nat_lt scn (to i)) (Some i) (place_after to scn is) (le-ltb scn (to i) le)

pub place_in : (to : ℕ → ℕ) (scn p : ℕ) (is : List ℕ) → place_after to scn is ≡ Some p → IsIn p is
place_in to scn p [] found = absurd (none-some p found)
place_in to scn p (i ∷ is) found = elim (cases_lt scn (to i)) [
  | inl lt ↦ inl (sym (same_Some i p (sym (place_taken to scn i is lt) ∙ found)))
  | inr le ↦ inr (place_in to scn p is (sym (place_passed to scn i is le) ∙ found))
]

pub place_ends : (to : ℕ → ℕ) (scn p : ℕ) (is : List ℕ) → place_after to scn is ≡ Some p → scn < to p
place_ends to scn p [] found = absurd (none-some p found)
place_ends to scn p (i ∷ is) found = elim (cases_lt scn (to i)) [
  | inl lt ↦ subst (λ k. scn < to k) (same_Some i p (sym (place_taken to scn i is lt) ∙ found)) lt
  | inr le ↦ place_ends to scn p is (sym (place_passed to scn i is le) ∙ found)
]

pub place_begins : (at : ℕ → Numbers) (low high scn p : ℕ) (is : List ℕ) → Joined at low is high → low ≤ scn → place_after (λ i. (at i).high) scn is ≡ Some p → (at p).floor ≤ scn
place_begins at low high scn p [] joined le found = absurd (none-some p found)
place_begins at low high scn p (i ∷ is) joined le found = elim (cases_lt scn (at i).high) [
  | inl lt ↦ subst (λ k. (at k).floor ≤ scn) (same_Some i p (sym (place_taken (λ i. (at i).high) scn i is lt) ∙ found)) (omega (arith, joined.0, le))
  | inr before ↦ place_begins at (at i).high high scn p is joined.3 before (sym (place_passed (λ i. (at i).high) scn i is before) ∙ found)
]

pub no_place : (at : ℕ → Numbers) (low high scn : ℕ) (is : List ℕ) → Joined at low is high → low ≤ scn → place_after (λ i. (at i).high) scn is ≡ None → high ≤ scn
no_place at low high scn [] joined le none = omega (arith, joined, le)
no_place at low high scn (i ∷ is) joined le none = elim (cases_lt scn (at i).high) [
  | inl lt ↦ absurd (none-some i (sym none ∙ place_taken (λ i. (at i).high) scn i is lt))
  | inr before ↦ no_place at (at i).high high scn is joined.3 before (sym (place_passed (λ i. (at i).high) scn i is before) ∙ none)
]

-- ---- windows

-- none of windows up to an SCN is behind it
pub none_after : (from scn : ℕ) (ws : List Span) → IsTimelineFrom from ws → end_from from ws ≤ scn → first_after scn ws ≡ None
none_after from scn [] t le = refl
none_after from scn (w ∷ ws) t le =
    cond-false (nat_lt scn w.scn) (Some w) (first_after scn ws) (le-ltb scn w.scn (omega (arith, end_rises w.scn ws t.1, le))) ∙ none_after w.scn scn ws t.1 le

-- the first one of those of an order is the first one of its segment
first_in : (nums : ℕ → Numbers) (wins : ℕ → List Span) (low high scn p : ℕ) (is : List ℕ) (w : Span) → Joined nums low is high
    → ((i : ℕ) → IsIn i is → IsTimelineFrom (nums i).floor (wins i) × ((nums i).high ≡ end_from (nums i).floor (wins i))) → place_after (λ i. (nums i).high) scn is ≡ Some p
    → first_after scn (wins p) ≡ Some w → first_after scn (windows_of wins is) ≡ Some w
first_in nums wins low high scn p [] w joined each found first = absurd (none-some p found)
first_in nums wins low high scn p (i ∷ is) w joined each found first = elim (cases_lt scn (nums i).high) [
  | inl lt ↦
      let same : i ≡ p = same_Some i p (sym (place_taken (λ i. (nums i).high) scn i is lt) ∙ found) in
      find-append (λ (v : Span). nat_lt scn v.scn) (wins i) (windows_of wins is)
      ∙ ap (λ o. option_or o (first_after scn (windows_of wins is))) (ap (λ k. first_after scn (wins k)) same ∙ first)
  | inr before ↦
      let e = each i (inl refl) in
      find-append (λ (v : Span). nat_lt scn v.scn) (wins i) (windows_of wins is)
      ∙ ap (λ o. option_or o (first_after scn (windows_of wins is))) (none_after (nums i).floor scn (wins i) e.0 (omega (arith, before, e.1)))
      ∙ first_in nums wins (nums i).high high scn p is w joined.3 (λ k m. each k (inr m)) (sym (place_passed (λ i. (nums i).high) scn i is before) ∙ found) first
]

all_windows : (wins now : ℕ → List Span) (is : List ℕ) → ((i : ℕ) → now i ≡ wins i) → windows_of now is ≡ windows_of wins is
all_windows wins now [] same = refl
all_windows wins now (i ∷ is) same = λ k. same i k ++ all_windows wins now is same k

-- ---- by the answer

on_failed : {X : Type 0} (r : Result X LogFault) (P Q : Type 0) → (P → Q) → OnLogFailed r P → OnLogFailed r Q
on_failed (Ok x) P Q so h = tt
on_failed (Err faults.Failed) P Q so h = so h
on_failed (Err faults.Full) P Q so h = tt
on_failed (Err faults.NoMemory) P Q so h = tt

failed_always : {X : Type 0} (r : Result X LogFault) (P : Type 0) → P → OnLogFailed r P
failed_always (Ok x) P p = tt
failed_always (Err faults.Failed) P p = p
failed_always (Err faults.Full) P p = tt
failed_always (Err faults.NoMemory) P p = tt

if_ok : {X E : Type 0} (r : Result X E) (P Q : X → Type 0) → ((x : X) → P x → Q x) → IfOk r P → IfOk r Q
if_ok (Ok x) P Q so h = so x h
if_ok (Err e) P Q so h = tt

if_ok_both : {X E : Type 0} (r : Result X E) (P Q R : X → Type 0) → ((x : X) → P x → Q x → R x) → IfOk r P → IfOk r Q → IfOk r R
if_ok_both (Ok x) P Q R so h k = so x h k
if_ok_both (Err e) P Q R so h k = tt

-- ---- a window was read

module _ {D : Type 0} (state : D → DiskState) (old : StoreParts D) (is : IsStore state old) (scn : ℕ) (low : old.floor ≤ scn) where
  pub none_behind : place_after (high_at old.segments) scn old.order ≡ None → Reads state scn old old (Ok None)
  none_behind none =
      let upto : old.high ≤ scn = no_place (numbers_at old.segments) old.floor old.high scn old.order is.joined low none in
      record {
        next = record {
          counts = record { faults = omega arith; failed = tt; sound = tt; room = refl };
          same = refl;
          found = record { window = tt; none = upto };
          told = if_told (is_told state old) (windows state old) _ (λ yes. sym (none_after old.floor scn (windows state old) (line state old is yes).0 (omega (arith, (line state old is yes).1, upto))));
          roomy = tt;
        };
        crash = told_rests state old is;
        losses = λ told. refl;
      }

  module _ (p : ℕ) (place : place_after (high_at old.segments) scn old.order ≡ Some p) (before after : SegmentParts D) (stood : slice_get old.segments p ≡ Some before)
      (r : Result (Option Span) LogFault) (made : ReadsNext scn (told state before) (told state after) r) where
    abbrev ss : List (SegmentParts D)
    ss = old.segments

    abbrev now : List (SegmentParts D)
    now = slice_set ss p after

    abbrev seen : List Span
    seen = windows_seen (state before.disk).seen

    numbers_is : numbers_at ss p ≡ before.numbers
    numbers_is = numbers_before state ss p before after stood

    member : IsIn p old.order
    member = place_in (high_at ss) scn p old.order place

    used_before : before.numbers.in_use ≡ true
    used_before = ap (λ (n : Numbers). n.in_use) (sym numbers_is) ∙ joined_used (numbers_at ss) old.floor old.high old.order is.joined p member

    -- a part of the numbers that stays
    part : {X : Type 0} (f : Numbers → X) → f after.numbers ≡ f before.numbers → (i : ℕ) → f (numbers_at now i) ≡ f (numbers_at ss i)
    part f same i =
        by_place p i (λ k. f (numbers_at now k) ≡ f (numbers_at ss k)) (ap f (numbers_here state ss p before after stood) ∙ same ∙ ap f (sym numbers_is)) (λ not. ap f (numbers_else state ss p before after stood i not))

    same_wins : (i : ℕ) → windows_at state now i ≡ windows_at state ss i
    same_wins i =
        by_place p i (λ k. windows_at state now k ≡ windows_at state ss k)
        (windows_here state ss p before after stood ∙ ap windows_seen made.looks.seen ∙ sym (windows_before state ss p before after stood)) (λ not. windows_others state ss p before after stood i not)

    same_windows : windows_of (windows_at state now) old.order ≡ windows state old
    same_windows = all_windows (windows_at state ss) (windows_at state now) old.order same_wins

    later : faults_of state ss ≤ faults_of state now
    later = omega (arith, made.looks.faults, made.later, faults_set state ss p before after stood)

    behind : scn < before.numbers.high
    behind = subst (λ (n : Numbers). scn < n.high) numbers_is (place_ends (high_at ss) scn p old.order place)

    begins : before.numbers.floor ≤ scn
    begins = subst (λ (n : Numbers). n.floor ≤ scn) numbers_is (place_begins (numbers_at ss) old.floor old.high scn p old.order is.joined low place)

    found_in : (found : Option Span) → IsFoundIn scn before.numbers found → IsFound scn old.high found
    found_in None h = record { window = tt; none = absurd (omega (arith, h.none begins, behind)) }
    found_in (Some w) h =
        record { window = (h.window.0, omega (arith, h.window.1, ap (λ (n : Numbers). n.high) numbers_is, joined_within (numbers_at ss) old.floor old.high old.order is.joined p member)); none = tt }

    module _ (yes : is_told state old ≡ true) where
      stands : Stands before.numbers.floor seen (told state before)
      stands = ((is.stands yes).each p before stood).used used_before

      each_run : (i : ℕ) → IsIn i old.order → IsTimelineFrom (floor_at ss i) (windows_at state ss i) × ((numbers_at ss i).high ≡ end_from (floor_at ss i) (windows_at state ss i))
      each_run i m =
          let used = joined_used (numbers_at ss) old.floor old.high old.order is.joined i m in
          ((held state ss (is.stands yes).each i used).2.chained, high_is state ss (is.stands yes).each i used)

      first_is : (found : Option Span) → IsFoundIn scn before.numbers found → found ≡ first_after scn seen → found ≡ first_after scn (windows state old)
      first_is None h first = absurd (omega (arith, h.none begins, behind))
      first_is (Some w) h first =
          sym (first_in (numbers_at ss) (windows_at state ss) old.floor old.high scn p old.order w is.joined each_run place (ap (first_after scn) (windows_before state ss p before after stood) ∙ sym first))

      pub losses_same : losses_of now ≡ losses_of ss
      losses_same = omega (arith, losses_set ss p before after stood, made.sure before.numbers.floor seen stands)

      read_stands : AllStand state now old.order
      read_stands =
          let stand = is.stands yes in
          record {
            each = λ i s at.
                by_place p i (λ k. slice_get now k ≡ Some s → StandsSeen (told state s))
                (λ e. subst (λ (t : SegmentParts D). StandsSeen (told state t)) (same_Some after s (sym (set_here ss p after before stood) ∙ e))
                (stands_seen before.numbers.floor seen (told state after) (made.stands before.numbers.floor seen stands)))
                (λ k e. stand.each i s (sym (set_else ss p i after k) ∙ e)) at;
            covers = λ i used. stand.covers i (sym (part (λ n. n.in_use) (ap (λ (n : Numbers). n.in_use) made.numbers) i) ∙ used);
            sorted = sorted_same (floor_at ss) (floor_at now) old.order (λ i m. part (λ n. n.floor) (ap (λ (n : Numbers). n.floor) made.numbers) i) stand.sorted;
          }

      read_passes : Passes (disks state) (HoldPart (windows state old) (at_rest (log_of state old))) ss now
      read_passes =
          let rest : (images : List (List ℕ)) → HoldLog old.floor old.high (windows state old) images → HoldPart (windows state old) (at_rest (log_of state old)) images =
          λ images. at_rest_part (log_of state old) images (windows state old) (windows state old) (all_part old.floor old.high (windows state old) (line state old is yes).0 (line state old is yes).1) in
          let stand = is.stands yes in
          Passes.Goes p (Passes.Stays (λ images beside. rest images (rest_log state old is yes images beside)))
          (record {
            before = before;
            after = after;
            stood = stood;
            stands = refl;
            left = λ images c beside at left.
                let here = left_place state before c (stand.each p before stood) (made.looks.crash.each c left) in
                rest images (hold_log (numbers_at ss) (windows_at state ss) old.order old.floor old.high images is.joined stand.covers stand.sorted (below_images state old is yes images beside.many) is.empty
                (unswapped (numbers_at ss) (windows_at state ss) images p before.numbers seen c (left_else state p ss images beside stand.each) at here (sym numbers_is) (sym (windows_before state ss p before after stood))));
          })

    pub read_by : Reads state scn old (record old { segments = now }) r
    read_by = record {
      next = record {
        counts = record {
          faults = later;
          failed = on_failed r _ _ (λ rose. omega (arith, rose, faults_set state ss p before after stood)) made.failed;
          sound = failed_always r _ tt;
          room = refl;
        };
        same = same_log state old now (λ yes. same_windows) (used_same ss now (last_place old.order) (part (λ n. n.used) (ap (λ (n : Numbers). n.used) made.numbers)))
            (free_same ss p before after stood (ap (λ (n : Numbers). n.in_use) made.numbers));
        found = if_ok r _ _ found_in made.found;
        told = told_by (is_told state old) refl;
        roomy = made.roomy;
      };
      crash = if_told (is_told state old) (windows state old) _ read_passes;
      losses = losses_same;
    }
      where
        told_by : (b : Bool) → is_told state old ≡ b → IfOk r (λ found. IfSome (if b then Some (windows state old) else None) (λ ws. found ≡ first_after scn ws))
        told_by true tells = if_ok_both r _ _ _ (first_is tells) made.found (made.told before.numbers.floor seen (stands tells))
        told_by false untold = if_ok r _ _ (λ x h. tt) made.found

    pub read_is : IsStore state (record old { segments = now })
    read_is = record {
      joined = joined_all (numbers_at ss) (numbers_at now) (part (λ n. n.floor) (ap (λ (n : Numbers). n.floor) made.numbers)) (part (λ n. n.high) (ap (λ (n : Numbers). n.high) made.numbers))
          (part (λ n. n.in_use) (ap (λ (n : Numbers). n.in_use) made.numbers)) old.floor old.high old.order is.joined;
      places = subst (λ n. AllBelow n old.order) (sym (length-set ss p after)) is.places;
      within = is.within;
      empty = is.empty;
      stands = read_stands;
    }
