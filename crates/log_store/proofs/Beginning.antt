-- A segment is taken into use behind the last one.
use Rattle.std.proofs.Common.{◌≡◌, ◌∙◌, ◌<◌, ◌≤◌, ◌+◌, inl, ⊎_elim, ℕ, true, false, List, [], ◌∷◌, ◌++◌, length, Option, Some, None, Result, Ok, sym, ap, subst, refl, arith, append-nil}
use Rattle.std.specs.Prelude.{slice_get, slice_set}
use Rattle.std.proofs.lemmas.Bool.{ltb-true}
use Rattle.std.proofs.lemmas.Option.{same_Some, slice_get_within}
use Rattle.bus_types.specs.Window.{Span, span_size}
use Rattle.bus_types.specs.Timeline.{Follows, IsTimelineFrom, end_from}
use Rattle.bus_types.proofs.Stretches.{end_rises}
use Rattle.bus_stores.specs.declared.log.LogFault.{LogFault}
use Rattle.bus_stores.specs.Log.{growing_to}
use Rattle.log_disk.specs.Disk.{DiskState}
use Rattle.log_segment.specs.declared.segment.TheConstants.{MAX_USED}
use Rattle.log_segment.specs.Image.{IsFree, HoldsInUse, whole}
use Rattle.log_segment.specs.Segment.{Numbers, SegmentParts, told, numbers_of, StandsFree}
use Rattle.log_segment.proofs.Images.{length-begun}
use Rattle.log_store.specs.First.{PutsFirst}
use Rattle.log_store.specs.Log.{IsIn, AreInOrder, windows_of, HoldLog}
use Rattle.log_store.specs.Crash.{LeaveBeside, Passes, HoldPart}
use Rattle.log_store.specs.Order.{IsRising, Joined, numbers_at, numbers_in, floor_at, last_place, lacks_room}
use Rattle.log_store.specs.Seen.{windows_seen}
use Rattle.log_store.specs.Store.{StoreParts, IsStore, AllStand, StandsSeen, is_told, log_of, windows_at}
use Rattle.log_store.proofs.Orders.{joined_push, joined_last, joined_below, joined_used, last_is_in, in_push, in_pushed, below_push, push_some, no_last}
use Rattle.log_store.proofs.Seens.{stands_seen, stands_windows}
use Rattle.log_store.proofs.Holdings.{IsPlace, not_both, by_place, swap, swap_here, swap_else, swapped, unswapped, left_else, hold_log, held, high_is, sorted_same, sorted_push, windows_push}
use Rattle.log_store.proofs.Places.{set_here, set_else, numbers_here, numbers_else, numbers_before, windows_here, windows_others, windows_before}
use Rattle.log_store.proofs.Parts.{old_part, new_part, growing_part}
use Rattle.log_store.proofs.Resting.{disks, windows, line, below_images, rest_log}

-- windows that leave no room are some
some_windows : (from size : ℕ) (ws : List Span) → IsTimelineFrom from ws → size ≤ 1048576 → lacks_room size (length (whole from ws) + 1) ≡ true → from < end_from from ws
some_windows from size [] chained small lacks = absurd (omega (arith, length-begun from, small, ltb-true MAX_USED (length (whole from []) + 1 + 5 + size) lacks))
some_windows from size (w ∷ ws) chained small lacks = omega (arith, chained.0.chained, chained.0.within.prev, end_rises w.scn ws chained.1)

-- numbers of which those at one place, which isn't in an order, were put behind it
module _ (nums now : ℕ → Numbers) (p : ℕ) (others : (i : ℕ) → (i ≡ p → ⊥) → now i ≡ nums i) (m : Numbers) (here : now p ≡ m) (order : List ℕ) (not : IsIn p order → ⊥) where
  pub begun_joined : (low high newest : ℕ) → m.floor ≡ high → IsRising m → m.high ≡ newest → Joined nums low order high → Joined now low (order ++ p ∷ []) newest
  begun_joined low high newest from rising to joined =
      joined_push nums now p others low high newest order not (ap (λ (n : Numbers). n.floor) here ∙ from) (subst IsRising (sym here) rising) (ap (λ (n : Numbers). n.high) here ∙ to) joined

  pub begun_covers : ((i : ℕ) → (nums i).in_use ≡ true → IsIn i order) → (i : ℕ) → (now i).in_use ≡ true → IsIn i (order ++ p ∷ [])
  begun_covers covers i used =
      by_place p i (λ k. (now k).in_use ≡ true → IsIn k (order ++ p ∷ [])) (λ u. in_pushed p order) (λ k u. in_push i p order (covers i (ap (λ (n : Numbers). n.in_use) (sym (others i k)) ∙ u))) used

  pub begun_sorted : (high : ℕ) → m.floor ≡ high → ((i : ℕ) → IsIn i order → (nums i).floor < high) → AreInOrder (λ i. (nums i).floor) order → AreInOrder (λ i. (now i).floor) (order ++ p ∷ [])
  begun_sorted high from below sorted =
      let apart : (i : ℕ) → IsIn i order → i ≡ p → ⊥ = λ i k e. not (subst (λ j. IsIn j order) e k) in
      let same : (i : ℕ) → IsIn i order → (now i).floor ≡ (nums i).floor = λ i k. ap (λ (n : Numbers). n.floor) (others i (apart i k)) in
      let last : (now p).floor ≡ high = ap (λ (n : Numbers). n.floor) here ∙ from in
      sorted_push (λ i. (now i).floor) p order (λ i k. inl (omega (arith, same i k, below i k, last))) (sorted_same (λ i. (nums i).floor) (λ i. (now i).floor) order same sorted)

module _ {D : Type 0} (state : D → DiskState) (old : StoreParts D) (is : IsStore state old) (w : Span) (follows : Follows old.high w) (p : ℕ)
    (lacks : (l : ℕ) → last_place old.order ≡ Some l → lacks_room (span_size w) (numbers_at old.segments l).used ≡ true)
    (before after : SegmentParts D) (stood : slice_get old.segments p ≡ Some before) (unused : before.numbers.in_use ≡ false)
    (r : Result Unit LogFault) (made : PutsFirst w (told state before) (told state after) r) where
  abbrev ss : List (SegmentParts D)
  ss = old.segments

  abbrev now : List (SegmentParts D)
  now = slice_set ss p after

  abbrev seen : List Span
  seen = windows_seen (state before.disk).seen

  numbers_is : numbers_at ss p ≡ before.numbers
  numbers_is = numbers_before state ss p before after stood

  pub not_in : IsIn p old.order → ⊥
  not_in k = not_both (numbers_at ss p).in_use (joined_used (numbers_at ss) old.floor old.high old.order is.joined p k) (ap (λ (n : Numbers). n.in_use) numbers_is ∙ unused)

  upto : old.high ≤ w.scn
  upto = omega (arith, follows.chained, follows.within.prev)

  module _ (is_told_old : is_told state old ≡ true) where
    free : StandsFree (told state before)
    free = ((is.stands is_told_old).each p before stood).free unused

    last_some : (l : ℕ) → last_place old.order ≡ Some l → floor_at ss l < old.high
    last_some l last =
        let used = joined_used (numbers_at ss) old.floor old.high old.order is.joined l (last_is_in old.order l last) in
        let h = held state ss (is.stands is_told_old).each l used in
        let full : lacks_room (span_size w) (length (whole (floor_at ss l) (windows_at state ss l)) + 1) ≡ true =
        subst (λ u. lacks_room (span_size w) u ≡ true) (ap (λ (o : Option (SegmentParts D)). (numbers_in o).used) h.1 ∙ ap (λ (n : Numbers). n.used) h.2.numbers) (lacks l last) in
        let more = some_windows (floor_at ss l) (span_size w) (windows_at state ss l) h.2.chained follows.within.size full in
        omega (arith, more, high_is state ss (is.stands is_told_old).each l used, joined_last (numbers_at ss) old.floor old.high l old.order last is.joined)

    all_below : (i : ℕ) → IsIn i old.order → floor_at ss i < old.high
    all_below i k = by_last (last_place old.order) refl
      where
        by_last : (o : Option ℕ) → last_place old.order ≡ o → floor_at ss i < old.high
        by_last None none = absurd (subst (IsIn i) (no_last old.order none) k)
        by_last (Some l) last = joined_below (numbers_at ss) old.floor old.high l old.order last (last_some l last) is.joined i k

    each_left : (images : List (List ℕ)) → LeaveBeside (disks state) p ss images → (i : ℕ) (c : List ℕ) → (i ≡ p → ⊥) → slice_get images i ≡ Some c → IsPlace (numbers_at ss i) (windows_at state ss i) c
    each_left images beside = left_else state p ss images beside (is.stands is_told_old).each

    abbrev Left : List (List ℕ) → Type 0
    Left = HoldPart (windows state old ++ w ∷ []) (growing_to w.scn (log_of state old))

    still_free : (images : List (List ℕ)) (c : List ℕ) → LeaveBeside (disks state) p ss images → slice_get images p ≡ Some c → IsFree c → Left images
    still_free images c beside at h =
        let stand = is.stands is_told_old in
        let here : IsPlace before.numbers seen c = record {
          used = λ used. absurd (not_both before.numbers.in_use used unused);
          free = λ f. h;
        } in
        let each = unswapped (numbers_at ss) (windows_at state ss) images p before.numbers seen c (each_left images beside) at here (sym numbers_is) (sym (windows_before state ss p before after stood)) in
        growing_part (log_of state old) images (windows state old ++ w ∷ []) (windows state old) w.scn old.high (omega arith) upto
        (old_part old.floor old.high (windows state old) (line state old is is_told_old).0 (line state old is is_told_old).1 w follows)
        (hold_log (numbers_at ss) (windows_at state ss) old.order old.floor old.high images is.joined stand.covers stand.sorted (below_images state old is is_told_old images beside.many) is.empty each)

    -- with some windows behind the old end
    put_log : (vs : List Span) (newest : ℕ) → end_from w.prev vs ≡ newest → old.high ≤ newest → (images : List (List ℕ)) (c : List ℕ) → LeaveBeside (disks state) p ss images → slice_get images p ≡ Some c
        → HoldsInUse w.prev vs c → HoldLog old.floor newest (windows state old ++ vs) images
    put_log vs newest ends le images c beside at h =
        let stand = is.stands is_told_old in
        let m : Numbers = numbers_of 0 w.prev vs in
        let nums = swap p m (numbers_at ss) in
        let wins = swap p vs (windows_at state ss) in
        let here : IsPlace m vs c = record { used = λ used. (h, refl); free = λ f. absurd cc } in
        let others = swap_else p m (numbers_at ss) in
        let mine = swap_here p m (numbers_at ss) in
        let each = swapped (numbers_at ss) (windows_at state ss) images p m vs c (each_left images beside) at here in
        let rising : IsRising m = record { in_use = refl; rises = omega (arith, ends, le, follows.chained) } in
        let all : windows_of wins (old.order ++ p ∷ []) ≡ windows state old ++ vs =
        windows_push (windows_at state ss) wins p (swap_else p vs (windows_at state ss)) old.order not_in ∙ ap (λ (l : List Span). windows state old ++ l) (swap_here p vs (windows_at state ss)) in
        subst (λ (l : List Span). HoldLog old.floor newest l images) all
        (hold_log nums wins (old.order ++ p ∷ []) old.floor newest images
        (begun_joined (numbers_at ss) nums p others m mine old.order not_in old.floor old.high newest follows.chained rising ends is.joined)
        (begun_covers (numbers_at ss) nums p others m mine old.order not_in stand.covers)
        (begun_sorted (numbers_at ss) nums p others m mine old.order not_in old.high follows.chained all_below stand.sorted)
        (below_push (length images) p old.order (below_images state old is is_told_old images beside.many) (slice_get_within images p c at)) (λ none. absurd (push_some old.order p none)) each)

    begun : (images : List (List ℕ)) (c : List ℕ) → LeaveBeside (disks state) p ss images → slice_get images p ≡ Some c → HoldsInUse w.prev [] c → Left images
    begun images c beside at h =
        growing_part (log_of state old) images (windows state old ++ w ∷ []) (windows state old) w.scn old.high (omega arith) upto
        (old_part old.floor old.high (windows state old) (line state old is is_told_old).0 (line state old is is_told_old).1 w follows)
        (subst (λ (l : List Span). HoldLog old.floor old.high l images) (append-nil (windows state old)) (put_log [] old.high follows.chained (omega arith) images c beside at h))

    put : (images : List (List ℕ)) (c : List ℕ) → LeaveBeside (disks state) p ss images → slice_get images p ≡ Some c → HoldsInUse w.prev (w ∷ []) c → Left images
    put images c beside at h =
        growing_part (log_of state old) images (windows state old ++ w ∷ []) (windows state old ++ w ∷ []) w.scn w.scn upto (omega arith)
        (new_part old.floor old.high (windows state old) (line state old is is_told_old).0 (line state old is is_told_old).1 w follows)
        (put_log (w ∷ []) w.scn refl upto images c beside at h)

    pub begin_passes : Passes (disks state) Left ss now
    begin_passes =
        Passes.Goes p
        (Passes.Stays (λ images beside. growing_part (log_of state old) images (windows state old ++ w ∷ []) (windows state old) w.scn old.high (omega arith) upto
        (old_part old.floor old.high (windows state old) (line state old is is_told_old).0 (line state old is is_told_old).1 w follows) (rest_log state old is is_told_old images beside)))
        (record {
          before = before;
          after = after;
          stood = stood;
          stands = refl;
          left = λ images c beside at left. ⊎_elim (still_free images c beside at) (⊎_elim (begun images c beside at) (put images c beside at)) ((made.crash free).each c left);
        })

    -- ---- afterwards

    pub begin_windows : (x : Unit {0}) → r ≡ Ok x → windows_of (windows_at state now) (old.order ++ p ∷ []) ≡ windows state old ++ w ∷ []
    begin_windows x ok =
        let done = subst (λ a. PutsFirst w (told state before) (told state after) a) ok made in
        windows_push (windows_at state ss) (windows_at state now) p (windows_others state ss p before after stood) old.order not_in
        ∙ ap (λ (l : List Span). windows state old ++ l) (windows_here state ss p before after stood ∙ stands_windows w.prev (w ∷ []) (told state after) (done.done free))

    pub begin_stands : (x : Unit {0}) → r ≡ Ok x → AllStand state now (old.order ++ p ∷ [])
    begin_stands x ok =
        let done = subst (λ a. PutsFirst w (told state before) (told state after) a) ok made in
        let stand = is.stands is_told_old in
        let mine = numbers_here state ss p before after stood in
        let others = numbers_else state ss p before after stood in
        record {
          each = λ i s at.
              by_place p i (λ k. slice_get now k ≡ Some s → StandsSeen (told state s))
              (λ e. subst (λ (t : SegmentParts D). StandsSeen (told state t)) (same_Some after s (sym (set_here ss p after before stood) ∙ e)) (stands_seen w.prev (w ∷ []) (told state after) (done.done free)))
              (λ k e. stand.each i s (sym (set_else ss p i after k) ∙ e)) at;
          covers = begun_covers (numbers_at ss) (numbers_at now) p others after.numbers mine old.order not_in stand.covers;
          sorted = begun_sorted (numbers_at ss) (numbers_at now) p others after.numbers mine old.order not_in old.high (done.leaves.floor ∙ follows.chained) all_below stand.sorted;
        }

  pub begin_joined : (x : Unit {0}) → r ≡ Ok x → Joined (numbers_at now) old.floor (old.order ++ p ∷ []) w.scn
  begin_joined x ok =
      let done = subst (λ a. PutsFirst w (told state before) (told state after) a) ok made in
      let ends = done.leaves in
      begun_joined (numbers_at ss) (numbers_at now) p (numbers_else state ss p before after stood) after.numbers (numbers_here state ss p before after stood) old.order not_in old.floor old.high w.scn
      (ends.floor ∙ follows.chained) (record { in_use = ends.in_use; rises = omega (arith, ends.floor, ends.high, follows.within.prev) }) ends.high is.joined
