-- A window is appended to the last segment.
use Rattle.std.proofs.Common.{◌≡◌, ◌∙◌, ◌≤◌, ⊎_elim, ℕ, true, List, [], ◌∷◌, ◌++◌, Some, Result, Ok, sym, ap, subst, refl, arith}
use Rattle.std.specs.Prelude.{slice_get, slice_set}
use Rattle.std.proofs.lemmas.Option.{same_Some}
use Rattle.bus_types.specs.Window.{Span}
use Rattle.bus_types.specs.Timeline.{Follows}
use Rattle.bus_stores.specs.declared.log.LogFault.{LogFault}
use Rattle.bus_stores.specs.Log.{growing_to}
use Rattle.log_disk.specs.Disk.{DiskState}
use Rattle.log_segment.specs.Image.{HoldsInUse}
use Rattle.log_segment.specs.Segment.{Numbers, SegmentParts, told, with_window, Stands, Appends}
use Rattle.log_segment.proofs.Segments.{end_push}
use Rattle.log_store.specs.Log.{IsIn, AreInOrder, windows_of, HoldLog}
use Rattle.log_store.specs.Crash.{LeaveBeside, Passes, HoldPart}
use Rattle.log_store.specs.Order.{IsRising, Joined, numbers_at, floor_at, last_place}
use Rattle.log_store.specs.Seen.{windows_seen}
use Rattle.log_store.specs.Store.{StoreParts, IsStore, AllStand, StandsSeen, is_told, log_of, windows_at}
use Rattle.log_store.proofs.Orders.{joined_grow, joined_last, joined_rising, joined_used, last_is_in}
use Rattle.log_store.proofs.Seens.{stands_seen, stands_windows}
use Rattle.log_store.proofs.Holdings.{IsPlace, not_both, by_place, swap, swap_here, swap_else, swapped, unswapped, left_else, hold_log, sorted_same, windows_grow}
use Rattle.log_store.proofs.Places.{set_here, set_else, numbers_here, numbers_else, numbers_before, windows_here, windows_others, windows_before}
use Rattle.log_store.proofs.Parts.{old_part, new_part, growing_part}
use Rattle.log_store.proofs.Resting.{disks, windows, line, below_images, rest_log}

-- numbers of which those at one place grew
module _ (nums now : ℕ → Numbers) (p : ℕ) (others : (i : ℕ) → (i ≡ p → ⊥) → now i ≡ nums i) (m : Numbers) (here : now p ≡ m) (floor : m.floor ≡ (nums p).floor) (in_use : m.in_use ≡ (nums p).in_use) where
  pub grown_joined : (low high newest : ℕ) (order : List ℕ) → last_place order ≡ Some p → m.high ≡ newest → high ≤ newest → Joined nums low order high → Joined now low order newest
  grown_joined low high newest order last to le joined =
      let at = last_is_in order p last in
      let rises : m.floor ≤ m.high = omega (arith, floor, to, le, (joined_rising nums low high order joined p at).rises, joined_last nums low high p order last joined) in
      joined_grow nums now p others low high newest order last (ap (λ (n : Numbers). n.floor) here ∙ floor)
      (subst IsRising (sym here) (record { in_use = in_use ∙ joined_used nums low high order joined p at; rises = rises })) (ap (λ (n : Numbers). n.high) here ∙ to) joined

  pub grown_covers : (order : List ℕ) → ((i : ℕ) → (nums i).in_use ≡ true → IsIn i order) → (i : ℕ) → (now i).in_use ≡ true → IsIn i order
  grown_covers order covers i used =
      covers i (sym (by_place p i (λ k. (now k).in_use ≡ (nums k).in_use) (ap (λ (n : Numbers). n.in_use) here ∙ in_use) (λ not. ap (λ (n : Numbers). n.in_use) (others i not))) ∙ used)

  pub grown_sorted : (order : List ℕ) → AreInOrder (λ i. (nums i).floor) order → AreInOrder (λ i. (now i).floor) order
  grown_sorted order sorted =
      sorted_same (λ i. (nums i).floor) (λ i. (now i).floor) order
      (λ i m. by_place p i (λ k. (now k).floor ≡ (nums k).floor) (ap (λ (n : Numbers). n.floor) here ∙ floor) (λ not. ap (λ (n : Numbers). n.floor) (others i not))) sorted

module _ {D : Type 0} (state : D → DiskState) (old : StoreParts D) (is : IsStore state old) (w : Span) (follows : Follows old.high w) (p : ℕ) (last : last_place old.order ≡ Some p)
    (before after : SegmentParts D) (stood : slice_get old.segments p ≡ Some before) (r : Result Unit LogFault) (made : Appends w (told state before) (told state after) r) where
  abbrev ss : List (SegmentParts D)
  ss = old.segments

  abbrev now : List (SegmentParts D)
  now = slice_set ss p after

  abbrev seen : List Span
  seen = windows_seen (state before.disk).seen

  numbers_is : numbers_at ss p ≡ before.numbers
  numbers_is = numbers_before state ss p before after stood

  used_before : before.numbers.in_use ≡ true
  used_before = ap (λ (n : Numbers). n.in_use) (sym numbers_is) ∙ joined_used (numbers_at ss) old.floor old.high old.order is.joined p (last_is_in old.order p last)

  module _ (is_told_old : is_told state old ≡ true) where
    stands : Stands before.numbers.floor seen (told state before)
    stands = ((is.stands is_told_old).each p before stood).used used_before

    each_left : (images : List (List ℕ)) → LeaveBeside (disks state) p ss images → (i : ℕ) (c : List ℕ) → (i ≡ p → ⊥) → slice_get images i ≡ Some c → IsPlace (numbers_at ss i) (windows_at state ss i) c
    each_left images beside = left_else state p ss images beside (is.stands is_told_old).each

    kept : (images : List (List ℕ)) (c : List ℕ) → LeaveBeside (disks state) p ss images → slice_get images p ≡ Some c → HoldsInUse before.numbers.floor seen c
        → HoldPart (windows state old ++ w ∷ []) (growing_to w.scn (log_of state old)) images
    kept images c beside at h =
        let stand = is.stands is_told_old in
        let here : IsPlace before.numbers seen c = record {
          used = λ used. (h, ap (λ (n : Numbers). n.high) stands.numbers);
          free = λ free. absurd (not_both before.numbers.in_use used_before free);
        } in
        let each = unswapped (numbers_at ss) (windows_at state ss) images p before.numbers seen c (each_left images beside) at here (sym numbers_is) (sym (windows_before state ss p before after stood)) in
        growing_part (log_of state old) images (windows state old ++ w ∷ []) (windows state old) w.scn old.high (omega arith) (omega (arith, follows.chained, follows.within.prev))
        (old_part old.floor old.high (windows state old) (line state old is is_told_old).0 (line state old is is_told_old).1 w follows)
        (hold_log (numbers_at ss) (windows_at state ss) old.order old.floor old.high images is.joined stand.covers stand.sorted (below_images state old is is_told_old images beside.many) is.empty each)

    grown : (images : List (List ℕ)) (c : List ℕ) → LeaveBeside (disks state) p ss images → slice_get images p ≡ Some c → HoldsInUse before.numbers.floor (seen ++ w ∷ []) c
        → HoldPart (windows state old ++ w ∷ []) (growing_to w.scn (log_of state old)) images
    grown images c beside at h =
        let stand = is.stands is_told_old in
        let m : Numbers = with_window w before.numbers in
        let nums = swap p m (numbers_at ss) in
        let wins = swap p (seen ++ w ∷ []) (windows_at state ss) in
        let here : IsPlace m (seen ++ w ∷ []) c = record {
          used = λ used. (h, sym (end_push before.numbers.floor seen w));
          free = λ free. absurd (not_both before.numbers.in_use used_before free);
        } in
        let floor : before.numbers.floor ≡ floor_at ss p = ap (λ (n : Numbers). n.floor) (sym numbers_is) in
        let in_use : before.numbers.in_use ≡ (numbers_at ss p).in_use = ap (λ (n : Numbers). n.in_use) (sym numbers_is) in
        let others = swap_else p m (numbers_at ss) in
        let mine = swap_here p m (numbers_at ss) in
        let each = swapped (numbers_at ss) (windows_at state ss) images p m (seen ++ w ∷ []) c (each_left images beside) at here in
        let whole : windows_of wins old.order ≡ windows state old ++ w ∷ [] =
        windows_grow (windows_at state ss) wins p (swap_else p (seen ++ w ∷ []) (windows_at state ss)) (numbers_at ss) old.floor old.high old.order (w ∷ []) last is.joined
        (swap_here p (seen ++ w ∷ []) (windows_at state ss) ∙ ap (λ (l : List Span). l ++ w ∷ []) (sym (windows_before state ss p before after stood))) in
        let upto : old.high ≤ w.scn = omega (arith, follows.chained, follows.within.prev) in
        growing_part (log_of state old) images (windows state old ++ w ∷ []) (windows state old ++ w ∷ []) w.scn w.scn upto (omega arith)
        (new_part old.floor old.high (windows state old) (line state old is is_told_old).0 (line state old is is_told_old).1 w follows)
        (subst (λ (l : List Span). HoldLog old.floor w.scn l images) whole
        (hold_log nums wins old.order old.floor w.scn images
        (grown_joined (numbers_at ss) nums p others m mine floor in_use old.floor old.high w.scn old.order last refl upto is.joined)
        (grown_covers (numbers_at ss) nums p others m mine floor in_use old.order stand.covers)
        (grown_sorted (numbers_at ss) nums p others m mine floor in_use old.order stand.sorted)
        (below_images state old is is_told_old images beside.many) is.empty each))

    pub grow_passes : Passes (disks state) (HoldPart (windows state old ++ w ∷ []) (growing_to w.scn (log_of state old))) ss now
    grow_passes =
        Passes.Goes p
        (Passes.Stays (λ images beside. growing_part (log_of state old) images (windows state old ++ w ∷ []) (windows state old) w.scn old.high (omega arith) (omega (arith, follows.chained, follows.within.prev))
        (old_part old.floor old.high (windows state old) (line state old is is_told_old).0 (line state old is is_told_old).1 w follows) (rest_log state old is is_told_old images beside)))
        (record {
          before = before;
          after = after;
          stood = stood;
          stands = refl;
          left = λ images c beside at left. ⊎_elim (kept images c beside at) (grown images c beside at) ((made.crash before.numbers.floor seen stands).each c left);
        })

    -- ---- afterwards

    pub grow_windows : (x : Unit {0}) → r ≡ Ok x → windows_of (windows_at state now) old.order ≡ windows state old ++ w ∷ []
    grow_windows x ok =
        let done = subst (λ a. Appends w (told state before) (told state after) a) ok made in
        windows_grow (windows_at state ss) (windows_at state now) p (windows_others state ss p before after stood) (numbers_at ss) old.floor old.high old.order (w ∷ []) last is.joined
        (windows_here state ss p before after stood ∙ stands_windows before.numbers.floor (seen ++ w ∷ []) (told state after) (done.done before.numbers.floor seen stands)
        ∙ ap (λ (l : List Span). l ++ w ∷ []) (sym (windows_before state ss p before after stood)))

    pub grow_stands : (x : Unit {0}) → r ≡ Ok x → AllStand state now old.order
    grow_stands x ok =
        let done = subst (λ a. Appends w (told state before) (told state after) a) ok made in
        let stand = is.stands is_told_old in
        let m : Numbers = with_window w before.numbers in
        let mine : numbers_at now p ≡ m = numbers_here state ss p before after stood ∙ done.leaves.1 in
        let floor : before.numbers.floor ≡ floor_at ss p = ap (λ (n : Numbers). n.floor) (sym numbers_is) in
        let in_use : before.numbers.in_use ≡ (numbers_at ss p).in_use = ap (λ (n : Numbers). n.in_use) (sym numbers_is) in
        let others = numbers_else state ss p before after stood in
        record {
          each = λ i s at.
              by_place p i (λ k. slice_get now k ≡ Some s → StandsSeen (told state s))
              (λ e. subst (λ (t : SegmentParts D). StandsSeen (told state t)) (same_Some after s (sym (set_here ss p after before stood) ∙ e)) (stands_seen before.numbers.floor (seen ++ w ∷ []) (told state after) (done.done before.numbers.floor seen stands)))
              (λ not e. stand.each i s (sym (set_else ss p i after not) ∙ e)) at;
          covers = grown_covers (numbers_at ss) (numbers_at now) p others m mine floor in_use old.order stand.covers;
          sorted = grown_sorted (numbers_at ss) (numbers_at now) p others m mine floor in_use old.order stand.sorted;
        }

  pub grow_joined : (x : Unit {0}) → r ≡ Ok x → Joined (numbers_at now) old.floor old.order w.scn
  grow_joined x ok =
      let done = subst (λ a. Appends w (told state before) (told state after) a) ok made in
      grown_joined (numbers_at ss) (numbers_at now) p (numbers_else state ss p before after stood) (with_window w before.numbers) (numbers_here state ss p before after stood ∙ done.leaves.1)
      (ap (λ (n : Numbers). n.floor) (sym numbers_is)) (ap (λ (n : Numbers). n.in_use) (sym numbers_is)) old.floor old.high w.scn old.order last refl (omega (arith, follows.chained, follows.within.prev)) is.joined
