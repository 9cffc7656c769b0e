-- The oldest segment is given up.
use Rattle.std.proofs.Common.{◌≡◌, ◌∙◌, ◌≤◌, ⊎_elim, ℕ, true, false, List, [], ◌∷◌, ◌++◌, length, Option, Some, None, Result, Ok, Err, IfSome, sym, ap, subst, refl, arith}
use Rattle.std.specs.Prelude.{slice_get, slice_set, max, option_map}
use Rattle.std.proofs.lemmas.List.{length-set}
use Rattle.std.proofs.lemmas.Option.{same_Some}
use Rattle.bus_types.specs.declared.fault.Failed.{Failed}
use Rattle.bus_types.specs.Window.{Span}
use Rattle.bus_types.specs.Timeline.{end_from, windows_between}
use Rattle.bus_types.proofs.Floors.{between-after}
use Rattle.bus_stores.specs.declared.log.LogFault.TheVariants as faults
use Rattle.bus_stores.specs.Log.{LogState, Dropped, Weakens, dropping_to}
use Rattle.log_disk.specs.Disk.{DiskState}
use Rattle.log_segment.specs.Image.{IsFree, HoldsInUse}
use Rattle.log_segment.specs.Segment.{Numbers, SegmentParts, told, free_numbers, Stands, Frees}
use Rattle.log_store.specs.Log.{IsIn, AreInOrder, windows_of, HoldLog}
use Rattle.log_store.specs.Crash.{LeaveBeside, Passes, HoldPart, passes_then, passes_weaker, part_weaker}
use Rattle.log_store.specs.Order.{AllBelow, Joined, numbers_at, floor_at, high_at}
use Rattle.log_store.specs.Seen.{windows_seen}
use Rattle.log_store.specs.Store.{StoreParts, IsStore, AllStand, StandsSeen, is_told, log_of, passes, windows_at, faults_of, losses_of}
use Rattle.log_store.specs.Steps.{Drops}
use Rattle.log_store.proofs.Orders.{joined_else, joined_all}
use Rattle.log_store.proofs.Seens.{free_seen}
use Rattle.log_store.proofs.Holdings.{IsPlace, not_both, by_place, swap, swap_here, swap_else, swapped, unswapped, left_else, hold_log, high_is, sorted_same, windows_else}
use Rattle.log_store.proofs.Places.{if_told, if_map, faults_set, losses_set, set_here, set_else, numbers_here, numbers_else, numbers_before, windows_others, windows_before}
use Rattle.log_store.proofs.Parts.{all_part, later_part, dropping_part}
use Rattle.log_store.proofs.Resting.{disks, windows, line, below_images, rest_log}

-- numbers of which those at the first place became those of a segment that isn't in use
module _ (nums now : ℕ → Numbers) (p : ℕ) (others : (i : ℕ) → (i ≡ p → ⊥) → now i ≡ nums i) (unused : (now p).in_use ≡ false) (more : List ℕ) (low high : ℕ) (joined : Joined nums low (p ∷ more) high) where
  pub freed_joined : Joined now (nums p).high more high
  freed_joined = joined_else nums now p others (nums p).high high more joined.2 joined.3

  pub freed_covers : ((i : ℕ) → (nums i).in_use ≡ true → IsIn i (p ∷ more)) → (i : ℕ) → (now i).in_use ≡ true → IsIn i more
  freed_covers covers i used =
      by_place p i (λ k. (now k).in_use ≡ true → IsIn k more) (λ u. absurd (not_both (now p).in_use u unused))
      (λ not u. ⊎_elim (λ e. absurd (not e)) (λ m. m) (covers i (ap (λ (n : Numbers). n.in_use) (sym (others i not)) ∙ u))) used

  pub freed_sorted : AreInOrder (λ i. (nums i).floor) (p ∷ more) → AreInOrder (λ i. (now i).floor) more
  freed_sorted sorted =
      sorted_same (λ i. (nums i).floor) (λ i. (now i).floor) more
      (λ i m. ap (λ (n : Numbers). n.floor) (others i (λ e. joined.2 (subst (λ k. IsIn k more) e m)))) sorted.1

module _ {D : Type 0} (state : D → DiskState) (old : StoreParts D) (is : IsStore state old) (scn p : ℕ) (more : List ℕ) (order_is : old.order ≡ p ∷ more) (some : more ≡ [] → ⊥)
    (before after : SegmentParts D) (stood : slice_get old.segments p ≡ Some before) (low : before.numbers.high ≤ scn) (r : Result Unit Failed) (made : Frees (told state before) (told state after) r) where
  abbrev ss : List (SegmentParts D)
  ss = old.segments

  abbrev now : List (SegmentParts D)
  now = slice_set ss p after

  abbrev seen : List Span
  seen = windows_seen (state before.disk).seen

  numbers_is : numbers_at ss p ≡ before.numbers
  numbers_is = numbers_before state ss p before after stood

  joined : Joined (numbers_at ss) old.floor (p ∷ more) old.high
  joined = subst (λ (o : List ℕ). Joined (numbers_at ss) old.floor o old.high) order_is is.joined

  used_before : before.numbers.in_use ≡ true
  used_before = ap (λ (n : Numbers). n.in_use) (sym numbers_is) ∙ joined.1.in_use

  later : old.floor ≤ high_at ss p
  later = omega (arith, joined.0, joined.1.rises)

  upto : high_at ss p ≤ max old.floor scn
  upto = omega (arith, ap (λ (n : Numbers). n.high) numbers_is, low)

  module _ (is_told_old : is_told state old ≡ true) where
    stands : Stands before.numbers.floor seen (told state before)
    stands = ((is.stands is_told_old).each p before stood).used used_before

    each_left : (images : List (List ℕ)) → LeaveBeside (disks state) p ss images → (i : ℕ) (c : List ℕ) → (i ≡ p → ⊥) → slice_get images i ≡ Some c → IsPlace (numbers_at ss i) (windows_at state ss i) c
    each_left images beside = left_else state p ss images beside (is.stands is_told_old).each

    abbrev Left : List (List ℕ) → Type 0
    Left = HoldPart (windows state old) (dropping_to scn (log_of state old))

    all_left : (images : List (List ℕ)) → HoldLog old.floor old.high (windows state old) images → Left images
    all_left images holds =
        dropping_part (log_of state old) images (windows state old) (windows state old) scn old.floor (omega arith) (omega arith)
        (all_part old.floor old.high (windows state old) (line state old is is_told_old).0 (line state old is is_told_old).1) holds

    kept : (images : List (List ℕ)) (c : List ℕ) → LeaveBeside (disks state) p ss images → slice_get images p ≡ Some c → HoldsInUse before.numbers.floor seen c → Left images
    kept images c beside at h =
        let stand = is.stands is_told_old in
        let here : IsPlace before.numbers seen c = record {
          used = λ used. (h, ap (λ (n : Numbers). n.high) stands.numbers);
          free = λ free. absurd (not_both before.numbers.in_use used_before free);
        } in
        let each = unswapped (numbers_at ss) (windows_at state ss) images p before.numbers seen c (each_left images beside) at here (sym numbers_is) (sym (windows_before state ss p before after stood)) in
        all_left images (hold_log (numbers_at ss) (windows_at state ss) old.order old.floor old.high images is.joined stand.covers stand.sorted (below_images state old is is_told_old images beside.many) is.empty each)

    -- the windows behind those of the oldest segment
    pub rest_part : windows_of (windows_at state ss) more ≡ windows_between (high_at ss p) old.high (windows state old)
    rest_part =
        let gone = windows_at state ss p in
        let parts : windows state old ≡ gone ++ windows_of (windows_at state ss) more = ap (windows_of (windows_at state ss)) order_is in
        let ends : end_from old.floor gone ≡ high_at ss p = ap (λ l. end_from l gone) (sym joined.0) ∙ sym (high_is state ss (is.stands is_told_old).each p joined.1.in_use) in
        later_part old.floor old.high (windows state old) (line state old is is_told_old).0 (line state old is is_told_old).1 gone (windows_of (windows_at state ss) more) parts
        ∙ ap (λ l. windows_between l old.high (windows state old)) ends

    dropped : (images : List (List ℕ)) (c : List ℕ) → LeaveBeside (disks state) p ss images → slice_get images p ≡ Some c → IsFree c → Left images
    dropped images c beside at h =
        let stand = is.stands is_told_old in
        let m : Numbers = free_numbers 0 in
        let nums = swap p m (numbers_at ss) in
        let wins = swap p [] (windows_at state ss) in
        let here : IsPlace m [] c = record { used = λ used. absurd cc; free = λ free. h } in
        let others = swap_else p m (numbers_at ss) in
        let unused : (nums p).in_use ≡ false = ap (λ (n : Numbers). n.in_use) (swap_here p m (numbers_at ss)) in
        let each = swapped (numbers_at ss) (windows_at state ss) images p m [] c (each_left images beside) at here in
        let below : AllBelow (length images) (p ∷ more) = subst (AllBelow (length images)) order_is (below_images state old is is_told_old images beside.many) in
        let rest : windows_of wins more ≡ windows_of (windows_at state ss) more = windows_else (windows_at state ss) wins p (swap_else p [] (windows_at state ss)) more joined.2 in
        dropping_part (log_of state old) images (windows state old) (windows_of (windows_at state ss) more) scn (high_at ss p) later upto rest_part
        (subst (λ (l : List Span). HoldLog (high_at ss p) old.high l images) rest
        (hold_log nums wins more (high_at ss p) old.high images (freed_joined (numbers_at ss) nums p others unused more old.floor old.high joined)
        (freed_covers (numbers_at ss) nums p others unused more old.floor old.high joined (λ i u. subst (IsIn i) order_is (stand.covers i u)))
        (freed_sorted (numbers_at ss) nums p others unused more old.floor old.high joined (subst (AreInOrder (floor_at ss)) order_is stand.sorted))
        below.1 (λ none. absurd (some none)) each))

    pub free_passes : Passes (disks state) Left ss now
    free_passes =
        Passes.Goes p (Passes.Stays (λ images beside. all_left images (rest_log state old is is_told_old images beside)))
        (record {
          before = before;
          after = after;
          stood = stood;
          stands = refl;
          left = λ images c beside at left. ⊎_elim (kept images c beside at) (dropped images c beside at) ((made.crash before.numbers.floor seen stands).each c left);
        })

    -- ---- afterwards

    free_stands : (x : Unit {0}) → r ≡ Ok x → AllStand state now more
    free_stands x ok =
        let done = subst (λ a. Frees (told state before) (told state after) a) ok made in
        let stand = is.stands is_told_old in
        let others = numbers_else state ss p before after stood in
        let unused : (numbers_at now p).in_use ≡ false = ap (λ (n : Numbers). n.in_use) (numbers_here state ss p before after stood ∙ done.numbers) in
        record {
          each = λ i s at.
              by_place p i (λ k. slice_get now k ≡ Some s → StandsSeen (told state s))
              (λ e. subst (λ (t : SegmentParts D). StandsSeen (told state t)) (same_Some after s (sym (set_here ss p after before stood) ∙ e)) (free_seen (told state after) (done.done before.numbers.floor seen stands)))
              (λ k e. stand.each i s (sym (set_else ss p i after k) ∙ e)) at;
          covers = freed_covers (numbers_at ss) (numbers_at now) p others unused more old.floor old.high joined (λ i u. subst (IsIn i) order_is (stand.covers i u));
          sorted = freed_sorted (numbers_at ss) (numbers_at now) p others unused more old.floor old.high joined (subst (AreInOrder (floor_at ss)) order_is stand.sorted);
        }

  later_faults : faults_of state ss ≤ faults_of state now
  later_faults = omega (arith, made.counts.later, faults_set state ss p before after stood)

  losses_kept : after.numbers.lost ≡ before.numbers.lost → losses_of now ≡ losses_of ss
  losses_kept same = omega (arith, losses_set ss p before after stood, same)

  crash_of : (new : StoreParts D) → new.segments ≡ now → IfSome (log_of state old).windows (λ ws. passes state ws (dropping_to scn (log_of state old)) old new)
  crash_of new same =
      if_told (is_told state old) (windows state old) _ (λ yes. subst (λ n. Passes (disks state) (HoldPart (windows state old) (dropping_to scn (log_of state old))) ss n) (sym same) (free_passes yes))

  pub free_done : (floor : ℕ) (order : List ℕ) (x : Unit {0}) → r ≡ Ok x → floor ≡ high_at ss p → order ≡ more → Drops state scn old (record old { segments = now; order = order; floor = floor }) (Ok x)
  free_done floor order x ok floor_is order_more = record {
    drops = record {
      counts = record { faults = later_faults; failed = tt; sound = tt; room = refl };
      leaves = record {
        later = omega (arith, floor_is, later);
        upto = omega (arith, floor_is, upto);
        high = refl;
        windows = if_map (is_told state old) (windows_between floor old.high) (windows state old) (windows_of (windows_at state now) order)
            (λ yes. ap (windows_of (windows_at state now)) order_more ∙ windows_else (windows_at state ss) (windows_at state now) p (windows_others state ss p before after stood) more joined.2 ∙ rest_part yes
            ∙ ap (λ l. windows_between l old.high (windows state old)) (sym floor_is));
      };
      all = tt;
    };
    crash = crash_of (record old { segments = now; order = order; floor = floor }) refl;
    losses = losses_kept (ap (λ (n : Numbers). n.lost) (subst (λ a. Frees (told state before) (told state after) a) ok made).numbers);
  }

  freed_is : (x : Unit {0}) → r ≡ Ok x → IsStore state (record old { segments = now; order = more; floor = high_at ss p })
  freed_is x ok =
      let done = subst (λ a. Frees (told state before) (told state after) a) ok made in
      let unused : (numbers_at now p).in_use ≡ false = ap (λ (n : Numbers). n.in_use) (numbers_here state ss p before after stood ∙ done.numbers) in
      let below : AllBelow (length ss) (p ∷ more) = subst (AllBelow (length ss)) order_is is.places in
      record {
        joined = freed_joined (numbers_at ss) (numbers_at now) p (numbers_else state ss p before after stood) unused more old.floor old.high joined;
        places = subst (λ n. AllBelow n more) (sym (length-set ss p after)) below.1;
        within = is.within;
        empty = λ none. absurd (some none);
        stands = λ yes. free_stands yes x ok;
      }

  pub free_is : (floor : ℕ) (order : List ℕ) (x : Unit {0}) → r ≡ Ok x → floor ≡ high_at ss p → order ≡ more → IsStore state (record old { segments = now; order = order; floor = floor })
  free_is floor order x ok floor_is order_more =
      subst (λ (l : ℕ). IsStore state (record old { segments = now; order = order; floor = l })) (sym floor_is) (subst (λ (o : List ℕ). IsStore state (record old { segments = now; order = o; floor = high_at ss p })) (sym order_more) (freed_is x ok))

  pub free_failed : (e : Failed) → r ≡ Err e → Drops state scn old (record old { segments = now; lost = true }) (Err faults.Failed)
  free_failed e err =
      let failed = subst (λ a. Frees (told state before) (told state after) a) err made in
      record {
        drops = record {
          counts = record { faults = later_faults; failed = omega (arith, failed.counts.failed, faults_set state ss p before after stood); sound = tt; room = refl };
          leaves = tt;
          all = tt;
        };
        crash = crash_of (record old { segments = now; lost = true }) refl;
        losses = losses_kept (ap (λ (n : Numbers). n.lost) failed.numbers);
      }

  pub free_lost : (e : Failed) → r ≡ Err e → IsStore state (record old { segments = now; lost = true })
  free_lost e err =
      let failed = subst (λ a. Frees (told state before) (told state after) a) err made in
      let same : numbers_at now p ≡ numbers_at ss p = numbers_here state ss p before after stood ∙ failed.numbers ∙ sym numbers_is in
      let all : (i : ℕ) → numbers_at now i ≡ numbers_at ss i = λ i. by_place p i (λ k. numbers_at now k ≡ numbers_at ss k) same (λ not. numbers_else state ss p before after stood i not) in
      record {
        joined = joined_all (numbers_at ss) (numbers_at now) (λ i. ap (λ (n : Numbers). n.floor) (all i)) (λ i. ap (λ (n : Numbers). n.high) (all i)) (λ i. ap (λ (n : Numbers). n.in_use) (all i)) old.floor old.high old.order is.joined;
        places = subst (λ n. AllBelow n old.order) (sym (length-set ss p after)) is.places;
        within = is.within;
        empty = is.empty;
        stands = λ yes. absurd cc;
      }

-- ---- one drop after the other

pub drops_none : {D : Type 0} (state : D → DiskState) (s : StoreParts D) (scn : ℕ) (x : Unit {0}) → IsStore state s → Drops state scn s s (Ok x)
drops_none state s scn x is = record {
  drops = record {
    counts = record { faults = omega arith; failed = tt; sound = tt; room = refl };
    leaves = record {
      later = omega arith;
      upto = omega arith;
      high = refl;
      windows = if_map (is_told state s) (windows_between s.floor s.high) (windows state s) (windows state s) (λ yes. all_part s.floor s.high (windows state s) (line state s is yes).0 (line state s is yes).1);
    };
    all = tt;
  };
  crash = if_told (is_told state s) (windows state s) _ (λ yes. Passes.Stays (λ images beside.
      dropping_part (log_of state s) images (windows state s) (windows state s) scn s.floor (omega arith) (omega arith) (all_part s.floor s.high (windows state s) (line state s is yes).0 (line state s is yes).1) (rest_log state s is yes images beside)));
  losses = refl;
}

between_twice : (a b c : LogState) (told : Option (List Span)) → a.floor ≤ b.floor → b.floor ≤ c.floor → b.high ≡ a.high
    → option_map (windows_between c.floor b.high) (option_map (windows_between b.floor a.high) told) ≡ option_map (windows_between c.floor a.high) told
between_twice a b c None first second same = refl
between_twice a b c (Some ws) first second same = ap (λ h. Some (windows_between c.floor h (windows_between b.floor a.high ws))) same ∙ ap Some (between-after b.floor c.floor a.high ws second)

dropped_then : (scn : ℕ) (a b c : LogState) → Dropped scn a b → Dropped scn b c → Dropped scn a c
dropped_then scn a b c first second = record {
  later = omega (arith, first.later, second.later);
  upto = omega (arith, first.upto, second.upto);
  high = second.high ∙ first.high;
  windows = second.windows ∙ ap (option_map (windows_between c.floor b.high)) first.windows ∙ between_twice a b c a.windows first.later second.later first.high;
}

drops_weaken : (scn : ℕ) (a b : LogState) (ws : List Span) → Dropped scn a b → Weakens (windows_between b.floor a.high ws) ws (dropping_to scn b) (dropping_to scn a)
drops_weaken scn a b ws first = record {
  within = λ floor high l. record {
    least_floor = omega (arith, first.later, l.least_floor);
    most_floor = omega (arith, first.upto, l.most_floor);
    least_high = omega (arith, first.high, l.least_high);
    most_high = omega (arith, first.high, l.most_high);
  };
  same = λ floor high l.
      let upto : high ≡ a.high = omega (arith, first.high, l.least_high, l.most_high) in
      ap (λ h. windows_between floor h ws) upto ∙ sym (between-after b.floor floor a.high ws l.least_floor) ∙ ap (λ h. windows_between floor h (windows_between b.floor a.high ws)) (sym upto);
}

crash_then : {D : Type 0} (state : D → DiskState) (scn : ℕ) (a b c : StoreParts D) → Dropped scn (log_of state a) (log_of state b) → (told next : Option (List Span))
    → next ≡ option_map (windows_between b.floor a.high) told → IfSome told (λ ws. passes state ws (dropping_to scn (log_of state a)) a b) → IfSome next (λ ws. passes state ws (dropping_to scn (log_of state b)) b c)
    → IfSome told (λ ws. passes state ws (dropping_to scn (log_of state a)) a c)
crash_then state scn a b c first None next is p q = tt
crash_then state scn a b c first (Some ws) next is p q =
    let second = subst (λ (o : Option (List Span)). IfSome o (λ vs. passes state vs (dropping_to scn (log_of state b)) b c)) is q in
    passes_then (disks state) (HoldPart ws (dropping_to scn (log_of state a))) a.segments b.segments c.segments p
    (passes_weaker (disks state) (HoldPart (windows_between b.floor a.high ws) (dropping_to scn (log_of state b))) (HoldPart ws (dropping_to scn (log_of state a))) b.segments c.segments
    (part_weaker (windows_between b.floor a.high ws) ws (dropping_to scn (log_of state b)) (dropping_to scn (log_of state a)) (drops_weaken scn (log_of state a) (log_of state b) ws first)) second)

pub drops_then : {D : Type 0} (state : D → DiskState) (scn : ℕ) (a b c : StoreParts D) (x y : Unit {0}) → Drops state scn a b (Ok x) → Drops state scn b c (Ok y) → Drops state scn a c (Ok y)
drops_then state scn a b c x y first second = record {
  drops = record {
    counts = record { faults = omega (arith, first.drops.counts.faults, second.drops.counts.faults); failed = tt; sound = tt; room = refl };
    leaves = dropped_then scn (log_of state a) (log_of state b) (log_of state c) first.drops.leaves second.drops.leaves;
    all = tt;
  };
  crash = crash_then state scn a b c first.drops.leaves (log_of state a).windows (log_of state b).windows first.drops.leaves.windows first.crash second.crash;
  losses = second.losses ∙ first.losses;
}

pub drops_failed : {D : Type 0} (state : D → DiskState) (scn : ℕ) (a b c : StoreParts D) (x : Unit {0}) → Drops state scn a b (Ok x) → Drops state scn b c (Err faults.Failed) → Drops state scn a c (Err faults.Failed)
drops_failed state scn a b c x first second = record {
  drops = record {
    counts = record { faults = omega (arith, first.drops.counts.faults, second.drops.counts.faults); failed = omega (arith, first.drops.counts.faults, second.drops.counts.failed); sound = tt; room = refl };
    leaves = tt;
    all = tt;
  };
  crash = crash_then state scn a b c first.drops.leaves (log_of state a).windows (log_of state b).windows first.drops.leaves.windows first.crash second.crash;
  losses = second.losses ∙ first.losses;
}
