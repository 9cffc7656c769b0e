-- What an append to a segment that is taken into use leaves of the log.
use Rattle.std.proofs.Common.{◌≡◌, ◌∙◌, ◌≤◌, ℕ, Bool, true, false, List, [], ◌∷◌, ◌++◌, length, Option, Some, None, Result, Ok, Err, IfSome, sym, ap, subst, refl, arith}
use Rattle.std.specs.Prelude.{if◌then◌else◌, slice_get, slice_set}
use Rattle.std.proofs.lemmas.List.{length-set}
use Rattle.std.proofs.lemmas.Option.{same_Some, slice_get_within}
use Rattle.bus_types.specs.Window.{Span, span_size}
use Rattle.bus_types.specs.Timeline.{Follows}
use Rattle.bus_stores.specs.declared.log.LogFault.{LogFault}
use Rattle.bus_stores.specs.declared.log.LogFault.TheVariants as faults
use Rattle.bus_stores.specs.Log.{growing_to}
use Rattle.log_disk.specs.Disk.{DiskState}
use Rattle.log_segment.specs.Segment.{Numbers, SegmentParts, told}
use Rattle.log_store.specs.First.{PutsFirst}
use Rattle.log_store.specs.Log.{IsIn, windows_of}
use Rattle.log_store.specs.Crash.{HoldPart, Passes}
use Rattle.log_store.specs.Order.{AllBelow, Joined, numbers_at, floor_at, last_place, lacks_room, if_roomy, is_full, used_at, free_place}
use Rattle.log_store.specs.Store.{StoreParts, IsStore, StandsSeen, is_told, log_of, passes, windows_at, faults_of}
use Rattle.log_store.specs.Steps.{Grows}
use Rattle.log_store.proofs.Orders.{joined_else, joined_used, below_push, push_some, last_is_in}
use Rattle.log_store.proofs.Seens.{free_seen}
use Rattle.log_store.proofs.Holdings.{not_both, by_place, sorted_same, windows_else}
use Rattle.log_store.proofs.Places.{if_told, if_map, faults_set, losses_set, numbers_here, numbers_else, numbers_before, windows_others, set_here, set_else, free_same}
use Rattle.log_store.proofs.Resting.{disks, windows, same_log}
use Rattle.log_store.proofs.Appending.{unchanged_grows}
use Rattle.log_store.proofs.Beginning.{begin_passes, begin_windows, begin_stands, begin_joined}

-- the last segment has no room where none was found with room
roomy_none : (lacks : Bool) (l : ℕ) → (if lacks then None else Some l) ≡ None → lacks ≡ true
roomy_none true l none = refl
roomy_none false l none = absurd cc

pub last_lacks : {D : Type 0} (ss : List (SegmentParts D)) (size : ℕ) (order : List ℕ) → if_roomy ss size (last_place order) ≡ None → (l : ℕ) → last_place order ≡ Some l → lacks_room size (numbers_at ss l).used ≡ true
last_lacks ss size order none l last = roomy_none (lacks_room size (numbers_at ss l).used) l (sym (ap (if_roomy ss size) last) ∙ none)

-- so there is room where a segment is free, and none where none is
pub free_roomy : {D : Type 0} (ss : List (SegmentParts D)) (size p : ℕ) (last : Option ℕ) → free_place ss ≡ Some p → is_full last (free_place ss) size ≡ false
free_roomy ss size p None found = ap (λ f. is_full None f size) found
free_roomy ss size p (Some used) found = ap (λ f. is_full (Some used) f size) found

pub none_roomy : {D : Type 0} (ss : List (SegmentParts D)) (size : ℕ) (place : Option ℕ) → if_roomy ss size place ≡ None → free_place ss ≡ None → is_full (used_at ss place) (free_place ss) size ≡ true
none_roomy ss size None none free = ap (λ f. is_full None f size) free
none_roomy ss size (Some l) none free = ap (λ f. is_full (Some (numbers_at ss l).used) f size) free ∙ roomy_none (lacks_room size (numbers_at ss l).used) l none

used_last : {D : Type 0} (ss now : List (SegmentParts D)) (order : List ℕ) → ((i : ℕ) → IsIn i order → numbers_at now i ≡ numbers_at ss i) → used_at now (last_place order) ≡ used_at ss (last_place order)
used_last ss now order same = by_last (last_place order) refl
  where
    by_last : (o : Option ℕ) → last_place order ≡ o → used_at now o ≡ used_at ss o
    by_last None e = refl
    by_last (Some l) e = ap (λ (n : Numbers). Some n.used) (same l (last_is_in order l e))

module _ {D : Type 0} (state : D → DiskState) (old : StoreParts D) (is : IsStore state old) (w : Span) (follows : Follows old.high w) where
  -- nothing was changed: no segment is free
  pub none_free : if_roomy old.segments (span_size w) (last_place old.order) ≡ None → free_place old.segments ≡ None → Grows state w old old (Err faults.Full)
  none_free none free = record {
    appends = record {
      counts = record { faults = omega arith; failed = tt; sound = tt; room = refl };
      leaves = (none_roomy old.segments (span_size w) (last_place old.order) none free, refl);
    };
    crash = unchanged_grows state old is w follows;
    losses = refl;
  }

  -- or memory ran out before
  pub none_left : (p : ℕ) → free_place old.segments ≡ Some p → Grows state w old old (Err faults.NoMemory)
  none_left p found = record {
    appends = record {
      counts = record { faults = omega arith; failed = tt; sound = tt; room = refl };
      leaves = (free_roomy old.segments (span_size w) p (used_at old.segments (last_place old.order)) found, refl);
    };
    crash = unchanged_grows state old is w follows;
    losses = refl;
  }

module _ {D : Type 0} (state : D → DiskState) (old : StoreParts D) (is : IsStore state old) (w : Span) (follows : Follows old.high w) (p : ℕ) (found : free_place old.segments ≡ Some p)
    (none : if_roomy old.segments (span_size w) (last_place old.order) ≡ None)
    (before after : SegmentParts D) (stood : slice_get old.segments p ≡ Some before) (unused : before.numbers.in_use ≡ false) where
  abbrev now : List (SegmentParts D)
  now = slice_set old.segments p after

  lacks : (l : ℕ) → last_place old.order ≡ Some l → lacks_room (span_size w) (numbers_at old.segments l).used ≡ true
  lacks = last_lacks old.segments (span_size w) old.order none

  later_faults : (r : Result Unit LogFault) → PutsFirst w (told state before) (told state after) r → faults_of state old.segments ≤ faults_of state now
  later_faults r made = omega (arith, made.faults, faults_set state old.segments p before after stood)

  free_is : (log_of state old).full (span_size w) ≡ false
  free_is = free_roomy old.segments (span_size w) p (used_at old.segments (last_place old.order)) found

  crash_of : (r : Result Unit LogFault) → PutsFirst w (told state before) (told state after) r → (new : StoreParts D) → new.segments ≡ now
      → IfSome (log_of state old).windows (λ ws. passes state (ws ++ w ∷ []) (growing_to w.scn (log_of state old)) old new)
  crash_of r made new same =
      if_told (is_told state old) (windows state old) _ (λ told. subst (λ n. Passes (disks state) (HoldPart (windows state old ++ w ∷ []) (growing_to w.scn (log_of state old))) old.segments n) (sym same)
      (begin_passes state old is w follows p lacks before after stood unused r made told))

  not_there : IsIn p old.order → ⊥
  not_there k = not_both (numbers_at old.segments p).in_use (joined_used (numbers_at old.segments) old.floor old.high old.order is.joined p k)
      (ap (λ (n : Numbers). n.in_use) (numbers_before state old.segments p before after stood) ∙ unused)

  same_numbers : (i : ℕ) → IsIn i old.order → numbers_at now i ≡ numbers_at old.segments i
  same_numbers i k = numbers_else state old.segments p before after stood i (λ e. not_there (subst (λ j. IsIn j old.order) e k))

  pub begin_done : (scn : ℕ) (order : List ℕ) (x : Unit {0}) → scn ≡ w.scn → order ≡ old.order ++ p ∷ [] → PutsFirst w (told state before) (told state after) (Ok x)
      → Grows state w old (record old { segments = now; order = order; high = scn }) (Ok x)
  begin_done scn order x scn_is order_is made = record {
    appends = record {
      counts = record { faults = later_faults (Ok x) made; failed = tt; sound = tt; room = refl };
      leaves = record {
        free = free_is;
        floor = refl;
        high = scn_is;
        windows = if_map (is_told state old) (λ (ws : List Span). ws ++ w ∷ []) (windows state old) (windows_of (windows_at state now) order)
            (λ told. ap (windows_of (windows_at state now)) order_is ∙ begin_windows state old is w follows p lacks before after stood unused (Ok x) made told x refl);
      };
    };
    crash = crash_of (Ok x) made (record old { segments = now; order = order; high = scn }) refl;
    losses = omega (arith, losses_set old.segments p before after stood, made.lost);
  }

  begun_is : (x : Unit {0}) → PutsFirst w (told state before) (told state after) (Ok x) → IsStore state (record old { segments = now; order = old.order ++ p ∷ []; high = w.scn })
  begun_is x made = record {
    joined = begin_joined state old is w follows p lacks before after stood unused (Ok x) made x refl;
    places = subst (λ n. AllBelow n (old.order ++ p ∷ [])) (sym (length-set old.segments p after)) (below_push (length old.segments) p old.order is.places (slice_get_within old.segments p before stood));
    within = follows.within.scn;
    empty = λ e. absurd (push_some old.order p e);
    stands = λ told. begin_stands state old is w follows p lacks before after stood unused (Ok x) made told x refl;
  }

  pub begin_is : (scn : ℕ) (order : List ℕ) (x : Unit {0}) → scn ≡ w.scn → order ≡ old.order ++ p ∷ [] → PutsFirst w (told state before) (told state after) (Ok x)
      → IsStore state (record old { segments = now; order = order; high = scn })
  begin_is scn order x scn_is order_is made =
      subst (λ (h : ℕ). IsStore state (record old { segments = now; order = order; high = h })) (sym scn_is) (subst (λ (o : List ℕ). IsStore state (record old { segments = now; order = o; high = w.scn })) (sym order_is) (begun_is x made))

  still_joined : Joined (numbers_at now) old.floor old.order old.high
  still_joined = joined_else (numbers_at old.segments) (numbers_at now) p (numbers_else state old.segments p before after stood) old.floor old.high old.order not_there is.joined

  pub begin_failed : PutsFirst w (told state before) (told state after) (Err faults.Failed) → Grows state w old (record old { segments = now; lost = true }) (Err faults.Failed)
  begin_failed made = record {
    appends = record {
      counts = record { faults = later_faults (Err faults.Failed) made; failed = omega (arith, made.failed, faults_set state old.segments p before after stood); sound = tt; room = refl };
      leaves = tt;
    };
    crash = crash_of (Err faults.Failed) made (record old { segments = now; lost = true }) refl;
    losses = omega (arith, losses_set old.segments p before after stood, made.lost);
  }

  pub begin_lost : IsStore state (record old { segments = now; lost = true })
  begin_lost = record {
    joined = still_joined;
    places = subst (λ n. AllBelow n old.order) (sym (length-set old.segments p after)) is.places;
    within = is.within;
    empty = is.empty;
    stands = λ told. absurd cc;
  }

  -- memory ran out, and the segment was given up again
  pub begin_kept : PutsFirst w (told state before) (told state after) (Err faults.NoMemory) → Grows state w old (record old { segments = now }) (Err faults.NoMemory)
  begin_kept made = record {
    appends = record {
      counts = record { faults = later_faults (Err faults.NoMemory) made; failed = tt; sound = tt; room = refl };
      leaves = (
        free_is,
        same_log state old now (λ told. windows_else (windows_at state old.segments) (windows_at state now) p (windows_others state old.segments p before after stood) old.order not_there)
            (used_last old.segments now old.order same_numbers) (free_same old.segments p before after stood (made.leaves ∙ sym unused)),
      );
    };
    crash = crash_of (Err faults.NoMemory) made (record old { segments = now }) refl;
    losses = omega (arith, losses_set old.segments p before after stood, made.lost);
  }

  pub begin_kept_is : PutsFirst w (told state before) (told state after) (Err faults.NoMemory) → IsStore state (record old { segments = now })
  begin_kept_is made = record {
    joined = still_joined;
    places = subst (λ n. AllBelow n old.order) (sym (length-set old.segments p after)) is.places;
    within = is.within;
    empty = is.empty;
    stands = λ yes.
        let stand = is.stands yes in
        record {
          each = λ i s at.
              by_place p i (λ k. slice_get now k ≡ Some s → StandsSeen (told state s))
              (λ e. subst (λ (t : SegmentParts D). StandsSeen (told state t)) (same_Some after s (sym (set_here old.segments p after before stood) ∙ e))
              (free_seen (told state after) (made.back ((stand.each p before stood).free unused))))
              (λ k e. stand.each i s (sym (set_else old.segments p i after k) ∙ e)) at;
          covers = λ i used.
              by_place p i (λ k. (numbers_at now k).in_use ≡ true → IsIn k old.order)
              (λ u. absurd (not_both (numbers_at now p).in_use u (ap (λ (n : Numbers). n.in_use) (numbers_here state old.segments p before after stood) ∙ made.leaves)))
              (λ k u. stand.covers i (ap (λ (n : Numbers). n.in_use) (sym (numbers_else state old.segments p before after stood i k)) ∙ u)) used;
          sorted = sorted_same (floor_at old.segments) (floor_at now) old.order (λ i k. ap (λ (n : Numbers). n.floor) (same_numbers i k)) stand.sorted;
        };
  }
