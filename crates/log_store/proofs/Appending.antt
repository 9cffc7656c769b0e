-- What an append to the last segment leaves of the log.
use Rattle.std.proofs.Common.{◌≡◌, ◌∙◌, ◌≤◌, ℕ, Bool, true, false, List, [], ◌∷◌, ◌++◌, Option, Some, None, Result, Ok, Err, IfSome, sym, ap, subst, refl, arith}
use Rattle.std.specs.Prelude.{slice_get, slice_set}
use Rattle.std.proofs.lemmas.List.{length-set}
use Rattle.bus_types.specs.Window.{Span, span_size}
use Rattle.bus_types.specs.Timeline.{Follows}
use Rattle.bus_stores.specs.declared.log.LogFault.{LogFault}
use Rattle.bus_stores.specs.declared.log.LogFault.TheVariants as faults
use Rattle.bus_stores.specs.Log.{SameLog, growing_to}
use Rattle.log_disk.specs.Disk.{DiskState}
use Rattle.log_segment.specs.Segment.{Numbers, SegmentParts, told, Appends}
use Rattle.log_store.specs.Log.{windows_of}
use Rattle.log_store.specs.Crash.{HoldPart, Passes}
use Rattle.log_store.specs.Order.{AllBelow, Joined, numbers_at, last_place, lacks_room, is_full, used_at, free_place}
use Rattle.log_store.specs.Store.{StoreParts, IsStore, is_told, log_of, passes, windows_at, faults_of, losses_of}
use Rattle.log_store.specs.Steps.{Grows}
use Rattle.log_store.proofs.Orders.{joined_last}
use Rattle.log_store.proofs.Places.{if_told, if_map, faults_set, losses_set, numbers_here, numbers_else, numbers_before, set_same}
use Rattle.log_store.proofs.Parts.{old_part, growing_part}
use Rattle.log_store.proofs.Resting.{disks, windows, line, rest_log}
use Rattle.log_store.proofs.Growing.{grown_joined, grow_passes, grow_windows, grow_stands, grow_joined}

pub not_full : (size used : ℕ) (free : Option ℕ) → lacks_room size used ≡ false → is_full (Some used) free size ≡ false
not_full size used None room = room
not_full size used (Some p) room = refl

pub last_full : (size used : ℕ) (free : Option ℕ) → lacks_room size used ≡ true → free ≡ None → is_full (Some used) free size ≡ true
last_full size used None lacks none = lacks
last_full size used (Some p) lacks none = absurd cc

both_ways : (b : Bool) → b ≡ true → b ≡ false → ⊥
both_ways true t f = absurd cc
both_ways false t f = absurd cc

-- a log that nothing changed may be one that a window is appended to
pub unchanged_grows : {D : Type 0} (state : D → DiskState) (s : StoreParts D) (is : IsStore state s) (w : Span) → Follows s.high w
    → IfSome (log_of state s).windows (λ ws. passes state (ws ++ w ∷ []) (growing_to w.scn (log_of state s)) s s)
unchanged_grows state s is w follows =
    if_told (is_told state s) (windows state s) _ (λ told. Passes.Stays (λ images beside.
    growing_part (log_of state s) images (windows state s ++ w ∷ []) (windows state s) w.scn s.high (omega arith) (omega (arith, follows.chained, follows.within.prev))
    (old_part s.floor s.high (windows state s) (line state s is told).0 (line state s is told).1 w follows) (rest_log state s is told images beside)))

module _ {D : Type 0} (state : D → DiskState) (old : StoreParts D) (is : IsStore state old) (w : Span) (follows : Follows old.high w) (p : ℕ) (last : last_place old.order ≡ Some p)
    (before after : SegmentParts D) (stood : slice_get old.segments p ≡ Some before) where
  abbrev now : List (SegmentParts D)
  now = slice_set old.segments p after

  later_faults : (r : Result Unit LogFault) → Appends w (told state before) (told state after) r → faults_of state old.segments ≤ faults_of state now
  later_faults r made = omega (arith, made.faults, faults_set state old.segments p before after stood)

  losses_kept : after.numbers.lost ≡ before.numbers.lost → losses_of now ≡ losses_of old.segments
  losses_kept same = omega (arith, losses_set old.segments p before after stood, same)

  full_is : lacks_room (span_size w) before.numbers.used ≡ false → (log_of state old).full (span_size w) ≡ false
  full_is room =
      let used : used_at old.segments (last_place old.order) ≡ Some before.numbers.used =
      ap (used_at old.segments) last ∙ ap (λ (n : Numbers). Some n.used) (numbers_before state old.segments p before after stood) in
      ap (λ u. is_full u (free_place old.segments) (span_size w)) used ∙ not_full (span_size w) before.numbers.used (free_place old.segments) room

  crash_of : (r : Result Unit LogFault) → Appends w (told state before) (told state after) r → (new : StoreParts D) → new.segments ≡ now
      → IfSome (log_of state old).windows (λ ws. passes state (ws ++ w ∷ []) (growing_to w.scn (log_of state old)) old new)
  crash_of r made new same =
      if_told (is_told state old) (windows state old) _ (λ told. subst (λ n. Passes (disks state) (HoldPart (windows state old ++ w ∷ []) (growing_to w.scn (log_of state old))) old.segments n) (sym same)
      (grow_passes state old is w follows p last before after stood r made told))

  pub append_done : (scn : ℕ) (x : Unit {0}) → scn ≡ w.scn → Appends w (told state before) (told state after) (Ok x) → Grows state w old (record old { segments = now; high = scn }) (Ok x)
  append_done scn x scn_is made = record {
    appends = record {
      counts = record { faults = later_faults (Ok x) made; failed = tt; sound = tt; room = refl };
      leaves = record {
        free = full_is made.leaves.0;
        floor = refl;
        high = scn_is;
        windows = if_map (is_told state old) (λ (ws : List Span). ws ++ w ∷ []) (windows state old) (windows_of (windows_at state now) old.order) (λ told. grow_windows state old is w follows p last before after stood (Ok x) made told x refl);
      };
    };
    crash = crash_of (Ok x) made (record old { segments = now; high = scn }) refl;
    losses = losses_kept (ap (λ (n : Numbers). n.lost) made.leaves.1);
  }

  pub append_is : (scn : ℕ) (x : Unit {0}) → scn ≡ w.scn → Appends w (told state before) (told state after) (Ok x) → IsStore state (record old { segments = now; high = scn })
  append_is scn x scn_is made = record {
    joined = subst (λ h. Joined (numbers_at now) old.floor old.order h) (sym scn_is) (grow_joined state old is w follows p last before after stood (Ok x) made x refl);
    places = subst (λ n. AllBelow n old.order) (sym (length-set old.segments p after)) is.places;
    within = omega (arith, scn_is, follows.within.scn);
    empty = is.empty;
    stands = λ told. grow_stands state old is w follows p last before after stood (Ok x) made told x refl;
  }

  pub append_failed : Appends w (told state before) (told state after) (Err faults.Failed) → Grows state w old (record old { segments = now; lost = true }) (Err faults.Failed)
  append_failed made = record {
    appends = record {
      counts = record { faults = later_faults (Err faults.Failed) made; failed = omega (arith, made.failed, faults_set state old.segments p before after stood); sound = tt; room = refl };
      leaves = tt;
    };
    crash = crash_of (Err faults.Failed) made (record old { segments = now; lost = true }) refl;
    losses = losses_kept (ap (λ (n : Numbers). n.lost) made.leaves.1);
  }

  pub append_lost : Appends w (told state before) (told state after) (Err faults.Failed) → IsStore state (record old { segments = now; lost = true })
  append_lost made =
      let number = numbers_before state old.segments p before after stood in
      let same : after.numbers ≡ numbers_at old.segments p = made.leaves.1 ∙ sym number in
      record {
        joined = grown_joined (numbers_at old.segments) (numbers_at now) p (numbers_else state old.segments p before after stood) after.numbers (numbers_here state old.segments p before after stood)
            (ap (λ (n : Numbers). n.floor) same) (ap (λ (n : Numbers). n.in_use) same) old.floor old.high old.high old.order last
            (ap (λ (n : Numbers). n.high) same ∙ joined_last (numbers_at old.segments) old.floor old.high p old.order last is.joined) (omega arith) is.joined;
        places = subst (λ n. AllBelow n old.order) (sym (length-set old.segments p after)) is.places;
        within = is.within;
        empty = is.empty;
        stands = λ told. absurd cc;
      }

  -- nothing was changed
  pub append_kept : after ≡ before → Appends w (told state before) (told state after) (Err faults.NoMemory) → Grows state w old (record old { segments = now }) (Err faults.NoMemory)
  append_kept kept made =
      let same : now ≡ old.segments = set_same old.segments p after before stood kept in
      record {
        appends = record {
          counts = record { faults = later_faults (Err faults.NoMemory) made; failed = tt; sound = tt; room = refl };
          leaves = (full_is made.leaves.0, subst (λ (ss : List (SegmentParts D)). SameLog (log_of state old) (log_of state (record old { segments = ss }))) (sym same) refl);
        };
        crash = subst (λ (ss : List (SegmentParts D)). IfSome (log_of state old).windows (λ ws. passes state (ws ++ w ∷ []) (growing_to w.scn (log_of state old)) old (record old { segments = ss }))) (sym same)
            (unchanged_grows state old is w follows);
        losses = losses_kept (ap (λ (n : Numbers). n.lost) made.leaves.1);
      }

  pub append_kept_is : after ≡ before → IsStore state (record old { segments = now })
  append_kept_is kept = subst (λ (ss : List (SegmentParts D)). IsStore state (record old { segments = ss })) (sym (set_same old.segments p after before stood kept)) is

  -- there was room
  pub append_roomy : {P : Type 0} → lacks_room (span_size w) before.numbers.used ≡ false → Appends w (told state before) (told state after) (Err faults.Full) → P
  append_roomy room made = absurd (both_ways (lacks_room (span_size w) before.numbers.used) made.leaves.0 room)
