-- What calls leave of a log, as it is told and as it is kept.
use Rattle.std.proofs.Common.{◌≡◌, ◌∙◌, ◌<◌, ◌≤◌, ℕ, Bool, true, false, List, [], ◌∷◌, ◌++◌, length, Option, Some, None, Result, Ok, Err, sym, ap, subst, refl, arith}
use Rattle.std.specs.Prelude.{if◌then◌else◌}
use Rattle.std.proofs.lemmas.List.{length-set}
use Rattle.std.proofs.lemmas.Option.{same_Some}
use Rattle.bus_types.specs.declared.fault.Failed.{Failed}
use Rattle.bus_types.specs.Window.{Span, span_size, IsSpan}
use Rattle.bus_types.specs.Timeline.{Follows}
use Rattle.bus_stores.specs.declared.log.LogFault.{LogFault}
use Rattle.bus_stores.specs.declared.log.LogFault.TheVariants as faults
use Rattle.log_disk.specs.Disk.{DiskState}
use Rattle.log_segment.specs.Lookup.{ReadsNext}
use Rattle.log_segment.specs.Segment.{Numbers, SegmentParts, told, Appends, Frees, OnRefused}
use Rattle.log_store.specs.Change.{Changes}
use Rattle.log_store.specs.First.{PutsFirst}
use Rattle.log_store.specs.Order.{numbers_at, high_at, last_place, lacks_room, if_roomy, free_place, place_after}
use Rattle.log_store.specs.Store.{StoreParts, IsStore}
use Rattle.log_store.specs.Steps.{Grows, Reads, Drops, DropsOldest}
use Rattle.log_store.proofs.Orders.{below_last, joined_last, joined_used, last_is_in, in_below}
use Rattle.log_store.proofs.Places.{numbers_before, free_found}
use Rattle.log_store.proofs.Appending.{append_done, append_is, append_failed, append_lost, append_kept, append_kept_is, append_roomy}
use Rattle.log_store.proofs.Begun.{none_free, none_left, begin_done, begin_is, begin_failed, begin_lost, begin_kept, begin_kept_is}
use Rattle.log_store.proofs.Freeing.{free_done, free_is, free_failed, free_lost, drops_none}
use Rattle.log_store.proofs.Finding.{none_behind, read_by, read_is, place_in}

-- as many segments as before
pub as_many : {D : Type 0} (step : SegmentParts D → SegmentParts D → Type 0) (p : ℕ) (ss now : List (SegmentParts D)) → Changes step p ss now → length now ≡ length ss
as_many step p ss now ch = ap (λ (l : List (SegmentParts _)). length l) ch.stands ∙ length-set ss p ch.after

roomy_some : (lacks : Bool) (i p : ℕ) → (if lacks then None else Some i) ≡ Some p → (i ≡ p) × (lacks ≡ false)
roomy_some true i p e = absurd cc
roomy_some false i p e = (same_Some i p e, refl)

pub roomy_place : {D : Type 0} (ss : List (SegmentParts D)) (size p : ℕ) (place : Option ℕ) → if_roomy ss size place ≡ Some p → (place ≡ Some p) × (lacks_room size (numbers_at ss p).used ≡ false)
roomy_place ss size p None e = absurd cc
roomy_place ss size p (Some i) e =
    let is = roomy_some (lacks_room size (numbers_at ss i).used) i p e in
    (ap Some is.0, subst (λ k. lacks_room size (numbers_at ss k).used ≡ false) is.0 is.1)

module _ {D : Type 0} (state : D → DiskState) (now view : StoreParts D) (seen : view ≡ now) (is : IsStore state view) where
  module _ (w : Span) (span : IsSpan w) (chained : w.prev ≡ now.high) (full : 0 < length w.changes) where
    follows : Follows view.high w
    follows = record { chained = chained ∙ sym (ap (λ (s : StoreParts D). s.high) seen); full = full; within = span }

    -- ---- an append to the last segment

    module _ (p : ℕ) (roomy : if_roomy now.segments (span_size w) (last_place now.order) ≡ Some p) where
      found : (last_place view.order ≡ Some p) × (lacks_room (span_size w) (numbers_at view.segments p).used ≡ false)
      found = roomy_place view.segments (span_size w) p (last_place view.order) (subst (λ (s : StoreParts D). if_roomy s.segments (span_size w) (last_place s.order) ≡ Some p) (sym seen) roomy)

      pub last_below : p < length view.segments
      last_below = below_last (length view.segments) view.order p is.places found.0

      pub last_used : (numbers_at view.segments p).in_use ≡ true
      last_used = joined_used (numbers_at view.segments) view.floor view.high view.order is.joined p (last_is_in view.order p found.0)

      pub last_chained : w.prev ≡ (numbers_at view.segments p).high
      last_chained = follows.chained ∙ sym (joined_last (numbers_at view.segments) view.floor view.high p view.order found.0 is.joined)

      module _ (r : Result Unit LogFault) (ss : List (SegmentParts D)) (ch : Changes (λ a b. Appends w (told state a) (told state b) r × OnRefused r (b ≡ a)) p view.segments ss) where
        pub last_done : (scn : ℕ) (x : Unit {0}) → r ≡ Ok x → scn ≡ w.scn → Grows state w now (record view { segments = ss; high = scn }) (Ok x)
        last_done scn x ok scn_is =
            subst (λ (o : StoreParts D). Grows state w o (record view { segments = ss; high = scn }) (Ok x)) seen
            (subst (λ (l : List (SegmentParts D)). Grows state w view (record view { segments = l; high = scn }) (Ok x)) (sym ch.stands)
            (append_done state view is w follows p found.0 ch.before ch.after ch.stood scn x scn_is (subst (λ a. Appends w (told state ch.before) (told state ch.after) a) ok ch.made.0)))

        pub last_is : (scn : ℕ) (x : Unit {0}) → r ≡ Ok x → scn ≡ w.scn → IsStore state (record view { segments = ss; high = scn })
        last_is scn x ok scn_is =
            subst (λ (l : List (SegmentParts D)). IsStore state (record view { segments = l; high = scn })) (sym ch.stands)
            (append_is state view is w follows p found.0 ch.before ch.after ch.stood scn x scn_is (subst (λ a. Appends w (told state ch.before) (told state ch.after) a) ok ch.made.0))

        pub last_failed : r ≡ Err faults.Failed → Grows state w now (record view { segments = ss; lost = true }) (Err faults.Failed)
        last_failed err =
            subst (λ (o : StoreParts D). Grows state w o (record view { segments = ss; lost = true }) (Err faults.Failed)) seen
            (subst (λ (l : List (SegmentParts D)). Grows state w view (record view { segments = l; lost = true }) (Err faults.Failed)) (sym ch.stands)
            (append_failed state view is w follows p found.0 ch.before ch.after ch.stood (subst (λ a. Appends w (told state ch.before) (told state ch.after) a) err ch.made.0)))

        pub last_lost : r ≡ Err faults.Failed → IsStore state (record view { segments = ss; lost = true })
        last_lost err =
            subst (λ (l : List (SegmentParts D)). IsStore state (record view { segments = l; lost = true })) (sym ch.stands)
            (append_lost state view is w follows p found.0 ch.before ch.after ch.stood (subst (λ a. Appends w (told state ch.before) (told state ch.after) a) err ch.made.0))

        pub last_kept : r ≡ Err faults.NoMemory → Grows state w now (record view { segments = ss }) (Err faults.NoMemory)
        last_kept err =
            subst (λ (o : StoreParts D). Grows state w o (record view { segments = ss }) (Err faults.NoMemory)) seen
            (subst (λ (l : List (SegmentParts D)). Grows state w view (record view { segments = l }) (Err faults.NoMemory)) (sym ch.stands)
            (append_kept state view is w follows p found.0 ch.before ch.after ch.stood (subst (λ a. OnRefused a (ch.after ≡ ch.before)) err ch.made.1) (subst (λ a. Appends w (told state ch.before) (told state ch.after) a) err ch.made.0)))

        pub last_kept_is : r ≡ Err faults.NoMemory → IsStore state (record view { segments = ss })
        last_kept_is err =
            subst (λ (l : List (SegmentParts D)). IsStore state (record view { segments = l })) (sym ch.stands)
            (append_kept_is state view is w follows p found.0 ch.before ch.after ch.stood (subst (λ a. OnRefused a (ch.after ≡ ch.before)) err ch.made.1))

        -- it had room
        pub last_roomy : {P : Type 0} → r ≡ Err faults.Full → P
        last_roomy err =
            append_roomy state view is w follows p found.0 ch.before ch.after ch.stood
            (subst (λ (n : Numbers). lacks_room (span_size w) n.used ≡ false) (numbers_before state view.segments p ch.before ch.after ch.stood) found.1)
            (subst (λ a. Appends w (told state ch.before) (told state ch.after) a) err ch.made.0)

    -- ---- an append to a segment that isn't in use

    module _ (none : if_roomy now.segments (span_size w) (last_place now.order) ≡ None) where
      none_here : if_roomy view.segments (span_size w) (last_place view.order) ≡ None
      none_here = subst (λ (s : StoreParts D). if_roomy s.segments (span_size w) (last_place s.order) ≡ None) (sym seen) none

      pub next_full : free_place view.segments ≡ None → Grows state w now view (Err faults.Full)
      next_full free = subst (λ (o : StoreParts D). Grows state w o view (Err faults.Full)) seen (none_free state view is w follows none_here free)

      module _ (p : ℕ) (free : free_place view.segments ≡ Some p) where
        pub next_left : Grows state w now view (Err faults.NoMemory)
        next_left = subst (λ (o : StoreParts D). Grows state w o view (Err faults.NoMemory)) seen (none_left state view is w follows p free)

        module _ (r : Result Unit LogFault) (ss : List (SegmentParts D)) (ch : Changes (λ a b. PutsFirst w (told state a) (told state b) r) p view.segments ss) where
          unused : ch.before.numbers.in_use ≡ false
          unused =
              let f = free_found view.segments p free in
              subst (λ (s : SegmentParts D). s.numbers.in_use ≡ false) (same_Some f.0 ch.before (sym f.1 ∙ ch.stood)) f.2

          pub next_done : (scn : ℕ) (order : List ℕ) (x : Unit {0}) → r ≡ Ok x → scn ≡ w.scn → order ≡ view.order ++ p ∷ [] → Grows state w now (record view { segments = ss; order = order; high = scn }) (Ok x)
          next_done scn order x ok scn_is order_is =
              subst (λ (o : StoreParts D). Grows state w o (record view { segments = ss; order = order; high = scn }) (Ok x)) seen
              (subst (λ (l : List (SegmentParts D)). Grows state w view (record view { segments = l; order = order; high = scn }) (Ok x)) (sym ch.stands)
              (begin_done state view is w follows p free none_here ch.before ch.after ch.stood unused scn order x scn_is order_is (subst (λ a. PutsFirst w (told state ch.before) (told state ch.after) a) ok ch.made)))

          pub next_is : (scn : ℕ) (order : List ℕ) (x : Unit {0}) → r ≡ Ok x → scn ≡ w.scn → order ≡ view.order ++ p ∷ [] → IsStore state (record view { segments = ss; order = order; high = scn })
          next_is scn order x ok scn_is order_is =
              subst (λ (l : List (SegmentParts D)). IsStore state (record view { segments = l; order = order; high = scn })) (sym ch.stands)
              (begin_is state view is w follows p free none_here ch.before ch.after ch.stood unused scn order x scn_is order_is (subst (λ a. PutsFirst w (told state ch.before) (told state ch.after) a) ok ch.made))

          pub next_failed : r ≡ Err faults.Failed → Grows state w now (record view { segments = ss; lost = true }) (Err faults.Failed)
          next_failed err =
              subst (λ (o : StoreParts D). Grows state w o (record view { segments = ss; lost = true }) (Err faults.Failed)) seen
              (subst (λ (l : List (SegmentParts D)). Grows state w view (record view { segments = l; lost = true }) (Err faults.Failed)) (sym ch.stands)
              (begin_failed state view is w follows p free none_here ch.before ch.after ch.stood unused (subst (λ a. PutsFirst w (told state ch.before) (told state ch.after) a) err ch.made)))

          pub next_lost : IsStore state (record view { segments = ss; lost = true })
          next_lost =
              subst (λ (l : List (SegmentParts D)). IsStore state (record view { segments = l; lost = true })) (sym ch.stands)
              (begin_lost state view is w follows p free none_here ch.before ch.after ch.stood unused)

          pub next_kept : r ≡ Err faults.NoMemory → Grows state w now (record view { segments = ss }) (Err faults.NoMemory)
          next_kept err =
              subst (λ (o : StoreParts D). Grows state w o (record view { segments = ss }) (Err faults.NoMemory)) seen
              (subst (λ (l : List (SegmentParts D)). Grows state w view (record view { segments = l }) (Err faults.NoMemory)) (sym ch.stands)
              (begin_kept state view is w follows p free none_here ch.before ch.after ch.stood unused (subst (λ a. PutsFirst w (told state ch.before) (told state ch.after) a) err ch.made)))

          pub next_kept_is : r ≡ Err faults.NoMemory → IsStore state (record view { segments = ss })
          next_kept_is err =
              subst (λ (l : List (SegmentParts D)). IsStore state (record view { segments = l })) (sym ch.stands)
              (begin_kept_is state view is w follows p free none_here ch.before ch.after ch.stood unused (subst (λ a. PutsFirst w (told state ch.before) (told state ch.after) a) err ch.made))

  -- ---- a read

  module _ (scn : ℕ) (low : now.floor ≤ scn) where
    low_here : view.floor ≤ scn
    low_here = subst (λ (s : StoreParts D). s.floor ≤ scn) (sym seen) low

    module _ (p : ℕ) (place : place_after (high_at now.segments) scn now.order ≡ Some p) where
      place_here : place_after (high_at view.segments) scn view.order ≡ Some p
      place_here = subst (λ (s : StoreParts D). place_after (high_at s.segments) scn s.order ≡ Some p) (sym seen) place

      pub read_below : p < length view.segments
      read_below = in_below (length view.segments) p view.order is.places (place_in (high_at view.segments) scn p view.order place_here)

      module _ (r : Result (Option Span) LogFault) (ss : List (SegmentParts D)) (ch : Changes (λ a b. ReadsNext scn (told state a) (told state b) r) p view.segments ss) where
        pub reads : Reads state scn now (record view { segments = ss }) r
        reads =
            subst (λ (o : StoreParts D). Reads state scn o (record view { segments = ss }) r) seen
            (subst (λ (l : List (SegmentParts D)). Reads state scn view (record view { segments = l }) r) (sym ch.stands)
            (read_by state view is scn low_here p place_here ch.before ch.after ch.stood r ch.made))

        pub reads_is : IsStore state (record view { segments = ss })
        reads_is =
            subst (λ (l : List (SegmentParts D)). IsStore state (record view { segments = l })) (sym ch.stands)
            (read_is state view is scn low_here p place_here ch.before ch.after ch.stood r ch.made)

    pub reads_none : place_after (high_at view.segments) scn view.order ≡ None → Reads state scn now view (Ok None)
    reads_none none = subst (λ (o : StoreParts D). Reads state scn o view (Ok None)) seen (none_behind state view is scn low_here none)

  -- ---- a drop

  pub unchanged_drops : (scn : ℕ) (x : Unit {0}) → Drops state scn now now (Ok x)
  unchanged_drops scn x = subst (λ (o : StoreParts D). Drops state scn o o (Ok x)) seen (drops_none state view scn x is)

  module _ (scn p : ℕ) (more : List ℕ) (order_is : view.order ≡ p ∷ more) (many : 1 < length now.order) (low : (q : ℕ) (rest : List ℕ) → now.order ≡ q ∷ rest → high_at now.segments q ≤ scn) where
    some : more ≡ [] → ⊥
    some none = omega (arith, many, ap (λ (s : StoreParts D). length s.order) seen, ap (λ (l : List ℕ). length l) order_is, ap (λ (l : List ℕ). length l) none)

    low_here_is : high_at view.segments p ≤ scn
    low_here_is = subst (λ (s : StoreParts D). high_at s.segments p ≤ scn) (sym seen) (low p more (ap (λ (s : StoreParts D). s.order) (sym seen) ∙ order_is))

    module _ (r : Result Unit Failed) (ss : List (SegmentParts D)) (ch : Changes (λ a b. Frees (told state a) (told state b) r) p view.segments ss) where
      ends : ch.before.numbers.high ≤ scn
      ends = subst (λ (n : Numbers). n.high ≤ scn) (numbers_before state view.segments p ch.before ch.after ch.stood) low_here_is

      pub drop_done : (floor : ℕ) (order : List ℕ) (x : Unit {0}) → r ≡ Ok x → floor ≡ high_at view.segments p → order ≡ more → DropsOldest state scn now (record view { segments = ss; order = order; floor = floor }) (Ok x)
      drop_done floor order x ok floor_is order_more = (
        subst (λ (o : StoreParts D). Drops state scn o (record view { segments = ss; order = order; floor = floor }) (Ok x)) seen
            (subst (λ (l : List (SegmentParts D)). Drops state scn view (record view { segments = l; order = order; floor = floor }) (Ok x)) (sym ch.stands)
            (free_done state view is scn p more order_is some ch.before ch.after ch.stood ends r ch.made floor order x ok floor_is order_more)),
        omega (arith, ap (λ (l : List ℕ). length l) order_more, ap (λ (l : List ℕ). length l) order_is, ap (λ (s : StoreParts D). length s.order) seen),
      )

      pub drop_is : (floor : ℕ) (order : List ℕ) (x : Unit {0}) → r ≡ Ok x → floor ≡ high_at view.segments p → order ≡ more → IsStore state (record view { segments = ss; order = order; floor = floor })
      drop_is floor order x ok floor_is order_more =
          subst (λ (l : List (SegmentParts D)). IsStore state (record view { segments = l; order = order; floor = floor })) (sym ch.stands)
          (free_is state view is scn p more order_is some ch.before ch.after ch.stood ends r ch.made floor order x ok floor_is order_more)

      pub drop_failed : (e : Failed) → r ≡ Err e → DropsOldest state scn now (record view { segments = ss; lost = true }) (Err e)
      drop_failed e err =
          subst (λ (o : StoreParts D). Drops state scn o (record view { segments = ss; lost = true }) (Err faults.Failed)) seen
          (subst (λ (l : List (SegmentParts D)). Drops state scn view (record view { segments = l; lost = true }) (Err faults.Failed)) (sym ch.stands)
          (free_failed state view is scn p more order_is some ch.before ch.after ch.stood ends r ch.made e err))

      pub drop_lost : (e : Failed) → r ≡ Err e → IsStore state (record view { segments = ss; lost = true })
      drop_lost e err =
          subst (λ (l : List (SegmentParts D)). IsStore state (record view { segments = l; lost = true })) (sym ch.stands)
          (free_lost state view is scn p more order_is some ch.before ch.after ch.stood ends r ch.made e err)
