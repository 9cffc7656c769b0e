-- What each call leaves of a segment.
use Rattle.std.proofs.Common.{◌≡◌, ◌⊎◌, inl, inr, ⊎_elim, ℕ, ◌+◌, ◌≤◌, ◌<◌, true, false, List, [], ◌∷◌, ◌++◌, length, get_or, refl, sym, ◌∙◌, ap, subst, arith, Result, Ok, Err, IfSome}
use Rattle.std.proofs.lemmas.List.{append-nil}
use Rattle.std.proofs.lemmas.Bool.{cases_eq}
use Rattle.bus_types.specs.declared.limits.TheConstants.{MAX_SCN}
use Rattle.bus_types.specs.declared.fault.Failed.{Failed}
use Rattle.bus_types.specs.Causes.{HasCause}
use Rattle.bus_types.specs.Window.{Span, span_size}
use Rattle.bus_types.specs.Timeline.{Follows, IsTimelineFrom, end_from}
use Rattle.bus_stores.specs.declared.log.LogFault.TheVariants as faults
use Rattle.log_disk.specs.Disk.{DiskState, LeavesOnly, BothTold, Torn}
use Rattle.log_disk.specs.Pending.{put}
use Rattle.log_disk.proofs.Moments.{started, weaker}
use Rattle.log_segment.specs.declared.segment.Entry.{Entry}
use Rattle.log_segment.specs.Image.{Ends, EndsEither, records, whole, IsFree, StandsFor, HoldsInUse, head_bytes, record_bytes}
use Rattle.log_segment.specs.Gate.{RestsAt, RestsBehind, NoShorter, WritesLasting, CutsLasting, PutsBehind}
use Rattle.log_segment.specs.Segment.{Numbers, SegmentParts, SegmentState, told, RisesTo, IsSegment, numbers_of, free_numbers, Stands, StandsFree, BeginsBehind, Frees, Formats, Appends, with_window, is_full}
use Rattle.log_segment.proofs.Images.{length-push, whole-push, entries-push}
use Rattle.log_segment.proofs.Gates.{reach_stays, later_cause, torn_gate, put_gate}

-- ---- counts and numbers

sum_cause : {X : Type 0} (f g l m : ℕ) (r : Result X Failed) → m ≡ l → HasCause f g r → HasCause (f + l) (g + m) r
sum_cause f g l m (Ok x) same cause = record { later = omega (arith, cause.later, same); failed = tt }
sum_cause f g l m (Err e) same cause = record { later = omega (arith, cause.later, same); failed = omega (arith, cause.failed, cause.later, same) }

lost_of : (n m : Numbers) → n ≡ m → n.lost ≡ m.lost
lost_of n m is = ap (λ (x : Numbers). x.lost) is

-- numbers that name what was lost themselves
own_lost : (n : Numbers) (of : ℕ → Numbers) (lost : ℕ) → n ≡ of lost → (of lost).lost ≡ lost → n ≡ of n.lost
own_lost n of lost is same = is ∙ ap of (sym (lost_of n (of lost) is ∙ same))

abbrev state : DiskState → Numbers → SegmentState
state d n = record { disk = d; numbers = n }

-- no longer room is needed than there was
pub still_segment : (a b : DiskState) (n : Numbers) → IsSegment (state a n) → BothTold NoShorter a.seen b.seen → IsSegment (state b n)
still_segment a b n is seen = record { some = is.some; room = reach_stays n.used a.seen b.seen seen is.room; rises = is.rises; within = is.within }

-- ---- begin

module _ (prev : ℕ) (text : List ℕ) (a b : DiskState) (m : Numbers) (text_is : text ≡ head_bytes prev ++ 0 ∷ []) where
  begun_leaves : (r : Result Unit Failed) → PutsBehind 0 text a b r → prev ≤ MAX_SCN → StandsFree (state a m) → LeavesOnly a.clock b.clock (λ c. IsFree c ⊎ HoldsInUse prev [] c)
  begun_leaves r p low free = weaker a.clock b.clock (EndsEither [] (head_bytes prev)) _
      (λ c. ⊎_elim (λ is_free. inl is_free) (λ begun. inr (record { low = low; chained = tt; ends = subst (λ (l : List ℕ). Ends (165 ∷ l) c) (sym (append-nil (head_bytes prev))) begun })))
      (p.crash [] (head_bytes prev) refl text_is free.rests)

  pub begun : (n : Numbers) (x : Unit {0}) → PutsBehind 0 text a b (Ok x) → n ≡ numbers_of m.lost prev [] → prev ≤ MAX_SCN → BeginsBehind prev (state a m) (state b n) (Ok x)
  begun n x p is low = record {
    counts = sum_cause a.faults b.faults m.lost n.lost (Ok x) (lost_of n _ is) p.cause;
    numbers = is;
    crash = begun_leaves (Ok x) p low;
    done = λ free. record {
      low = low;
      chained = tt;
      numbers = own_lost n (λ l. numbers_of l prev []) m.lost is refl;
      rests = subst (λ (l : List ℕ). RestsBehind (165 ∷ l) b) (sym (append-nil (head_bytes prev))) (p.done [] (head_bytes prev) refl text_is free.rests);
    };
  }

  pub not_begun : (e : Failed) → PutsBehind 0 text a b (Err e) → prev ≤ MAX_SCN → BeginsBehind prev (state a m) (state b m) (Err e)
  not_begun e p low = record { counts = sum_cause a.faults b.faults m.lost m.lost (Err e) refl p.cause; numbers = refl; crash = begun_leaves (Err e) p low; done = tt }

-- the same, of a segment as it stood and as it is seen
module _ {D : Type 0} (st : D → DiskState) (old view : SegmentParts D) (is_view : view ≡ old) where
  pub begun_by : (prev : ℕ) (text : List ℕ) (new : SegmentParts D) (d : D) (x : Unit {0}) → text ≡ head_bytes prev ++ 0 ∷ [] → new.disk ≡ d → PutsBehind 0 text (st view.disk) (st d) (Ok x)
      → new.numbers ≡ numbers_of view.numbers.lost prev [] → prev ≤ MAX_SCN → BeginsBehind prev (told st old) (told st new) (Ok x)
  begun_by prev text new d x text_is same p is low =
      subst (λ (o : SegmentParts D). BeginsBehind prev (told st o) (told st new) (Ok x)) is_view
      (subst (λ (e : D). BeginsBehind prev (told st view) (state (st e) new.numbers) (Ok x)) (sym same)
      (begun prev text (st view.disk) (st d) view.numbers text_is new.numbers x p is low))

  pub not_begun_by : (prev : ℕ) (text : List ℕ) (d : D) (e : Failed) → text ≡ head_bytes prev ++ 0 ∷ [] → PutsBehind 0 text (st view.disk) (st d) (Err e) → prev ≤ MAX_SCN → BeginsBehind prev (told st old) (state (st d) view.numbers) (Err e)
  not_begun_by prev text d e text_is p low =
      subst (λ (o : SegmentParts D). BeginsBehind prev (told st o) (state (st d) view.numbers) (Err e)) is_view (not_begun prev text (st view.disk) (st d) view.numbers text_is e p low)

-- ---- free

module _ (a b : DiskState) (m : Numbers) where
  -- behind the gate of the segment
  module _ (from : ℕ) (ws : List Span) (stands : Stands from ws (state a m)) where
    abbrev tail : List ℕ
    tail = (head_bytes from ++ records ws) ++ stands.rests.ends.gate ∷ stands.rests.ends.rest

    in_use : RestsAt (165 ∷ tail) a
    in_use = subst (λ (l : List ℕ). RestsAt l a) stands.rests.ends.parts stands.rests.rests

    used_or_free : (c : List ℕ) → Torn 0 1 (165 ∷ tail) c → HoldsInUse from ws c ⊎ IsFree c
    used_or_free c torn =
        let is : c ≡ get_or c 0 0 ∷ tail = torn_gate [] tail 165 0 refl c torn in
        elim (cases_eq (get_or c 0 0) 165) [
          | inl open_gate ↦ inl (record { low = stands.low; chained = stands.chained; ends = record { gate = stands.rests.ends.gate; rest = stands.rests.ends.rest; closed = stands.rests.ends.closed; parts = is ∙ ap (λ (g : ℕ). g ∷ tail) open_gate } })
          | inr shut ↦ inr (record { gate = get_or c 0 0; rest = tail; closed = shut; parts = is })
        ]

    freed_rests : (x : Unit {0}) → WritesLasting 0 (0 ∷ []) a b (Ok x) → RestsBehind [] b
    freed_rests x w = record {
      bytes = 0 ∷ tail;
      rests = subst (λ (l : List ℕ). RestsAt l b) (put_gate [] tail 165 0 refl 0) (w.done (165 ∷ tail) in_use.seen);
      ends = record { gate = 0; rest = tail; closed = omega arith; parts = refl };
    }

  closed_leaves : (r : Result Unit Failed) → WritesLasting 0 (0 ∷ []) a b r → (from : ℕ) (ws : List Span) → Stands from ws (state a m) → LeavesOnly a.clock b.clock (λ c. HoldsInUse from ws c ⊎ IsFree c)
  closed_leaves r w from ws stands = weaker a.clock b.clock (Torn 0 1 (165 ∷ tail from ws stands)) _ (used_or_free from ws stands) (w.crash (165 ∷ tail from ws stands) (in_use from ws stands))

  pub freed : (n : Numbers) (x : Unit {0}) → WritesLasting 0 (0 ∷ []) a b (Ok x) → n ≡ free_numbers m.lost → Frees (state a m) (state b n) (Ok x)
  freed n x w is = record {
    counts = sum_cause a.faults b.faults m.lost n.lost (Ok x) (lost_of n _ is) w.cause;
    numbers = is;
    crash = closed_leaves (Ok x) w;
    done = λ from ws stands. record { numbers = own_lost n free_numbers m.lost is refl; rests = freed_rests from ws stands x w };
  }

  pub not_freed : (e : Failed) → WritesLasting 0 (0 ∷ []) a b (Err e) → Frees (state a m) (state b m) (Err e)
  not_freed e w = record { counts = sum_cause a.faults b.faults m.lost m.lost (Err e) refl w.cause; numbers = refl; crash = closed_leaves (Err e) w; done = tt }

module _ {D : Type 0} (st : D → DiskState) (old view : SegmentParts D) (is_view : view ≡ old) where
  pub freed_by : (new : SegmentParts D) (d : D) (x : Unit {0}) → new.disk ≡ d → WritesLasting 0 (0 ∷ []) (st view.disk) (st d) (Ok x) → new.numbers ≡ free_numbers view.numbers.lost → Frees (told st old) (told st new) (Ok x)
  freed_by new d x same w is =
      subst (λ (o : SegmentParts D). Frees (told st o) (told st new) (Ok x)) is_view
      (subst (λ (e : D). Frees (told st view) (state (st e) new.numbers) (Ok x)) (sym same) (freed (st view.disk) (st d) view.numbers new.numbers x w is))

  pub not_freed_by : (d : D) (e : Failed) → WritesLasting 0 (0 ∷ []) (st view.disk) (st d) (Err e) → Frees (told st old) (state (st d) view.numbers) (Err e)
  not_freed_by d e w = subst (λ (o : SegmentParts D). Frees (told st o) (state (st d) view.numbers) (Err e)) is_view (not_freed (st view.disk) (st d) view.numbers e w)

-- ---- format

module _ (a b : DiskState) where
  pub not_formatted : (e : Failed) → WritesLasting 0 (0 ∷ []) a b (Err e) → Formats a b (Err e)
  not_formatted e w = record { cause = w.cause; done = tt; gate = tt }

  pub formatted : (d : DiskState) (x : Unit {0}) (r : Result Unit Failed) → WritesLasting 0 (0 ∷ []) a b (Ok x) → CutsLasting 1 b d r → Formats a d r
  formatted d x (Ok y) w s = record {
    cause = later_cause a.faults b.faults d.faults (Ok y) w.cause.later s.cause;
    done = λ bytes is. record {
      bytes = 0 ∷ [];
      rests = s.done (put 0 (0 ∷ []) bytes) (w.done bytes is).seen;
      ends = record { gate = 0; rest = []; closed = omega arith; parts = refl };
    };
    gate = λ bytes is. s.done (put 0 (0 ∷ []) bytes) (w.done bytes is).seen;
  }
  formatted d x (Err e) w s = record { cause = later_cause a.faults b.faults d.faults (Err e) w.cause.later s.cause; done = tt; gate = tt }

pub ruleset formats = (formatted, not_formatted)

-- ---- append

pub timeline-push : (from : ℕ) (ws : List Span) (w : Span) → IsTimelineFrom from ws → Follows (end_from from ws) w → IsTimelineFrom from (ws ++ w ∷ [])
timeline-push from [] w chained follows = (follows, tt)
timeline-push from (v ∷ ws) w chained follows = (chained.0, timeline-push v.scn ws w chained.1 follows)

pub end_push : (from : ℕ) (ws : List Span) (w : Span) → end_from from (ws ++ w ∷ []) ≡ w.scn
end_push from [] w = refl
end_push from (v ∷ ws) w = end_push v.scn ws w

numbers-push : (lost from : ℕ) (ws : List Span) (w : Span) → with_window w (numbers_of lost from ws) ≡ numbers_of lost from (ws ++ w ∷ [])
numbers-push lost from ws w =
    let used : length (whole from ws) + 1 + span_size w + 5 ≡ length (whole from (ws ++ w ∷ [])) + 1 = omega (arith, length-push from ws w) in
    let high = sym (end_push from ws w) in
    let index = sym (entries-push from ws w) in
    λ i. record { used = used i; in_use = true; floor = from; high = high i; index = index i; lost = lost }

pub rises-push : (high low scn place : ℕ) (es : List Entry) → RisesTo high low es → high < scn → RisesTo scn low (es ++ record { scn = scn; place = place } ∷ [])
rises-push high low scn place [] rises lt = (omega (arith, rises, lt), refl)
rises-push high low scn place (e ∷ es) rises lt = (rises.0, rises-push high e.scn scn place es rises.1 lt)

module _ (w : Span) (text : List ℕ) (place : ℕ) (a b : DiskState) (m : Numbers) (text_is : text ≡ record_bytes w ++ 0 ∷ []) (at : m.used ≡ place + 1) where
  module _ (from : ℕ) (ws : List Span) (stands : Stands from ws (state a m)) where
    front_is : length (whole from ws) ≡ place
    front_is = omega (arith, at, ap (λ (x : Numbers). x.used) stands.numbers)

    more : (c : List ℕ) → Ends (whole from ws ++ 165 ∷ record_bytes w) c → StandsFor from (ws ++ w ∷ []) c
    more c ends = subst (λ (l : List ℕ). Ends l c) (sym (whole-push from ws w)) ends

    chained_more : Follows m.high w → IsTimelineFrom from (ws ++ w ∷ [])
    chained_more follows = timeline-push from ws w stands.chained (subst (λ (h : ℕ). Follows h w) (ap (λ (k : Numbers). k.high) stands.numbers) follows)

    appended_leaves : Follows m.high w → (r : Result Unit Failed) → PutsBehind place text a b r → LeavesOnly a.clock b.clock (λ c. HoldsInUse from ws c ⊎ HoldsInUse from (ws ++ w ∷ []) c)
    appended_leaves follows r p = weaker a.clock b.clock (EndsEither (whole from ws) (record_bytes w)) _
        (λ c. ⊎_elim (λ old. inl (record { low = stands.low; chained = stands.chained; ends = old })) (λ new. inr (record { low = stands.low; chained = chained_more follows; ends = more c new })))
        (p.crash (whole from ws) (record_bytes w) front_is text_is stands.rests)

    now_stands : (n : Numbers) (x : Unit {0}) → PutsBehind place text a b (Ok x) → n ≡ with_window w m → Follows m.high w → Stands from (ws ++ w ∷ []) (state b n)
    now_stands n x p is follows = record {
      low = stands.low;
      chained = timeline-push from ws w stands.chained (subst (λ (h : ℕ). Follows h w) (ap (λ (k : Numbers). k.high) stands.numbers) follows);
      numbers = own_lost n (λ l. numbers_of l from (ws ++ w ∷ [])) m.lost (is ∙ ap (λ (k : Numbers). with_window w k) stands.numbers ∙ numbers-push m.lost from ws w) refl;
      rests = subst (λ (l : List ℕ). RestsBehind l b) (sym (whole-push from ws w)) (p.done (whole from ws) (record_bytes w) front_is text_is stands.rests);
    }

  pub appended : (n : Numbers) (x y : Unit {0}) → PutsBehind place text a b (Ok x) → n ≡ with_window w m → Follows m.high w → is_full (span_size w) (state a m) ≡ false → Appends w (state a m) (state b n) (Ok y)
  appended n x y p is follows room = record {
    faults = (sum_cause a.faults b.faults m.lost n.lost (Ok x) (lost_of n _ is) p.cause).later;
    failed = tt;
    leaves = (room, is);
    crash = λ from ws stands. appended_leaves from ws stands follows (Ok x) p;
    done = λ from ws stands. now_stands from ws stands n x p is follows;
  }

  pub not_appended : (e : Failed) → PutsBehind place text a b (Err e) → Follows m.high w → is_full (span_size w) (state a m) ≡ false → Appends w (state a m) (state b m) (Err faults.Failed)
  not_appended e p follows room =
      let cause = sum_cause a.faults b.faults m.lost m.lost (Err e) refl p.cause in
      record { faults = cause.later; failed = cause.failed; leaves = (room, refl); crash = λ from ws stands. appended_leaves from ws stands follows (Err e) p; done = tt }

module _ (w : Span) (a : DiskState) (m : Numbers) where
  stays : (from : ℕ) (ws : List Span) → Stands from ws (state a m) → LeavesOnly a.clock a.clock (λ c. HoldsInUse from ws c ⊎ HoldsInUse from (ws ++ w ∷ []) c)
  stays from ws stands = started a.clock _ (λ c left. inl (record { low = stands.low; chained = stands.chained; ends = subst (StandsFor from ws) (sym (stands.rests.rests.only c left)) stands.rests.ends }))

  pub full : is_full (span_size w) (state a m) ≡ true → Appends w (state a m) (state a m) (Err faults.Full)
  full none = record { faults = omega arith; failed = tt; leaves = (none, refl); crash = stays; done = tt }

  pub no_memory : is_full (span_size w) (state a m) ≡ false → Appends w (state a m) (state a m) (Err faults.NoMemory)
  no_memory room = record { faults = omega arith; failed = tt; leaves = (room, refl); crash = stays; done = tt }

module _ {D : Type 0} (st : D → DiskState) (old view : SegmentParts D) (is_view : view ≡ old) (w : Span) where
  pub appended_by : (text : List ℕ) (place : ℕ) (d : D) (n : Numbers) (x y : Unit {0}) → text ≡ record_bytes w ++ 0 ∷ [] → view.numbers.used ≡ place + 1 → PutsBehind place text (st view.disk) (st d) (Ok x)
      → n ≡ with_window w view.numbers → Follows view.numbers.high w → is_full (span_size w) (told st view) ≡ false → Appends w (told st old) (state (st d) n) (Ok y)
  appended_by text place d n x y text_is at p is follows room =
      subst (λ (o : SegmentParts D). Appends w (told st o) (state (st d) n) (Ok y)) is_view (appended w text place (st view.disk) (st d) view.numbers text_is at n x y p is follows room)

  pub not_appended_by : (text : List ℕ) (place : ℕ) (d : D) (n : Numbers) (e : Failed) → n ≡ view.numbers → text ≡ record_bytes w ++ 0 ∷ [] → view.numbers.used ≡ place + 1 → PutsBehind place text (st view.disk) (st d) (Err e)
      → Follows view.numbers.high w → is_full (span_size w) (told st view) ≡ false → Appends w (told st old) (state (st d) n) (Err faults.Failed)
  not_appended_by text place d n e same text_is at p follows room =
      subst (λ (o : SegmentParts D). Appends w (told st o) (state (st d) n) (Err faults.Failed)) is_view
      (subst (λ (k : Numbers). Appends w (told st view) (state (st d) k) (Err faults.Failed)) (sym same) (not_appended w text place (st view.disk) (st d) view.numbers text_is at e p follows room))

  pub full_by : (n : Numbers) → n ≡ view.numbers → is_full (span_size w) (told st view) ≡ true → Appends w (told st old) (state (st view.disk) n) (Err faults.Full)
  full_by n same none = subst (λ (o : SegmentParts D). Appends w (told st o) (state (st view.disk) n) (Err faults.Full)) is_view
      (subst (λ (k : Numbers). Appends w (told st view) (state (st view.disk) k) (Err faults.Full)) (sym same) (full w (st view.disk) view.numbers none))

  pub no_memory_by : (n : Numbers) → n ≡ view.numbers → is_full (span_size w) (told st view) ≡ false → Appends w (told st old) (state (st view.disk) n) (Err faults.NoMemory)
  no_memory_by n same room = subst (λ (o : SegmentParts D). Appends w (told st o) (state (st view.disk) n) (Err faults.NoMemory)) is_view
      (subst (λ (k : Numbers). Appends w (told st view) (state (st view.disk) k) (Err faults.NoMemory)) (sym same) (no_memory w (st view.disk) view.numbers room))

-- numbers, field by field
pub numbers_with : (w : Span) (m : Numbers) (used scn : ℕ) (index roomy : List Entry) → used ≡ m.used + span_size w + 5 → scn ≡ w.scn → roomy ≡ m.index → index ≡ roomy ++ record { scn = scn; place = m.used } ∷ []
    → ◌≡◌ {A = Numbers} (record { used = used; in_use = m.in_use; floor = m.floor; high = scn; index = index; lost = m.lost }) (with_window w m)
numbers_with w m used scn index roomy used_is scn_is same pushed =
    let index_is : index ≡ m.index ++ record { scn = w.scn; place = m.used } ∷ [] = pushed ∙ (λ i. same i ++ record { scn = scn_is i; place = m.used } ∷ []) in
    λ i. record { used = used_is i; in_use = m.in_use; floor = m.floor; high = scn_is i; index = index_is i; lost = m.lost }

pub same_index : (m : Numbers) (roomy : List Entry) → roomy ≡ m.index → ◌≡◌ {A = Numbers} (record { used = m.used; in_use = m.in_use; floor = m.floor; high = m.high; index = roomy; lost = m.lost }) m
same_index m roomy same = λ i. record { used = m.used; in_use = m.in_use; floor = m.floor; high = m.high; index = same i; lost = m.lost }

-- with a window more it is still a segment
pub longer_segment : (w : Span) (text : List ℕ) (place : ℕ) (a b : DiskState) (m n : Numbers) (x : Unit {0}) → IsSegment (state a m) → length text ≡ span_size w + 5 → m.used ≡ place + 1
    → PutsBehind place text a b (Ok x) → n ≡ with_window w m → Follows m.high w → IsSegment (state b n)
longer_segment w text place a b m n x is size at p same follows =
    subst (λ (k : Numbers). IsSegment (state b k)) (sym same) (record {
      some = omega arith;
      room = subst (λ (l : ℕ). IfSome b.seen (λ bytes. l ≤ length bytes)) (omega (arith, size, at)) p.reach;
      rises = rises-push m.high m.floor w.scn m.used m.index is.rises (omega (arith, follows.chained, follows.within.prev));
      within = follows.within.scn;
    })
