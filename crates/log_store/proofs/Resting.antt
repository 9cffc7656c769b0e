-- A log at rest: what is true of it, and what a crash leaves.
use Rattle.std.proofs.Common.{◌≡◌, ℕ, true, List, length, None, IfSome, sym, subst, arith}
use Rattle.std.proofs.lemmas.Option.{slice_get_within}
use Rattle.bus_types.specs.Window.{Span}
use Rattle.bus_types.specs.Timeline.{IsTimelineFrom, end_from}
use Rattle.bus_stores.specs.Log.{IsLog, SameLog, at_rest}
use Rattle.log_disk.specs.Disk.{DiskState}
use Rattle.log_segment.specs.Segment.{SegmentParts}
use Rattle.log_store.specs.Log.{windows_of, HoldLog}
use Rattle.log_store.specs.Crash.{LeaveBeside, Passes}
use Rattle.log_store.specs.Order.{AllBelow, numbers_at, free_place, is_full, last_place, used_at}
use Rattle.log_store.specs.Store.{StoreParts, IsStore, is_told, log_of, passes, windows_at, faults_of}
use Rattle.log_store.proofs.Orders.{joined_ends}
use Rattle.log_store.proofs.Holdings.{hold_log, held_timeline, left_else}
use Rattle.log_store.proofs.Places.{if_told, if_same}
use Rattle.log_store.proofs.Parts.{all_part, at_rest_part}

abbrev pub disks : {D : Type 0} → (D → DiskState) → SegmentParts D → DiskState
disks state s = state s.disk

-- the windows that it tells
abbrev pub windows : {D : Type 0} → (D → DiskState) → StoreParts D → List Span
windows state s = windows_of (windows_at state s.segments) s.order

module _ {D : Type 0} (state : D → DiskState) (s : StoreParts D) (is : IsStore state s) where
  module _ (told : is_told state s ≡ true) where
    pub line : IsTimelineFrom s.floor (windows state s) × (end_from s.floor (windows state s) ≡ s.high)
    line = held_timeline state s.segments (is.stands told).each s.floor s.high s.order is.joined

    pub below_images : (images : List (List ℕ)) → length images ≡ length s.segments → AllBelow (length images) s.order
    below_images images many = subst (λ n. AllBelow n s.order) (sym many) is.places

    pub rest_log : (images : List (List ℕ)) → LeaveBeside (disks state) (length s.segments) s.segments images → HoldLog s.floor s.high (windows state s) images
    rest_log images beside =
        let stand = is.stands told in
        hold_log (numbers_at s.segments) (windows_at state s.segments) s.order s.floor s.high images is.joined stand.covers stand.sorted (below_images images beside.many) is.empty
        (λ i c at. left_else state (length s.segments) s.segments images beside stand.each i c (λ e. omega (arith, e, slice_get_within images i c at, beside.many)) at)

    pub rests : passes state (windows state s) (at_rest (log_of state s)) s s
    rests = Passes.Stays (λ images beside. at_rest_part (log_of state s) images (windows state s) (windows state s) (all_part s.floor s.high (windows state s) line.0 line.1) (rest_log images beside))

  pub is_log : IsLog (log_of state s)
  is_log = record {
    low = joined_ends (numbers_at s.segments) s.floor s.high s.order is.joined;
    within = is.within;
    holds = if_told (is_told state s) (windows state s) _ (λ told. record { chained = (line told).0; ends = (line told).1 });
    roomy = if_told (is_told state s) (windows state s) _ (λ told. tt);
  }

  pub told_rests : IfSome (log_of state s).windows (λ ws. passes state ws (at_rest (log_of state s)) s s)
  told_rests = if_told (is_told state s) (windows state s) _ rests

-- all but the count is as it was
pub same_log : {D : Type 0} (state : D → DiskState) (old : StoreParts D) (now : List (SegmentParts D)) → (is_told state old ≡ true → windows_of (windows_at state now) old.order ≡ windows state old)
    → used_at now (last_place old.order) ≡ used_at old.segments (last_place old.order) → free_place now ≡ free_place old.segments
    → SameLog (log_of state old) (log_of state (record old { segments = now }))
same_log state old now wins used free =
    let told = if_same (is_told state old) _ (windows state old) wins in
    λ i. record { floor = old.floor; high = old.high; windows = told i; room = None; full = is_full (used i) (free i); faults = faults_of state now }
