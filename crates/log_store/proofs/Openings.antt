-- Disks that were opened as a log, or not.
use Rattle.std.proofs.Common.{◌≡◌, ◌∙◌, ◌<◌, ◌≤◌, inl, inr, ⊎_elim, ℕ, zero, suc, Bool, true, false, List, [], ◌∷◌, ◌++◌, length, Option, Some, None, Err, IfSome, sym, ap, subst, refl, arith, append-nil}
use Rattle.std.specs.Prelude.{slice_get, is_some, ◌&&◌, ◌==◌, if◌then◌else◌}
use Rattle.std.proofs.lemmas.Option.{same_Some, none-some, slice_get_within}
use Rattle.bus_types.specs.declared.limits.TheConstants.{MAX_SCN}
use Rattle.bus_types.specs.Window.{Span}
use Rattle.bus_types.specs.Timeline.{end_from}
use Rattle.log_disk.specs.Disk.{DiskState, may_leave, Only}
use Rattle.log_segment.specs.declared.segment.SegmentFault.{SegmentFault}
use Rattle.log_segment.specs.declared.segment.SegmentFault.TheVariants as faults
use Rattle.log_segment.specs.Image.{HoldsInUse}
use Rattle.log_segment.specs.Faults.{IsBadAt}
use Rattle.log_segment.specs.Opening.{Opened, StandsAs, HasFault}
use Rattle.log_segment.specs.Segment.{Numbers, SegmentParts, told, Stands}
use Rattle.log_segment.proofs.Lookings.{looks_not}
use Rattle.log_store.specs.declared.opening.OpenLog.{OpenLog}
use Rattle.log_store.specs.declared.opening.OpenLog.TheVariants as opening
use Rattle.log_store.specs.Joining.{AllOpened, StopsAt, OpensApart, OpensOrdered, fault_at}
use Rattle.log_store.specs.Log.{IsIn, apart_behind, first_apart, windows_of, HoldRuns, IsGood, AreBadAt}
use Rattle.log_store.specs.Opening.{AllLook, AllTell, disks_of, disk_faults, LogOpened, LogNotOpened, IsCause}
use Rattle.log_store.specs.Order.{AllBelow, AllRise, Joined, IsOrder, numbers_in, numbers_at, floor_at, high_at, first_floor, last_high}
use Rattle.log_store.specs.Seen.{windows_seen}
use Rattle.log_store.specs.Store.{StoreParts, IsStore, AllStand, StandsSeen, all_tell, losses_of, windows_at, windows_in}
use Rattle.log_store.proofs.Orders.{joined_first}
use Rattle.log_store.proofs.Seens.{stands_seen, stands_windows, free_seen}
use Rattle.log_store.proofs.Holdings.{IsPlace, not_both, hold_log, hold_runs, runs_end}

-- ---- disk by disk

module _ {D : Type 0} (state : D → DiskState) where
  pub opened_at : (ds : List D) (ss : List (SegmentParts D)) → AllOpened state ds ss → (i : ℕ) (s : SegmentParts D) → slice_get ss i ≡ Some s → (d : D) × (slice_get ds i ≡ Some d) × Opened (state d) (told state s)
  opened_at [] [] all i s at = absurd (none-some s at)
  opened_at [] (t ∷ ts) all i s at = absurd all
  opened_at (d ∷ ds) [] all i s at = absurd all
  opened_at (d ∷ ds) (t ∷ ts) all zero s at = (d, refl, subst (λ k. Opened (state d) (told state k)) (same_Some t s at) all.0)
  opened_at (d ∷ ds) (t ∷ ts) all (suc i) s at = opened_at ds ts all.1 i s at

  opened_disk : (ds : List D) (ss : List (SegmentParts D)) → AllOpened state ds ss → (i : ℕ) (d : D) → slice_get ds i ≡ Some d → (s : SegmentParts D) × (slice_get ss i ≡ Some s) × Opened (state d) (told state s)
  opened_disk [] [] all i d at = absurd (none-some d at)
  opened_disk [] (t ∷ ts) all i d at = absurd all
  opened_disk (e ∷ es) [] all i d at = absurd all
  opened_disk (e ∷ es) (t ∷ ts) all zero d at = (t, refl, subst (λ k. Opened (state k) (told state t)) (same_Some e d at) all.0)
  opened_disk (e ∷ es) (t ∷ ts) all (suc i) d at = opened_disk es ts all.1 i d at

  opened_many : (ds : List D) (ss : List (SegmentParts D)) → AllOpened state ds ss → length ds ≡ length ss
  opened_many [] [] all = refl
  opened_many [] (t ∷ ts) all = absurd all
  opened_many (d ∷ ds) [] all = absurd all
  opened_many (d ∷ ds) (t ∷ ts) all = ap suc (opened_many ds ts all.1)

  opened_losses : (ds : List D) (ss : List (SegmentParts D)) → AllOpened state ds ss → losses_of ss ≡ 0
  opened_losses [] [] all = refl
  opened_losses [] (t ∷ ts) all = absurd all
  opened_losses (d ∷ ds) [] all = absurd all
  opened_losses (d ∷ ds) (t ∷ ts) all = omega (arith, all.0.lost, opened_losses ds ts all.1)

  tell_disk : (ds : List D) (cs : List (List ℕ)) → AllTell state ds cs → (i : ℕ) (c : List ℕ) → slice_get cs i ≡ Some c → (d : D) × (slice_get ds i ≡ Some d) × ((state d).seen ≡ Some c)
  tell_disk [] [] all i c at = absurd (none-some c at)
  tell_disk [] (b ∷ bs) all i c at = absurd all
  tell_disk (d ∷ ds) [] all i c at = absurd all
  tell_disk (d ∷ ds) (b ∷ bs) all zero c at = (d, refl, all.0 ∙ at)
  tell_disk (d ∷ ds) (b ∷ bs) all (suc i) c at = tell_disk ds bs all.1 i c at

  tell_image : (ds : List D) (cs : List (List ℕ)) → AllTell state ds cs → (i : ℕ) (d : D) → slice_get ds i ≡ Some d → (c : List ℕ) × (slice_get cs i ≡ Some c) × ((state d).seen ≡ Some c)
  tell_image [] [] all i d at = absurd (none-some d at)
  tell_image [] (b ∷ bs) all i d at = absurd all
  tell_image (e ∷ es) [] all i d at = absurd all
  tell_image (e ∷ es) (b ∷ bs) all zero d at = (b, refl, ap (λ k. (state k).seen) (sym (same_Some e d at)) ∙ all.0)
  tell_image (e ∷ es) (b ∷ bs) all (suc i) d at = tell_image es bs all.1 i d at

  tell_many : (ds : List D) (cs : List (List ℕ)) → AllTell state ds cs → length cs ≡ length ds
  tell_many [] [] all = refl
  tell_many [] (b ∷ bs) all = absurd all
  tell_many (d ∷ ds) [] all = absurd all
  tell_many (d ∷ ds) (b ∷ bs) all = ap suc (tell_many ds bs all.1)

  pub tell_all : (ds : List D) (cs : List (List ℕ)) → AllTell state ds cs → all_tell state ds ≡ true
  tell_all [] [] all = refl
  tell_all [] (b ∷ bs) all = absurd all
  tell_all (d ∷ ds) [] all = absurd all
  tell_all (d ∷ ds) (b ∷ bs) all = (λ i. is_some (all.0 i) && tell_all ds bs all.1 i)

  -- a disk among those that tell
  told_seen : (seen : Option (List ℕ)) (rest : Bool) → is_some seen && rest ≡ true → (c : List ℕ) × (seen ≡ Some c)
  told_seen None rest e = absurd cc
  told_seen (Some c) rest e = (c, refl)

  told_rest : (seen : Option (List ℕ)) (rest : Bool) → is_some seen && rest ≡ true → rest ≡ true
  told_rest None rest e = absurd cc
  told_rest (Some c) rest e = e

  tells_at : (ds : List D) → all_tell state ds ≡ true → (i : ℕ) (d : D) → slice_get ds i ≡ Some d → (c : List ℕ) × ((state d).seen ≡ Some c)
  tells_at [] all i d at = absurd (none-some d at)
  tells_at (e ∷ es) all zero d at =
      let seen = told_seen (state e).seen (all_tell state es) all in
      (seen.0, ap (λ k. (state k).seen) (sym (same_Some e d at)) ∙ seen.1)
  tells_at (e ∷ es) all (suc i) d at = tells_at es (told_rest (state e).seen (all_tell state es) all) i d at

  -- what was read
  pub look_same : (ds : List D) → AllLook state ds ds
  look_same [] = tt
  look_same (d ∷ ds) = (looks_not (state d), look_same ds)

  look_opened : (ds : List D) (ss : List (SegmentParts D)) (rest now : List D) → AllOpened state ds ss → AllLook state rest now → AllLook state (ds ++ rest) (disks_of ss ++ now)
  look_opened [] [] rest now all more = more
  look_opened [] (t ∷ ts) rest now all more = absurd all
  look_opened (d ∷ ds) [] rest now all more = absurd all
  look_opened (d ∷ ds) (t ∷ ts) rest now all more = (all.0.looks, look_opened ds ts rest now all.1 more)

  opened_faults : (ds : List D) (ss : List (SegmentParts D)) (rest now : List D) → AllOpened state ds ss → disk_faults state rest < disk_faults state now → disk_faults state (ds ++ rest) < disk_faults state (disks_of ss ++ now)
  opened_faults [] [] rest now all more = more
  opened_faults [] (t ∷ ts) rest now all more = absurd all
  opened_faults (d ∷ ds) [] rest now all more = absurd all
  opened_faults (d ∷ ds) (t ∷ ts) rest now all more = omega (arith, all.0.looks.faults, opened_faults ds ts rest now all.1 more)

  -- ---- what a disk holds

  standing : (d : D) (s : SegmentParts D) (c : List ℕ) → Opened (state d) (told state s) → (state d).seen ≡ Some c → StandsAs c (told state s)
  standing d s c o seen = subst (λ (m : Option (List ℕ)). IfSome m (λ bytes. StandsAs bytes (told state s))) seen o.stands

  as_seen : (s : SegmentParts D) (c : List ℕ) → StandsAs c (told state s) → StandsSeen (told state s)
  as_seen s c h = ⊎_elim (λ f. free_seen (told state s) f.1) (λ u. stands_seen u.0 u.1 (told state s) u.3) h

  used_image : (s : SegmentParts D) (c : List ℕ) (from : ℕ) (ws : List Span) → HoldsInUse from ws c → Stands from ws (told state s) → HoldsInUse s.numbers.floor (windows_seen (state s.disk).seen) c
  used_image s c from ws h stands =
      subst (λ (f : ℕ). HoldsInUse f (windows_seen (state s.disk).seen) c) (sym (ap (λ (n : Numbers). n.floor) stands.numbers)) (subst (λ (l : List Span). HoldsInUse from l c) (sym (stands_windows from ws (told state s) stands)) h)

  as_place : (s : SegmentParts D) (c : List ℕ) → StandsAs c (told state s) → IsPlace s.numbers (windows_seen (state s.disk).seen) c
  as_place s c h =
      ⊎_elim
      (λ f. record { used = λ used. absurd (not_both s.numbers.in_use used (ap (λ (n : Numbers). n.in_use) f.1.numbers)); free = λ free. f.0 })
      (λ u.
      let seen = (stands_seen u.0 u.1 (told state s) u.3).used (ap (λ (n : Numbers). n.in_use) u.3.numbers) in
      record {
        used = λ used. (used_image s c u.0 u.1 (record { low = u.3.low; chained = u.3.chained; ends = u.2 }) u.3, ap (λ (n : Numbers). n.high) seen.numbers);
        free = λ free. absurd (not_both s.numbers.in_use (ap (λ (n : Numbers). n.in_use) u.3.numbers) free);
      })
      h

  as_good : (s : SegmentParts D) (c : List ℕ) → StandsAs c (told state s) → IsGood c
  as_good s c h = ⊎_elim (λ f. inl f.0) (λ u. inr (u.0, u.1, record { low = u.3.low; chained = u.3.chained; ends = u.2 })) h

  -- ---- all disks

  module _ (ds : List D) (ss : List (SegmentParts D)) (all : AllOpened state ds ss) where
    each_place : (images : List (List ℕ)) → AllTell state ds images → (i : ℕ) (c : List ℕ) → slice_get images i ≡ Some c → IsPlace (numbers_at ss i) (windows_at state ss i) c
    each_place images tell i c at =
        let d = tell_disk ds images tell i c at in
        let s = opened_disk ds ss all i d.0 d.1 in
        subst (λ (o : Option (SegmentParts D)). IsPlace (numbers_in o) (windows_in state o) c) (sym s.1) (as_place s.0 c (standing d.0 s.0 c s.2 d.2))

    used_within : (o : Option (SegmentParts D)) (i : ℕ) → slice_get ss i ≡ o → (numbers_in o).in_use ≡ true → i < length ss
    used_within None i at used = absurd cc
    used_within (Some s) i at used = slice_get_within ss i s at

    module _ (order : List ℕ) (is : IsOrder (numbers_at ss) (length ss) order) where
      covers : (i : ℕ) → (numbers_at ss i).in_use ≡ true → IsIn i order
      covers i used = is.covers i (used_within (slice_get ss i) i refl used) used

      below : (images : List (List ℕ)) → AllTell state ds images → AllBelow (length images) order
      below images tell = subst (λ n. AllBelow n order) (sym (opened_many ds ss all) ∙ sym (tell_many ds images tell)) is.below

      pub opened_stand : all_tell state ds ≡ true → AllStand state ss order
      opened_stand told_all = record {
        each = λ i s at.
            let d = opened_at ds ss all i s at in
            let c = tells_at ds told_all i d.0 d.1 in
            as_seen s c.0 (standing d.0 s c.0 d.2 c.1);
        covers = covers;
        sorted = is.sorted;
      }

      runs_hold : (images : List (List ℕ)) → AllTell state ds images → HoldRuns (λ i. record { from = floor_at ss i; windows = windows_at state ss i }) order images
      runs_hold images tell = hold_runs (numbers_at ss) (windows_at state ss) order images is.used covers is.sorted (below images tell) (each_place images tell)

      -- ---- that follow each other

      module _ (joined : first_apart (floor_at ss) (high_at ss) order ≡ None) (rise : AllRise (numbers_at ss) order) where
        follow : Joined (numbers_at ss) (first_floor (floor_at ss) order) order (last_high (high_at ss) 0 order)
        follow = joined_first (numbers_at ss) order joined rise is.sorted is.used

        module _ (s : StoreParts D) (s_is : s ≡ record { segments = ss; order = order; floor = first_floor (floor_at ss) order; high = last_high (high_at ss) 0 order; opened = ds; lost = false }) where
          begins : (o : List ℕ) → o ≡ [] → first_floor (floor_at ss) o ≡ 0
          begins o e = ap (first_floor (floor_at ss)) e

          pub opened_is : last_high (high_at ss) 0 order ≤ MAX_SCN → IsStore state s
          opened_is within = subst (IsStore state) (sym s_is) (record {
            joined = follow;
            places = is.below;
            within = within;
            empty = begins order;
            stands = λ told_all. opened_stand told_all;
          })

          plain_opened : LogOpened state ds (record { segments = ss; order = order; floor = first_floor (floor_at ss) order; high = last_high (high_at ss) 0 order; opened = ds; lost = false })
          plain_opened = record {
            looks = subst (λ l. AllLook state l (disks_of ss)) (append-nil ds) (subst (AllLook state (ds ++ [])) (append-nil (disks_of ss)) (look_opened ds ss [] [] all tt));
            losses = opened_losses ds ss all;
            finds = λ images tell. record {
              windows = windows_of (windows_at state ss) order;
              told = ap (λ b. if b then Some (windows_of (windows_at state ss) order) else None) (tell_all ds images tell);
              holds = hold_log (numbers_at ss) (windows_at state ss) order (first_floor (floor_at ss) order) (last_high (high_at ss) 0 order) images follow covers is.sorted (below images tell) (begins order) (each_place images tell);
            };
          }

          pub log_opened : LogOpened state ds s
          log_opened = subst (LogOpened state ds) (sym s_is) plain_opened

  -- ---- that don't

  apart_same : (from to now : ℕ → ℕ) (low : ℕ) (is : List ℕ) → ((i : ℕ) → IsIn i is → now i ≡ to i) → apart_behind from now low is ≡ apart_behind from to low is
  apart_same from to now low [] same = refl
  apart_same from to now low (i ∷ is) same =
      ap (λ o. if from i == low then o else Some i) (ap (λ l. apart_behind from now l is) (same i (inl refl)) ∙ apart_same from to now (to i) is (λ j m. same j (inr m)))

  pub first_same : (from to now : ℕ → ℕ) (is : List ℕ) → ((i : ℕ) → IsIn i is → now i ≡ to i) → first_apart from now is ≡ first_apart from to is
  first_same from to now [] same = refl
  first_same from to now (i ∷ is) same = ap (λ l. apart_behind from now l is) (same i (inl refl)) ∙ apart_same from to now (to i) is (λ j m. same j (inr m))

  module _ (fault : OpenLog) (all : List D) (ss : List (SegmentParts D)) (rest : List D) where
    pub apart_cause : OpensApart state fault all ss rest → LogNotOpened state fault all (disks_of ss ++ rest)
    apart_cause h =
        let a = h.apart in
        let o = a.is_order in
        record {
          looks = subst (λ l. AllLook state l (disks_of ss ++ rest)) (append-nil all) (subst (λ l. AllLook state (all ++ []) (disks_of ss ++ l)) (sym h.none) (look_opened all ss [] [] h.opened tt));
          cause = subst (λ f. IsCause state f all (disks_of ss ++ rest)) (sym a.fault_is) (λ images tell. inr (
            refl,
            record {
              runs = λ i. record { from = floor_at ss i; windows = windows_at state ss i };
              order = h.order;
              hold = runs_hold all ss h.opened h.order o images tell;
              apart = first_same (floor_at ss) (high_at ss) (λ i. end_from (floor_at ss i) (windows_at state ss i)) h.order
                  (λ i m. sym (runs_end (numbers_at ss) (windows_at state ss) h.order images o.used (covers all ss h.opened h.order o) o.sorted (below all ss h.opened h.order o images tell) (each_place all ss h.opened images tell) i m)) ∙ a.apart;
            },
          ));
        }

    at_front : (front : List D) (d : D) (behind : List D) → slice_get (front ++ d ∷ behind) (length front) ≡ Some d
    at_front [] d behind = refl
    at_front (e ∷ es) d behind = at_front es d behind

    in_front : (front left : List D) (i : ℕ) (d : D) → slice_get front i ≡ Some d → slice_get (front ++ left) i ≡ Some d
    in_front [] left i d at = absurd (none-some d at)
    in_front (e ∷ es) left zero d at = at
    in_front (e ∷ es) left (suc i) d at = in_front es left i d at

    at_below_front : (front : List D) (i : ℕ) → i < length front → (d : D) × (slice_get front i ≡ Some d)
    at_below_front [] i lt = absurd (omega (arith, lt))
    at_below_front (e ∷ es) zero lt = (e, refl)
    at_below_front (e ∷ es) (suc i) lt = at_below_front es i (omega (arith, lt))

    module _ (h : StopsAt state fault all ss rest) where
      whole : all ≡ h.front ++ h.stops.disk ∷ h.stops.behind
      whole = h.parts ∙ ap (λ l. h.front ++ l) h.stops.parts

      stops_looks : AllLook state all (disks_of ss ++ rest)
      stops_looks =
          subst (λ l. AllLook state l (disks_of ss ++ rest)) (sym whole) (subst (λ l. AllLook state (h.front ++ h.stops.disk ∷ h.stops.behind) (disks_of ss ++ l)) (sym h.stops.left)
          (look_opened h.front ss (h.stops.disk ∷ h.stops.behind) (h.stops.back ∷ h.stops.behind) h.opened (h.stops.failed.looks, look_same h.stops.behind)))

      bad_first : (place : ℕ) → h.stops.cause ≡ faults.Bad place → (images : List (List ℕ)) → AllTell state all images → AreBadAt (length ss) place images
      bad_first place is images tell =
          let many = opened_many h.front ss h.opened in
          let at : slice_get all (length ss) ≡ Some h.stops.disk = ap (λ l. slice_get l (length ss)) whole ∙ ap (slice_get (h.front ++ h.stops.disk ∷ h.stops.behind)) (sym many) ∙ at_front h.front h.stops.disk h.stops.behind in
          let c = tell_image all images tell (length ss) h.stops.disk at in
          let bad = subst (λ f. HasFault f (state h.stops.disk) (state h.stops.back)) is h.stops.failed.cause in
          inl (record {
            bytes = c.0;
            stands = c.1;
            bad = (bad_at place c.0 (state h.stops.back) (state h.stops.disk).seen c.2 bad);
            before = λ i other lt found.
                let d = tell_disk all images tell i other found in
                let e = at_below_front h.front i (omega (arith, lt, many)) in
                let same : d.0 ≡ e.0 = same_Some d.0 e.0 (sym d.1 ∙ ap (λ l. slice_get l i) whole ∙ in_front h.front (h.stops.disk ∷ h.stops.behind) i e.0 e.1) in
                let s = opened_disk h.front ss h.opened i e.0 e.1 in
                as_good s.0 other (standing e.0 s.0 other s.2 (ap (λ k. (state k).seen) (sym same) ∙ d.2));
          })
        where
          bad_at : (place : ℕ) (c : List ℕ) (new : DiskState) (seen : Option (List ℕ)) → seen ≡ Some c → IfSome seen (λ bytes. IsBadAt place bytes × Only bytes (may_leave new.clock)) → IsBadAt place c
          bad_at place c new seen e b = (subst (λ (m : Option (List ℕ)). IfSome m (λ bytes. IsBadAt place bytes × Only bytes (may_leave new.clock))) e b).0

      failed_more : h.stops.cause ≡ faults.Failed → disk_faults state all < disk_faults state (disks_of ss ++ rest)
      failed_more is =
          let rose = subst (λ f. HasFault f (state h.stops.disk) (state h.stops.back)) is h.stops.failed.cause in
          subst (λ l. disk_faults state l < disk_faults state (disks_of ss ++ rest)) (sym whole) (subst (λ l. disk_faults state (h.front ++ h.stops.disk ∷ h.stops.behind) < disk_faults state (disks_of ss ++ l)) (sym h.stops.left)
          (opened_faults h.front ss (h.stops.disk ∷ h.stops.behind) (h.stops.back ∷ h.stops.behind) h.opened (omega (arith, rose))))

      by_cause : (f : SegmentFault) → h.stops.cause ≡ f → IsCause state (fault_at (length ss) f) all (disks_of ss ++ rest)
      by_cause (faults.Bad place) is = bad_first place is
      by_cause faults.Failed is = failed_more is
      by_cause faults.NoMemory is = tt

      pub stops_cause : LogNotOpened state fault all (disks_of ss ++ rest)
      stops_cause = record {
        looks = stops_looks;
        cause = subst (λ f. IsCause state f all (disks_of ss ++ rest)) (sym h.stops.fault_is) (by_cause h.stops.cause refl);
      }

    pub not_opened : (order : List ℕ) → OpensOrdered state all ss order rest (Err fault) → (now : List D) → now ≡ disks_of ss ++ rest → LogNotOpened state fault all now
    not_opened order h now is = subst (LogNotOpened state fault all) (sym is) (⊎_elim stops_cause apart_cause h)

-- a log of the ends that were found
pub store_is : {D : Type 0} (ds : List D) (ss : List (SegmentParts D)) (order : List ℕ) (floor high : ℕ) → floor ≡ first_floor (floor_at ss) order → high ≡ last_high (high_at ss) 0 order
    → ◌≡◌ {A = StoreParts D} (record { segments = ss; order = order; floor = floor; high = high; opened = ds; lost = false })
    (record { segments = ss; order = order; floor = first_floor (floor_at ss) order; high = last_high (high_at ss) 0 order; opened = ds; lost = false })
store_is ds ss order floor high low top = λ i. record { segments = ss; order = order; floor = low i; high = top i; opened = ds; lost = false }

-- memory ran out before the first disk was read
pub nothing_opened : {D : Type 0} (state : D → DiskState) (ds : List D) → LogNotOpened state opening.NoMemory ds ds
nothing_opened state ds = record { looks = look_same state ds; cause = tt }
