-- A bootstrap over a log on disks through a crash at any moment of a call.
use Rattle.std.proofs.Common.{◌≡◌, ◌∙◌, ◌⊎◌, inl, inr, ℕ, ◌≤◌, min, true, List, ◌++◌, append-nil, length, take, Option, Some, None, option_map, IfSome, Result, Ok, Err, sym, ap, subst, refl, arith}
use Rattle.bus_types.specs.Window.{Span}
use Rattle.bus_types.specs.Timeline.{end_from, end_of, windows_between}
use Rattle.bus_types.specs.Relay.{is_place}
use Rattle.event_codec.specs.declared.reply.Shape.TheVariants as shapes
use Rattle.bus_stores.specs.declared.boot_fault.BootFault.{BootFault}
use Rattle.bus_stores.specs.declared.boot_fault.BootFault.TheVariants.{LogFailed, StoreFailed, Halted, NoMemory}
use Rattle.bus_stores.specs.Keeper.{KeeperState, Content, Move}
use Rattle.bus_stores.specs.Log.{LogState, Bounds, at_rest, growing_to, dropping_to}
use Rattle.snapshot_applier.specs.declared.boot.BootMark.{BootMark}
use Rattle.bootstrap_core.specs.Boot.{BootParts, BootState, told, HoldsTable, Stands}
use Rattle.bootstrap_core.specs.Logging.{AreWindowsBehind, IsChained, Logs, AreBrought, IsRelayReply}
use Rattle.bootstrap_core.specs.Moving.{FindsBase, Trims, CommitsFirst, based}
use Rattle.bootstrap_core.proofs.LogStands.{stands_taken}
use Rattle.bootstrap_core.proofs.StandingMoves.{stretch_told, if_told}
use Rattle.bootstrap_core.proofs.StretchEnds.{between_within}
use Rattle.log_disk.specs.Disk.{DiskState}
use Rattle.log_store.specs.Log.{HoldLog}
use Rattle.log_store.specs.Crash.{HoldPart, passes_weaker}
use Rattle.log_store.specs.Store.{StoreParts, log_of, passes}
use Rattle.log_boot.specs.Stops.{Runs, Rests, Grows, apply_commit, base_upto, trim_commit, committed, IsEither, Survives, SurvivesStops, SurvivesTrim, numbers_of}
use Rattle.log_boot.proofs.Lines.{IsStretch, from_low, from_high}
use Rattle.log_boot.proofs.Marks.{Stored, stored_before, stored_in_apply, stored_trimmed}

-- ---- what stands after a stop

survives : (ws : List Span) (m next : BootMark) (top low high : ℕ) (windows : List Span) (images : List (List ℕ)) (d : Content) → HoldLog low high windows images → IsStretch ws low high windows
    → Stored ws m top d next → low ≤ next.base → top ≤ high → Survives ws (record { base = m.base; applied = m.applied; high = top }) d images
survives ws m next top low high windows images d holds s v begins ends = record {
  low = low;
  high = high;
  windows = windows;
  holds = holds;
  mark = next;
  stands = record {
    lawful = record { applied = v.order; high = omega (arith, v.upto, ends); base_place = v.base_place; applied_place = v.applied_place; high_place = s.high_place };
    between = record { low = begins; order = v.order; high = omega (arith, v.upto, ends) };
    stretch = record { floor = s.low_place; windows = s.are };
    table = v.table;
  };
  not_below = record { base = v.base; applied = v.applied; high = ends };
}

fits_none : (told : Option (List Span)) → IfSome told (λ held. Unit {0})
fits_none None = tt
fits_none (Some held) = tt

-- the boot mark that a content stores which a keeper may hold
abbrev Stores : List Span → BootMark → ℕ → ℕ → Content → Type 0
Stores ws m top least d = (next : BootMark) × Stored ws m top d next × (least ≤ next.base)

module _ {D K : Type 0} (disk : D → DiskState) (store : K → KeeperState) (ws : List Span) (c : Content) (old : BootParts (StoreParts D) K) (r : Runs disk store ws c old) where
  abbrev log : LogState
  log = log_of disk old.log

  abbrev held : List Span
  held = windows_between log.floor log.high ws

  abbrev state : BootState
  state = told (log_of disk) store old

  abbrev Keeps : (Content → Type 0) → ℕ → Type 0
  Keeps holds least = (d : Content) → holds d → Stores ws old.mark log.high least d

  pub windows_told : log.windows ≡ Some held
  windows_told = stretch_told ws log r.stands.stretch r.windows

  table_held : HoldsTable ws old.mark c
  table_held = if_told (HoldsTable ws old.mark) (store old.keeper).content c r.content r.stands.table

  -- the windows of a log that only goes on are a part of the timeline's
  module _ (vs : List Span) (top : ℕ) (vs_are : vs ≡ windows_between log.floor top ws) (images : List (List ℕ)) where
    grown : (most : ℕ) → most ≤ top → (holds : Content → Type 0) → Keeps holds log.floor
        → HoldPart vs (growing_to most log) images → (d : Content) → holds d → Survives ws (numbers_of disk old) d images
    grown most upto holds keeps p d h =
        let low : log.floor ≡ p.low = omega (arith, p.within.least_floor, p.within.most_floor) in
        let place : is_place p.low ws ≡ true = subst (λ n. is_place n ws ≡ true) low r.stands.stretch.floor in
        let stretch = from_low ws r.timeline log.floor top vs vs_are p.low p.high p.part images p.within.least_floor (omega (arith, p.within.most_high, upto)) p.part_is p.holds place in
        let next = keeps d h in
        survives ws old.mark next.0 log.high p.low p.high p.part images d p.holds stretch next.1 (omega (arith, p.within.most_floor, next.2)) p.within.least_high

  dropped : (base : ℕ) (images : List (List ℕ)) (holds : Content → Type 0) → Keeps holds base → HoldPart held (dropping_to base log) images → (d : Content) → holds d → Survives ws (numbers_of disk old) d images
  dropped base images holds keeps p d h =
      let high : log.high ≡ p.high = omega (arith, p.within.least_high, p.within.most_high) in
      let place : is_place p.high ws ≡ true = subst (λ n. is_place n ws ≡ true) high r.stands.lawful.high_place in
      let stretch = from_high ws r.timeline log.floor log.high held refl p.low p.high p.part images p.within.least_floor p.within.most_high p.part_is p.holds place in
      let next = keeps d h in
      let low = r.stands.between.low in
      let v = next.1 in
      survives ws old.mark next.0 log.high p.low p.high p.part images d p.holds stretch next.1 (omega (arith, p.within.most_floor, next.2, low, v.base)) p.within.least_high

  -- ---- over all moments

  module _ (start new : StoreParts D) (holds : Content → Type 0) where
    abbrev Ends : Type 0
    Ends = SurvivesStops disk ws (numbers_of disk old) holds start new

    over : (vs : List Span) (b : Bounds) → ((images : List (List ℕ)) → HoldPart vs b images → (d : Content) → holds d → Survives ws (numbers_of disk old) d images) → passes disk vs b start new → Ends
    over vs b each p = passes_weaker (λ s. disk s.disk) (HoldPart vs b) (λ images. (d : Content) → holds d → Survives ws (numbers_of disk old) d images) start.segments new.segments each p

    pub rest_survives : Keeps holds log.floor → IfSome log.windows (λ vs. passes disk vs (at_rest log) start new) → Ends
    rest_survives keeps rests =
        over held (at_rest log) (λ images p. grown held log.high refl images log.high (omega arith) holds keeps p)
        (if_told (λ vs. passes disk vs (at_rest log) start new) log.windows held windows_told rests)

    pub drop_survives : (base : ℕ) → Keeps holds base → IfSome log.windows (λ vs. passes disk vs (dropping_to base log) start new) → Ends
    drop_survives base keeps drops =
        over held (dropping_to base log) (λ images p. dropped base images holds keeps p)
        (if_told (λ vs. passes disk vs (dropping_to base log) start new) log.windows held windows_told drops)

    pub grow_survives : (brought : List Span) → held ++ brought ≡ windows_between log.floor (end_from log.high brought) ws → Keeps holds log.floor
        → passes disk (held ++ brought) (growing_to (end_from log.high brought) log) start new → Ends
    grow_survives brought are keeps p =
        over (held ++ brought) (growing_to (end_from log.high brought) log)
        (λ images q. grown (held ++ brought) (end_from log.high brought) are images (end_from log.high brought) (omega arith) holds keeps q) p

  -- ---- windows of a reply

  module _ (count : ℕ) (bytes : List ℕ) (reply : IsRelayReply ws log.high bytes) where
    abbrev logged : List Span → BootState
    logged run = record state { log = record log { high = end_from log.high run; windows = option_map (λ vs. vs ++ run) log.windows } }

    run_are : (run : List Span) → Stands ws (logged run) → held ++ run ≡ windows_between log.floor (end_from log.high run) ws
    run_are run s =
        if_told (λ vs. vs ≡ windows_between log.floor (end_from log.high run) ws) (option_map (λ vs. vs ++ run) log.windows) (held ++ run)
        (ap (option_map (λ vs. vs ++ run)) windows_told) s.stretch.windows

    logs : (vs : List Span) → AreWindowsBehind log.high bytes vs → IsChained log.high vs → Logs (end_from log.high (take count vs)) count bytes state (logged (take count vs))
    logs vs are chained = record {
      shape = shapes.Windows (length vs) (end_of vs);
      lawful = record { windows = vs; spelled = are.spelled; run = are.run; counted = refl; ends = refl };
      windows = vs;
      are = inr (are, chained);
      logged = record {
        floor = refl;
        high = refl;
        windows = refl;
        room = refl;
        fits = λ some. fits_none (option_map (λ held. held ++ take count vs) log.windows);
        keeper = refl;
        mark = refl;
        halted = refl;
      };
      high = refl;
    }

    brought_are : (brought : List Span) → AreBrought count bytes log.high brought → held ++ brought ≡ windows_between log.floor (end_from log.high brought) ws
    brought_are brought (inl none) =
        subst (λ (run : List Span). held ++ run ≡ windows_between log.floor (end_from log.high run) ws) (sym none) (append-nil held)
    brought_are brought (inr some) =
        let vs = some.0 in
        let stands = stands_taken ws r.timeline state (logged (take count vs)) r.stands bytes reply (Ok (end_from log.high (take count vs))) count (logs vs some.1 some.2) r.runs in
        subst (λ (run : List Span). held ++ run ≡ windows_between log.floor (end_from log.high run) ws) (sym some.3) (run_are (take count vs) stands)

    pub take_survives : (new : StoreParts D) → Grows disk count bytes old.log new → SurvivesStops disk ws (numbers_of disk old) (λ d. d ≡ c) old.log new
    take_survives new grows =
        let g = if_told (λ vs. (brought : List Span) × AreBrought count bytes log.high brought × passes disk (vs ++ brought) (growing_to (end_from log.high brought) log) old.log new) log.windows held windows_told grows in
        grow_survives old.log new (λ d. d ≡ c) g.0 (brought_are g.0 g.1) (λ d same. (old.mark, stored_before ws r.timeline old.mark log.high c r.stands.lawful table_held d same, r.stands.between.low)) g.2

  -- ---- a call that commits nothing, or an apply

  pub answer_survives : (new : StoreParts D) → Rests disk old.log new → SurvivesStops disk ws (numbers_of disk old) (λ d. d ≡ c) old.log new
  answer_survives new rests =
      rest_survives old.log new (λ d. d ≡ c) (λ d same. (old.mark, stored_before ws r.timeline old.mark log.high c r.stands.lawful table_held d same, r.stands.between.low)) rests

  pub apply_survives : (count : ℕ) (new : StoreParts D) → Rests disk old.log new → SurvivesStops disk ws (numbers_of disk old) (IsEither (apply_commit ws (numbers_of disk old) count) c) old.log new
  apply_survives count new rests =
      rest_survives old.log new (IsEither (apply_commit ws (numbers_of disk old) count) c)
      (λ d either.
      let next = stored_in_apply ws r.timeline old.mark log.high c r.stands.lawful table_held count d either in
      let v = next.1 in
      (next.0, v, omega (arith, r.stands.between.low, v.base))) rests

  -- ---- a trim

  module _ (scn : ℕ) where
    abbrev base : ℕ
    base = base_upto ws (numbers_of disk old) scn

    pub found_base : (found : ℕ) → FindsBase scn found state → found ≡ base
    found_base found f =
        if_told (λ vs. found ≡ end_from old.mark.base (windows_between old.mark.base (min scn old.mark.applied) vs)) log.windows held windows_told f.is
        ∙ ap (end_from old.mark.base) (between_within log.floor old.mark.base (min scn old.mark.applied) log.high ws r.stands.between.low (omega (arith, r.stands.between.high)))

    -- what a trim makes of the boot mark
    abbrev Marks : BootMark → Type 0
    Marks next = (next ≡ old.mark) ⊎ (next ≡ based old.mark base)

    later_mark : (found : ℕ) (next : BootMark) → FindsBase scn found state → next ≡ based old.mark found → Marks next
    later_mark found next f is = inr (is ∙ ap (based old.mark) (found_base found f))

    trimmed_mark : (result : Result ℕ BootFault) (next : BootState) → Trims result scn state next → Marks next.mark
    trimmed_mark (Ok found) next t = elim t.2 [
      | inl keeps ↦ inl keeps.same.mark
      | inr drops ↦ later_mark found next.mark t.1 drops.set.mark
    ]
    trimmed_mark (Err LogFailed) next t = elim t.2 [
      | inl same ↦ inl same.mark
      | inr set ↦ later_mark set.0 next.mark set.1 set.2.mark
    ]
    trimmed_mark (Err StoreFailed) next t = inl t.2.2.mark
    trimmed_mark (Err Halted) next t = inl (ap (λ (b : BootState). b.mark) t)
    trimmed_mark (Err NoMemory) next t = inl t.1.mark

    -- until the commit is made, and after it
    abbrev commit : Option Move
    commit = trim_commit ws (numbers_of disk old) scn

    after_stores : (next : BootMark) → Marks next → (d : Content) → d ≡ committed commit c → Stores ws old.mark log.high next.base d
    after_stores next marks d after =
        let s = stored_trimmed ws r.timeline old.mark log.high c r.stands.lawful table_held scn d after in
        let v = s.1 in
        elim marks [
          | inl same ↦ (s.0, v, omega (arith, v.base, ap (λ (m : BootMark). m.base) same))
          | inr later ↦ (s.0, v, omega (arith, s.2, ap (λ (m : BootMark). m.base) later))
        ]

    either_stores : (d : Content) → IsEither commit c d → Stores ws old.mark log.high log.floor d
    either_stores d (inl before) = (old.mark, stored_before ws r.timeline old.mark log.high c r.stands.lawful table_held d before, r.stands.between.low)
    either_stores d (inr after) =
        let s = stored_trimmed ws r.timeline old.mark log.high c r.stands.lawful table_held scn d after in
        let v = s.1 in
        (s.0, v, omega (arith, r.stands.between.low, v.base))

    pub trim_survives : (result : Result ℕ BootFault) (new : BootParts (StoreParts D) K) → Trims result scn state (told (log_of disk) store new) → CommitsFirst (passes disk) (log_of disk) store old new
        → SurvivesTrim disk ws (numbers_of disk old) commit c old.mark new.mark old.log new.log
    trim_survives result new t order = record {
      committed_at = order.read;
      until = rest_survives old.log order.read (IsEither commit c) either_stores order.rests;
      since = elim order.drops [
        | inl stays ↦ inl stays
        | inr drops ↦ inr (
          drops.0.later,
          drop_survives order.read new.log (λ d. d ≡ committed commit c) new.mark.base (after_stores new.mark (trimmed_mark result (told (log_of disk) store new) t)) drops.1,
        )
      ];
    }
