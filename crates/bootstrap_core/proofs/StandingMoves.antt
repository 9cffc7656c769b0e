-- A bootstrap that stands for a timeline still does after its table or its base moved.
use Rattle.std.proofs.Common.{◌≡◌, ℕ, ◌≤◌, min, true, false, List, [], ◌∷◌, take, flat_map, Option, Some, None, option_map, is_some, IfSome, Result, Ok, Err, IfOk, IsErrOf, inl, inr, true≢false, refl, sym, ap, subst, ◌∙◌, arith}
use Rattle.bus_types.specs.declared.limits.TheConstants.{MAX_SCN}
use Rattle.bus_types.specs.declared.change.Change.{Change}
use Rattle.bus_types.specs.Window.{Span}
use Rattle.bus_types.specs.Timeline.{IsTimeline, end_from, windows_between}
use Rattle.bus_types.specs.Table.{rows_after, table}
use Rattle.bus_types.specs.Relay.{is_place}
use Rattle.bus_types.proofs.Stretches.{between_run, run_rises, run_within, table_moves}
use Rattle.bus_types.proofs.Floors.{between-after}
use Rattle.bus_stores.specs.declared.keeper.StoreFault.TheVariants as stores
use Rattle.bus_stores.specs.declared.boot_fault.BootFault.{BootFault}
use Rattle.bus_stores.specs.declared.boot_fault.BootFault.TheVariants.{LogFailed, StoreFailed, Halted, NoMemory}
use Rattle.bus_stores.specs.Keeper.{Content, KeeperState, Stopped, TellsOnly, content_after, move_of, moved}
use Rattle.bus_stores.proofs.Held.{told_on, carried_told}
use Rattle.bus_stores.specs.Taking.{LeavesBy}
use Rattle.bus_stores.specs.Log.{LogState, IsLog, Holds, SameLog, Dropped}
use Rattle.snapshot_applier.specs.declared.boot.BootMark.{BootMark}
use Rattle.snapshot_applier.specs.BootMark.{IsBootMark, boot_mark_text}
use Rattle.snapshot_applier.specs.Apply.{AreNext, Applied, Applies, applied_after, commit_of}
use Rattle.bootstrap_core.specs.Boot.{BootState, HoldsStretch, HoldsTable, StandsForBoot, Stands}
use Rattle.bootstrap_core.specs.Moving.{TellsWindows, SameParts, SetsLater, base_move, based}
use Rattle.bootstrap_core.specs.Trimming.{ReadsNewest, SetsBase}
use Rattle.bootstrap_core.proofs.StretchEnds.{run_end_place, stretch_end_place, floor_place, between_within}

-- ---- what is told

told_is : (told : Option (List Span)) (held : List Span) → is_some told ≡ true → IfSome told (λ ws. ws ≡ held) → told ≡ Some held
told_is None held h e = absurd (true≢false (sym h))
told_is (Some ws) held h e = ap Some e

-- the windows that a log tells which holds a timeline's
pub stretch_told : (ws : List Span) (log : LogState) → HoldsStretch ws log → TellsWindows log → log.windows ≡ Some (windows_between log.floor log.high ws)
stretch_told ws log s t = told_is log.windows (windows_between log.floor log.high ws) t s.windows

pub if_told : {A : Type 0} (P : A → Type 0) (told : Option A) (x : A) → told ≡ Some x → IfSome told P → P x
if_told P told x e h = subst (λ o. IfSome o P) e h

told_if : {A : Type 0} (P : A → Type 0) (told : Option A) (x : A) → told ≡ Some x → P x → IfSome told P
told_if P told x e h = subst (λ o. IfSome o P) (sym e) h

-- ---- what a fault count leaves

-- only the log's count changed
pub stands_read : (ws : List Span) (log log' : LogState) (store : KeeperState) (m : BootMark) → SameLog log log' → StandsForBoot ws log store m → StandsForBoot ws log' store m
stands_read ws log log' store m same s = subst (λ l. StandsForBoot ws l store m) (sym same) (record {
  lawful = s.lawful;
  between = record { low = s.between.low; order = s.between.order; high = s.between.high };
  stretch = record { floor = s.stretch.floor; windows = s.stretch.windows };
  table = s.table;
})

stands_with : (ws : List Span) (log : LogState) (old new : KeeperState) (m : BootMark) → StandsForBoot ws log old m → IfSome new.content (HoldsTable ws m) → StandsForBoot ws log new m
stands_with ws log old new m s h = record { lawful = s.lawful; between = s.between; stretch = s.stretch; table = h }

-- the keeper's content is the same
pub stands_kept : (ws : List Span) (log : LogState) (old new : KeeperState) (m : BootMark) → TellsOnly old.content new.content → StandsForBoot ws log old m → StandsForBoot ws log new m
stands_kept ws log old new m same s = stands_with ws log old new m s (told_on (HoldsTable ws m) old.content new.content same s.table)

-- a commit met a stop before it counted
stands_unmoved : (ws : List Span) (log : LogState) (old new : KeeperState) (m : BootMark) → TellsOnly (option_map (λ c. c) old.content) new.content → StandsForBoot ws log old m → StandsForBoot ws log new m
stands_unmoved ws log old new m e s = stands_with ws log old new m s (carried_told (HoldsTable ws m) (HoldsTable ws m) (λ c. c) old.content new.content e (λ c h. h) s.table)

-- ---- the table moves

-- windows of a timeline that are applied next
pub record RunsOn (ws : List Span) (m : BootMark) (high : ℕ) (run : List Span) : Type 0 where
  pub rises : m.applied ≤ end_from m.applied run
  pub within : end_from m.applied run ≤ high
  pub place : is_place (end_from m.applied run) ws ≡ true
  pub rows : table ws (end_from m.applied run) ≡ rows_after (table ws m.applied) (flat_map (λ w. w.changes) run)
  pub lawful : IsBootMark (applied_after m run)

-- those that a log gives are
pub runs_on : (ws : List Span) (log : LogState) (store : KeeperState) (m : BootMark) (most : ℕ) (run : List Span) → IsTimeline ws → log.high ≤ MAX_SCN → StandsForBoot ws log store m → TellsWindows log → AreNext m.applied most log run → RunsOn ws m log.high run
runs_on ws log store m most run t within s told next =
    let held = windows_between log.floor log.high ws in
    let low : log.floor ≤ m.applied = omega (arith, s.between.low, s.between.order) in
    let is : run ≡ take most (windows_between m.applied log.high ws) =
    if_told (λ (ws' : List Span). run ≡ take most (windows_between m.applied log.high ws')) log.windows held (stretch_told ws log s.stretch told) next.told
    ∙ ap (take most) (between-after log.floor m.applied log.high ws low) in
    let rises = run_rises 0 m.applied log.high most ws run t is in
    let ends = run_within 0 m.applied log.high most ws run t s.between.high is in
    record {
      rises = rises;
      within = ends;
      place = subst (λ (r : List Span). is_place (end_from m.applied r) ws ≡ true) (sym is) (run_end_place m.applied m.applied log.high most ws s.lawful.applied_place);
      rows =
          table_moves ws m.applied (end_from m.applied run) t rises
          ∙ ap (λ (r : List Span). rows_after (table ws m.applied) (flat_map (λ (w : Span). w.changes) r)) (between_run 0 m.applied log.high most ws run t is);
      lawful = record { order = omega (arith, s.between.order); within = omega arith };
    }

-- the table after a commit of changes with a boot mark
pub table_moved : (ws : List Span) (m next : BootMark) (batch : List Change) → table ws next.applied ≡ rows_after (table ws m.applied) batch → IsBootMark next → (c : Content) → HoldsTable ws m c → HoldsTable ws next (moved (move_of false batch (boot_mark_text next)) c)
table_moved ws m next batch e lawful c h = record { rows = ap (λ rows. rows_after rows batch) h.rows ∙ sym e; stored = (lawful, refl) }

-- the table after the commit of such windows
run_table : (ws : List Span) (m : BootMark) (high : ℕ) (run : List Span) (old new : KeeperState) → RunsOn ws m high run → LeavesBy {X = Unit {0}} (commit_of m run) old new (Ok tt) → IfSome old.content (HoldsTable ws m) → IfSome new.content (HoldsTable ws (applied_after m run))
run_table ws m high [] old new r same h = told_on (HoldsTable ws m) old.content new.content same.content h
run_table ws m high (w ∷ rest) old new r met h =
    let next = applied_after m (w ∷ rest) in
    let batch = flat_map (λ (v : Span). v.changes) (w ∷ rest) in
    carried_told (HoldsTable ws m) (HoldsTable ws next) (content_after None (move_of false batch (boot_mark_text next))) old.content new.content met.content (table_moved ws m next batch r.rows r.lawful) h

stands_on : (ws : List Span) (log : LogState) (old new : KeeperState) (m : BootMark) (run : List Span) → RunsOn ws m log.high run → StandsForBoot ws log old m → IfSome new.content (HoldsTable ws (applied_after m run)) → StandsForBoot ws log new (applied_after m run)
stands_on ws log old new m run r s h = record {
  lawful = record {
    applied = r.lawful.order;
    high = r.within;
    base_place = s.lawful.base_place;
    applied_place = r.place;
    high_place = s.lawful.high_place;
  };
  between = record { low = s.between.low; order = r.lawful.order; high = r.within };
  stretch = s.stretch;
  table = h;
}

-- the next windows were applied
pub applied_stands : (ws : List Span) (log log' : LogState) (old new : KeeperState) (m next : BootMark) (most : ℕ) → IsTimeline ws → IsLog log → TellsWindows log → SameLog log log' → Applied m next most log old new → StandsForBoot ws log old m → StandsForBoot ws log' new next
applied_stands ws log log' old new m next most t l told same a s =
    let r = runs_on ws log old m most a.windows t l.within s told a.are in
    let table = run_table ws m log.high a.windows old new r a.made s.table in
    subst (StandsForBoot ws log' new) (sym a.mark) (stands_read ws log log' new (applied_after m a.windows) same (stands_on ws log old new m a.windows r s table))

unmade_stands : (ws : List Span) (log : LogState) (old new : KeeperState) (m : BootMark) (run : List Span) → RunsOn ws m log.high run → LeavesBy {X = Unit {0}} (commit_of m run) old new (Err stores.Failed) → StandsForBoot ws log old m → (mark : BootMark) × StandsForBoot ws log new mark
unmade_stands ws log old new m [] r none s = absurd none
unmade_stands ws log old new m (w ∷ rest) r (inl met) s =
    (m, stands_unmoved ws log old new m met.content s)
unmade_stands ws log old new m (w ∷ rest) r (inr met) s =
    let next = applied_after m (w ∷ rest) in
    let batch = flat_map (λ (v : Span). v.changes) (w ∷ rest) in
    (next, stands_on ws log old new m (w ∷ rest) r s (carried_told (HoldsTable ws m) (HoldsTable ws next) (moved (move_of false batch (boot_mark_text next))) old.content new.content met.content (table_moved ws m next batch r.rows r.lawful) s.table))

-- after a call of the applier that failed, it stands at the numbers before the commit or after
pub refused_stands : (ws : List Span) (log log' : LogState) (old new : KeeperState) (m : BootMark) (most : ℕ) (fault : BootFault) → IsTimeline ws → IsLog log → TellsWindows log → SameLog log log' → Applies (Err fault) m most log log' old new → StandsForBoot ws log old m → (mark : BootMark) × StandsForBoot ws log' new mark
refused_stands ws log log' old new m most LogFailed t l told same a s = (m, stands_read ws log log' new m same (stands_kept ws log old new m a.1.content s))
refused_stands ws log log' old new m most StoreFailed t l told same a s =
    let next = unmade_stands ws log old new m a.windows (runs_on ws log old m most a.windows t l.within s told a.are) a.unmade s in
    (next.0, stands_read ws log log' new next.0 same next.1)
refused_stands ws log log' old new m most Halted t l told same a s = absurd a
refused_stands ws log log' old new m most NoMemory t l told same a s = (m, stands_read ws log log' new m same (stands_kept ws log old new m a.content s))

-- ---- the base moves

-- a new base of a timeline
pub record BaseOn (ws : List Span) (m : BootMark) (base : ℕ) : Type 0 where
  pub later : m.base ≤ base
  pub place : is_place base ws ≡ true
  pub lawful : IsBootMark (based m base)

-- the SCN of the newest window that a log gives is
pub base_on : (ws : List Span) (log log' : LogState) (store : KeeperState) (m : BootMark) (scn base : ℕ) → IsLog log → TellsWindows log → ReadsNewest m.base (min scn m.applied) log log' (Ok base) → StandsForBoot ws log store m → BaseOn ws m base
base_on ws log log' store m scn base l told r s =
    let held = windows_between log.floor log.high ws in
    let upto = min scn m.applied in
    let is : base ≡ end_from m.base (windows_between m.base upto ws) =
    if_told (λ (ws' : List Span). base ≡ end_from m.base (windows_between m.base upto ws')) log.windows held (stretch_told ws log s.stretch told) r.is
    ∙ ap (end_from m.base) (between_within log.floor m.base upto log.high ws s.between.low (omega (arith, s.between.high))) in
    record {
      later = r.low;
      place = subst (λ n. is_place n ws ≡ true) (sym is) (stretch_end_place m.base m.base upto ws s.lawful.base_place);
      lawful = record { order = omega (arith, r.high, s.between.order); within = omega (arith, l.within, s.between.high) };
    }

-- a new base was committed
stands_based : (ws : List Span) (log : LogState) (old new : KeeperState) (m : BootMark) (base : ℕ) → BaseOn ws m base → TellsOnly (option_map (moved (base_move (based m base))) old.content) new.content → StandsForBoot ws log old m → StandsForBoot ws log new (based m base)
stands_based ws log old new m base b e s = record {
  lawful = record {
    applied = b.lawful.order;
    high = s.lawful.high;
    base_place = b.place;
    applied_place = s.lawful.applied_place;
    high_place = s.lawful.high_place;
  };
  between = record { low = omega (arith, s.between.low, b.later); order = b.lawful.order; high = s.between.high };
  stretch = s.stretch;
  table = carried_told (HoldsTable ws m) (HoldsTable ws (based m base)) (moved (base_move (based m base))) old.content new.content e (table_moved ws m (based m base) [] refl b.lawful) s.table;
}

dropped_told : (ws : List Span) (scn : ℕ) (log log' : LogState) → log.windows ≡ Some (windows_between log.floor log.high ws) → Dropped scn log log' → log'.windows ≡ Some (windows_between log'.floor log'.high ws)
dropped_told ws scn log log' e d =
    d.windows ∙ ap (option_map (windows_between log'.floor log.high)) e
    ∙ ap Some (between-after log.floor log'.floor log.high ws d.later ∙ ap (λ n. windows_between log'.floor n ws) (sym d.high))

-- windows up to the base were dropped
stands_dropped : (ws : List Span) (log log' : LogState) (store : KeeperState) (m : BootMark) → IsTimeline ws → TellsWindows log → IsLog log' → Dropped m.base log log' → StandsForBoot ws log store m → StandsForBoot ws log' store m
stands_dropped ws log log' store m t told l d s =
    let held = windows_between log'.floor log'.high ws in
    let is = dropped_told ws m.base log log' (stretch_told ws log s.stretch told) d in
    let holds : Holds log'.floor log'.high held = if_told (λ ws'. Holds log'.floor log'.high ws') log'.windows held is l.holds in
    let high_place = subst (λ n. is_place n ws ≡ true) (sym d.high) s.lawful.high_place in
    record {
      lawful = record {
        applied = s.lawful.applied;
        high = omega (arith, s.lawful.high, d.high);
        base_place = s.lawful.base_place;
        applied_place = s.lawful.applied_place;
        high_place = high_place;
      };
      between = record { low = omega (arith, d.upto, s.between.low); order = s.between.order; high = omega (arith, s.between.high, d.high) };
      stretch = record {
        floor = floor_place log'.floor log'.high ws t holds.chained holds.ends high_place;
        windows = told_if (λ ws'. ws' ≡ held) log'.windows held is refl;
      };
      table = s.table;
    }

pub told_read : (log log' : LogState) → SameLog log log' → TellsWindows log → TellsWindows log'
told_read log log' same told = subst TellsWindows (sym same) told

same_stands : (ws : List Span) (old new : BootState) → SameParts old new → Stands ws old → Stands ws new
same_stands ws old new p s = subst (StandsForBoot ws new.log new.keeper) (sym p.mark) (stands_read ws old.log new.log new.keeper old.mark p.log (stands_kept ws old.log old.keeper new.keeper old.mark p.keeper.content s))

later_stands : (ws : List Span) (base : ℕ) (old new : BootState) → BaseOn ws old.mark base → SetsLater base old new → Stands ws old → StandsForBoot ws old.log new.keeper (based old.mark base)
later_stands ws base old new b set s = stands_based ws old.log old.keeper new.keeper old.mark base b set.keeper.content s

-- a call that sets a later base
pub set_stands : (ws : List Span) (result : Result ℕ BootFault) (base : ℕ) (old new : BootState) → IsTimeline ws → TellsWindows old.log → BaseOn ws old.mark base → IfOk result (λ done. IsLog new.log) → SetsBase result base old new → Stands ws old → new.halted ≡ false → Stands ws new
set_stands ws (Ok scn) base old new t told b l h s runs =
    let d = h.2 in
    let mark = based old.mark base in
    let read = stands_read ws old.log d.read new.keeper mark d.same (later_stands ws base old new b d.set s) in
    subst (StandsForBoot ws new.log new.keeper) (sym d.set.mark) (stands_dropped ws d.read new.log new.keeper mark t (told_read old.log d.read d.same told) l d.dropped read)
set_stands ws (Err LogFailed) base old new t told b l h s runs = absurd (true≢false (sym h.0 ∙ runs))
set_stands ws (Err StoreFailed) base old new t told b l h s runs = absurd (true≢false (sym h.0 ∙ runs))
set_stands ws (Err Halted) base old new t told b l h s runs = absurd h
set_stands ws (Err NoMemory) base old new t told b l h s runs = same_stands ws old new h.1 s

stopped_stands : (ws : List Span) (base : ℕ) (old new : BootState) → BaseOn ws old.mark base → Stopped (base_move (based old.mark base)) old.keeper new.keeper → Stands ws old → (mark : BootMark) × StandsForBoot ws old.log new.keeper mark
stopped_stands ws base old new b (inl met) s =
    (old.mark, stands_unmoved ws old.log old.keeper new.keeper old.mark met.content s)
stopped_stands ws base old new b (inr met) s = (based old.mark base, stands_based ws old.log old.keeper new.keeper old.mark base b met.content s)

-- after the keeper failed, it stands at the base before the commit or after
pub set_reopens : (ws : List Span) (result : Result ℕ BootFault) (base : ℕ) (old new : BootState) → BaseOn ws old.mark base → SetsBase result base old new → Stands ws old → IsErrOf result StoreFailed → (mark : BootMark) × StandsForBoot ws new.log new.keeper mark
set_reopens ws result base old new b h s failed =
    let set = subst (λ r. SetsBase r base old new) failed h in
    let next = stopped_stands ws base old new b set.2.keeper s in
    (next.0, stands_read ws old.log new.log new.keeper next.0 set.2.log next.1)
