-- A trim by its steps: the newest window is read, and its SCN, a later base, is set.
use Rattle.std.proofs.Common.{◌≡◌, ℕ, min, true, false, List, Result, Ok, Err, IfOk, IsErrOf, inr, inl, true≢false, sym, ap, subst, ◌∙◌, arith}
use Rattle.bus_types.specs.Window.{Span}
use Rattle.bus_types.specs.Timeline.{IsTimeline}
use Rattle.bus_stores.specs.declared.boot_fault.BootFault.{BootFault}
use Rattle.bus_stores.specs.declared.boot_fault.BootFault.TheVariants.{LogFailed, StoreFailed, Halted, NoMemory}
use Rattle.bus_stores.specs.Log.{LogState, IsLog, SameLog}
use Rattle.snapshot_applier.specs.declared.boot.BootMark.{BootMark}
use Rattle.bootstrap_core.specs.Boot.{BootState, StandsForBoot, Stands}
use Rattle.bootstrap_core.specs.Moving.{TellsWindows, DropsEach, BeginsBehind, FindsBase, SetsLater, DropsLater, SetsNone, Trims}
use Rattle.bootstrap_core.specs.Trimming.{ReadsNewest, SetsBase}
use Rattle.bootstrap_core.proofs.BaseFloors.{floor_is_base}
use Rattle.bootstrap_core.proofs.StandingMoves.{stands_read, told_read, base_on, set_stands, set_reopens}

read_on : (old mid new : LogState) → SameLog old mid → SameLog mid new → SameLog old new
read_on old mid new s t = t ∙ ap (λ (l : LogState). record l { faults = new.faults }) s

-- a log that was only read drops as it did
each_on : (old read : LogState) → SameLog old read → DropsEach old → DropsEach read
each_on old read same each = subst DropsEach (sym same) each

begins_on : (scn : ℕ) (old read new : LogState) → SameLog old read → BeginsBehind scn read new → BeginsBehind scn old new
begins_on scn old read new same b = subst (λ (s : LogState). BeginsBehind scn s new) same b

found_base : (scn base : ℕ) (old : BootState) (read : LogState) → ReadsNewest old.mark.base (min scn old.mark.applied) old.log read (Ok base) → FindsBase scn base old
found_base scn base old read r = record { is = r.is; low = r.low; high = r.high }

pub later_on : (base : ℕ) (old new : BootState) (read : LogState) → SetsLater base (record old { log = read }) new → SetsLater base old new
later_on base old new read s = record { later = s.later; keeper = s.keeper; mark = s.mark }

trims_set : (scn base : ℕ) (result : Result ℕ BootFault) (old new : BootState) (read : LogState) → old.halted ≡ false → ReadsNewest old.mark.base (min scn old.mark.applied) old.log read (Ok base) → SetsBase result base (record old { log = read }) new → Trims result scn old new
trims_set scn base (Ok n) old new read runs r h =
    let d = h.2 in
    let drops : DropsLater base old new = record {
      set = later_on base old new read d.set;
      read = d.read;
      same = read_on old.log read d.read r.same d.same;
      dropped = d.dropped;
      all = λ each. begins_on base old.log read new.log r.same (d.all (each_on old.log read r.same each));
      room = d.room ∙ r.counts.room;
    } in
    subst (λ m. Trims (Ok m) scn old new) (sym h.0) (h.1, found_base scn base old read r, inr drops)
trims_set scn base (Err LogFailed) old new read runs r h =
    (h.0, omega (arith, r.counts.faults, h.1), inr (base, found_base scn base old read r, later_on base old new read h.2))
trims_set scn base (Err StoreFailed) old new read runs r h =
    let none : SetsNone base old new = record {
      later = h.2.later;
      keeper = h.2.keeper;
      log = read_on old.log read new.log r.same h.2.log;
      mark = h.2.mark;
    } in
    (h.0, h.1, (base, found_base scn base old read r, none))
trims_set scn base (Err Halted) old new read runs r h = absurd h
trims_set scn base (Err NoMemory) old new read runs r h =
    (h.0 ∙ sym runs, record { keeper = h.1.keeper; log = read_on old.log read new.log r.same h.1.log; mark = h.1.mark })

-- the log begins at the new base
floor_set : (scn base : ℕ) (result : Result ℕ BootFault) (old new : BootState) (read : LogState) → IsLog old.log → ReadsNewest old.mark.base (min scn old.mark.applied) old.log read (Ok base) → SetsBase result base (record old { log = read }) new
    → TellsWindows old.log → DropsEach old.log → old.log.floor ≡ old.mark.base → new.halted ≡ false → new.log.floor ≡ new.mark.base
floor_set scn base (Ok n) old new read l r h told each e runs =
    let d = h.2 in
    let begins = begins_on base old.log read new.log r.same (d.all (each_on old.log read r.same each)) in
    floor_is_base old.log new.log old.mark.base (min scn old.mark.applied) base told l e r.is begins ∙ ap (λ (m : BootMark). m.base) (sym d.set.mark)
floor_set scn base (Err LogFailed) old new read l r h told each e runs = absurd (true≢false (sym h.0 ∙ runs))
floor_set scn base (Err StoreFailed) old new read l r h told each e runs = absurd (true≢false (sym h.0 ∙ runs))
floor_set scn base (Err Halted) old new read l r h told each e runs = absurd h
floor_set scn base (Err NoMemory) old new read l r h told each e runs =
    ap (λ (s : LogState). s.floor) (read_on old.log read new.log r.same h.1.log) ∙ e ∙ ap (λ (m : BootMark). m.base) (sym h.1.mark)

-- a later base was found in the log, as it then was, and set
pub record TrimSteps (scn base : ℕ) (result : Result ℕ BootFault) (old : BootState) (read : LogState) (new : BootState) : Type 0 where
  pub log : IsLog old.log
  pub runs : old.halted ≡ false
  pub reads : ReadsNewest old.mark.base (min scn old.mark.applied) old.log read (Ok base)
  pub sets : SetsBase result base (record old { log = read }) new
  pub after : IfOk result (λ done. IsLog new.log)

-- what a trim ensures
pub record TrimMeets (scn : ℕ) (result : Result ℕ BootFault) (old new : BootState) : Type 0 where
  pub trims : Trims result scn old new
  pub floor : TellsWindows old.log → DropsEach old.log → old.log.floor ≡ old.mark.base → new.halted ≡ false → new.log.floor ≡ new.mark.base
  pub stands : (ws : List Span) → IsTimeline ws → Stands ws old → TellsWindows old.log → new.halted ≡ false → Stands ws new
  pub reopens : (ws : List Span) → IsTimeline ws → Stands ws old → TellsWindows old.log → old.halted ≡ false → IsErrOf result StoreFailed → (mark : BootMark) × StandsForBoot ws new.log new.keeper mark

-- those steps meet it
pub trim_meets : (scn base : ℕ) (result : Result ℕ BootFault) (old : BootState) (read : LogState) (new : BootState) → TrimSteps scn base result old read new → TrimMeets scn result old new
trim_meets scn base result old read new t = record {
  trims = trims_set scn base result old new read t.runs t.reads t.sets;
  floor = λ told each e runs. floor_set scn base result old new read t.log t.reads t.sets told each e runs;
  stands = λ ws timeline s told runs.
      let on = base_on ws old.log read old.keeper old.mark scn base t.log told t.reads s in
      set_stands ws result base (record old { log = read }) new timeline (told_read old.log read t.reads.same told) on t.after t.sets (stands_read ws old.log read old.keeper old.mark t.reads.same s) runs;
  reopens = λ ws timeline s told runs failed.
      let on = base_on ws old.log read old.keeper old.mark scn base t.log told t.reads s in
      set_reopens ws result base (record old { log = read }) new on t.sets (stands_read ws old.log read old.keeper old.mark t.reads.same s) failed;
}
