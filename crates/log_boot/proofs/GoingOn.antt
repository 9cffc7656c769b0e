-- A bootstrap that runs goes on after a call, unless it is halted, and none of its numbers falls.
use Rattle.std.proofs.Common.{◌≡◌, ◌∙◌, inl, inr, ℕ, true, false, true≢false, List, [], ◌++◌, take, Option, Some, None, option_map, is_some, Result, Ok, Err, sym, ap, subst, refl, arith}
use Rattle.std.proofs.lemmas.List.{take_all}
use Rattle.bus_types.specs.Window.{Span}
use Rattle.bus_types.specs.Timeline.{IsTimelineFrom, windows_between}
use Rattle.bus_types.proofs.Stretches.{end_rises, timeline-take, run_rises}
use Rattle.bus_stores.specs.declared.boot_fault.BootFault.{BootFault}
use Rattle.bus_stores.specs.declared.boot_fault.BootFault.TheVariants.{LogFailed, StoreFailed, Halted, NoMemory}
use Rattle.bus_stores.specs.Keeper.{KeeperState, Content}
use Rattle.bus_stores.specs.Log.{LogState, SameLog}
use Rattle.snapshot_applier.specs.declared.boot.BootMark.{BootMark}
use Rattle.bootstrap_core.specs.declared.fault.TakeLog.{TakeLog}
use Rattle.bootstrap_core.specs.declared.fault.TakeLog.TheVariants as takes
use Rattle.bootstrap_core.specs.Boot.{BootParts, BootState, told, numbers, Stands}
use Rattle.bootstrap_core.specs.Logging.{AreWindowsBehind, IsChained, Logged, TakesLog}
use Rattle.bootstrap_core.specs.Moving.{AppliesBoot, TellsWindows, Trims}
use Rattle.bootstrap_core.proofs.ReplyWindows.{run_follows}
use Rattle.log_disk.specs.Disk.{DiskState}
use Rattle.log_store.specs.Store.{StoreParts, log_of}
use Rattle.log_boot.specs.Stops.{Runs, NotBelow, numbers_of}
use Rattle.log_boot.proofs.Keeping.{next_are}

-- its log still tells its windows, and none of its numbers fell
pub record Rises (old new : BootState) : Type 0 where
  pub windows : TellsWindows new.log
  pub not_below : NotBelow (numbers old.log old.mark) (numbers new.log new.mark)

same_rises : (old new : BootState) → TellsWindows old.log → new ≡ old → Rises old new
same_rises old new t same = subst (λ b. Rises old b) (sym same) (record { windows = t; not_below = record { base = omega arith; applied = omega arith; high = omega arith } })

parts_rise : (old new : BootState) → TellsWindows old.log → SameLog old.log new.log → new.mark ≡ old.mark → Rises old new
parts_rise old new t same mark = record {
  windows = subst TellsWindows (sym same) t;
  not_below = record {
    base = omega (arith, ap (λ (m : BootMark). m.base) mark);
    applied = omega (arith, ap (λ (m : BootMark). m.applied) mark);
    high = omega (arith, ap (λ (l : LogState). l.high) same);
  };
}

mapped : {A B : Type 0} (f : A → B) (o : Option A) → is_some o ≡ true → is_some (option_map f o) ≡ true
mapped f None h = absurd (true≢false (sym h))
mapped f (Some x) h = refl

-- ---- windows of a reply

logged_rises : (old new : BootState) (run : List Span) → TellsWindows old.log → IsTimelineFrom old.log.high run → Logged run old new → Rises old new
logged_rises old new run t follows l = record {
  windows = subst (λ told. is_some told ≡ true) (sym l.windows) (mapped (λ held. held ++ run) old.log.windows t);
  not_below = record {
    base = omega (arith, ap (λ (m : BootMark). m.base) l.mark);
    applied = omega (arith, ap (λ (m : BootMark). m.applied) l.mark);
    high = omega (arith, l.high, end_rises old.log.high run follows);
  };
}

front_rises : (old new : BootState) (bytes : List ℕ) (vs : List Span) (n : ℕ) → TellsWindows old.log → AreWindowsBehind old.log.high bytes vs → IsChained old.log.high vs → Logged (take n vs) old new → Rises old new
front_rises old new bytes vs n t are chained l = logged_rises old new (take n vs) t (timeline-take old.log.high n vs (run_follows old.log.high vs are.run chained)) l

take_rises : (result : Result ℕ TakeLog) (count : ℕ) (bytes : List ℕ) (old new : BootState) → TellsWindows old.log → TakesLog result count bytes old new → new.halted ≡ false → Rises old new
take_rises (Ok scn) count bytes old new t h runs = elim h.are [
  | inl none ↦
      let empty : take count h.windows ≡ [] = ap (take count) none.2 ∙ take_all count [] (omega arith) in
      logged_rises old new (take count h.windows) t (subst (IsTimelineFrom old.log.high) (sym empty) tt) h.logged
  | inr some ↦ front_rises old new bytes h.windows count t some.0 some.1 h.logged
]
take_rises (Err (takes.BadReply place)) count bytes old new t h runs = same_rises old new t h.0
take_rises (Err (takes.Gap floor)) count bytes old new t h runs = same_rises old new t h.0
take_rises (Err (takes.Full need)) count bytes old new t h runs = front_rises old new bytes h.windows h.done t h.are h.chained h.logged
take_rises (Err takes.LogFailed) count bytes old new t h runs = absurd (true≢false (sym h.1.halted ∙ runs))
take_rises (Err takes.Halted) count bytes old new t h runs = same_rises old new t h
take_rises (Err takes.NoMemory) count bytes old new t h runs = front_rises old new bytes h.windows h.done t h.are h.chained h.logged

-- ---- an apply and a trim

module _ {D K : Type 0} (disk : D → DiskState) (store : K → KeeperState) (ws : List Span) (c : Content) (old : BootParts (StoreParts D) K) (r : Runs disk store ws c old) where
  abbrev log : LogState
  log = log_of disk old.log

  abbrev state : BootState
  state = told (log_of disk) store old

  apply_rises : (result : Result ℕ BootFault) (count : ℕ) (new : BootState) → AppliesBoot result count state new → new.halted ≡ false → Rises state new
  apply_rises (Ok applied) count new a runs =
      let later = run_rises 0 old.mark.applied log.high count ws a.keeper.windows r.timeline (next_are disk store ws c old r count a.keeper.windows a.keeper.are) in
      record {
        windows = subst TellsWindows (sym a.log) r.windows;
        not_below = record {
          base = omega (arith, ap (λ (m : BootMark). m.base) a.keeper.mark);
          applied = omega (arith, later, ap (λ (m : BootMark). m.applied) a.keeper.mark);
          high = omega (arith, ap (λ (l : LogState). l.high) a.log);
        };
      }
  apply_rises (Err LogFailed) count new a runs = absurd (true≢false (sym a.0 ∙ runs))
  apply_rises (Err StoreFailed) count new a runs = absurd (true≢false (sym a.0 ∙ runs))
  apply_rises (Err Halted) count new a runs = same_rises state new r.windows a
  apply_rises (Err NoMemory) count new a runs = parts_rise state new r.windows a.1.log a.1.mark

  trim_rises : (result : Result ℕ BootFault) (scn : ℕ) (new : BootState) → Trims result scn state new → new.halted ≡ false → Rises state new
  trim_rises (Ok found) scn new t runs = elim t.2 [
    | inl keeps ↦ parts_rise state new r.windows keeps.same.log keeps.same.mark
    | inr drops ↦
        record {
          windows = subst (λ told. is_some told ≡ true) (sym drops.dropped.windows) (mapped (windows_between new.log.floor drops.read.high) drops.read.windows (subst TellsWindows (sym drops.same) r.windows));
          not_below = record {
            base = omega (arith, drops.set.later, ap (λ (m : BootMark). m.base) drops.set.mark);
            applied = omega (arith, ap (λ (m : BootMark). m.applied) drops.set.mark);
            high = omega (arith, ap (λ (l : LogState). l.high) drops.same, drops.dropped.high);
          };
        }
  ]
  trim_rises (Err LogFailed) scn new t runs = absurd (true≢false (sym t.0 ∙ runs))
  trim_rises (Err StoreFailed) scn new t runs = absurd (true≢false (sym t.0 ∙ runs))
  trim_rises (Err Halted) scn new t runs = same_rises state new r.windows t
  trim_rises (Err NoMemory) scn new t runs = parts_rise state new r.windows t.1.log t.1.mark

  -- ---- so it goes on

  module _ (new : BootParts (StoreParts D) K) (d : Content) (stands : Stands ws (told (log_of disk) store new)) (runs : new.halted ≡ false) (tells : (store new.keeper).content ≡ Some d) where
    goes_on : Rises state (told (log_of disk) store new) → Runs disk store ws d new × NotBelow (numbers_of disk old) (numbers_of disk new)
    goes_on s = (record { timeline = r.timeline; stands = stands; windows = s.windows; content = tells; runs = runs }, s.not_below)

    pub take_goes_on : (result : Result ℕ TakeLog) (count : ℕ) (bytes : List ℕ) → TakesLog result count bytes state (told (log_of disk) store new) → Runs disk store ws d new × NotBelow (numbers_of disk old) (numbers_of disk new)
    take_goes_on result count bytes h = goes_on (take_rises result count bytes state (told (log_of disk) store new) r.windows h runs)

    pub apply_goes_on : (result : Result ℕ BootFault) (count : ℕ) → AppliesBoot result count state (told (log_of disk) store new) → Runs disk store ws d new × NotBelow (numbers_of disk old) (numbers_of disk new)
    apply_goes_on result count h = goes_on (apply_rises result count (told (log_of disk) store new) h runs)

    pub trim_goes_on : (result : Result ℕ BootFault) (scn : ℕ) → Trims result scn state (told (log_of disk) store new) → Runs disk store ws d new × NotBelow (numbers_of disk old) (numbers_of disk new)
    trim_goes_on result scn h = goes_on (trim_rises result scn (told (log_of disk) store new) h runs)

    pub answer_goes_on : SameLog log (log_of disk new.log) → new.mark ≡ old.mark → Runs disk store ws d new × NotBelow (numbers_of disk old) (numbers_of disk new)
    answer_goes_on same mark = goes_on (parts_rise state (told (log_of disk) store new) r.windows same mark)
