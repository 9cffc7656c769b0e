-- A bootstrap that survived a stop is opened again.
use Rattle.std.proofs.Common.{◌≡◌, ◌∙◌, ℕ, ◌≤◌, true, List, is_some, Option, Some, None, Result, Ok, Err, sym, ap, subst, arith}
use Rattle.std.specs.Prelude.{IsSome, IfSome, Vec}
use Rattle.std.specs.Global.{Global}
use Rattle.bus_types.specs.Window.{Span}
use Rattle.bus_types.specs.Timeline.{IsTimeline, windows_between}
use Rattle.bus_types.specs.Relay.{is_place}
use Rattle.bus_wire.specs.True.{Boot}
use Rattle.bus_stores.specs.Keeper.{KeeperState, Content, TellsOnly}
use Rattle.bus_stores.specs.Log.{LogState}
use Rattle.snapshot_applier.specs.declared.boot.BootMark.{BootMark}
use Rattle.snapshot_applier.specs.BootMark.{IsBootStored}
use Rattle.snapshot_applier.proofs.BootTexts.{one_boot}
use Rattle.bootstrap_core.specs.declared.fault.BootOpen.{BootOpen}
use Rattle.bootstrap_core.specs.declared.fault.BootOpen.TheVariants as boots
use Rattle.bootstrap_core.specs.Boot.{BootParts, HoldsTable, StandsForBoot, told}
use Rattle.bootstrap_core.specs.Opening.{IsOpened, OpensNot}
use Rattle.log_disk.specs.Disk.{DiskState}
use Rattle.log_store.specs.declared.opening.OpenLog.{OpenLog}
use Rattle.log_store.specs.declared.opening.OpenLog.TheVariants as logs
use Rattle.log_store.specs.Opening.{AllTell, LogOpened, FindsSame, IsLogOf, IsNotBad}
use Rattle.log_store.specs.Store.{StoreParts, log_of}
use Rattle.log_boot.specs.declared.opening.OpenBoot.{OpenBoot}
use Rattle.log_boot.specs.declared.opening.OpenBoot.TheVariants.{Log, Boot as OfBoot}
use Rattle.log_boot.specs.Stops.{Runs, NotBelow, Survives, log_with, keeper_with, numbers_of}
use Rattle.log_boot.specs.Reopening.{OpensBoot, OpensOver, StandsOver, IsOutside, RunsAgain}

-- ---- what is told

-- content that is still told
still_told : (is told : Option Content) (c : Content) → is ≡ Some c → TellsOnly is told → IsSome told → told ≡ Some c
still_told is None c e t some = absurd (cc some)
still_told is (Some d) c e t some = sym t ∙ e

at_told : (P : Content → Type 0) (told : Option Content) (c : Content) → told ≡ Some c → IfSome told P → P c
at_told P told c e h = subst (λ o. IfSome o P) e h

one_stored : (text : Option (List ℕ)) (m n : BootMark) → IsBootStored text m → IsBootStored text n → m ≡ n
one_stored None m n a b = a ∙ sym b
one_stored (Some text) m n a b = one_boot m n a.0 b.0 (sym a.1 ∙ b.1)

-- ---- the log and the keeper stand

-- a log with those ends and windows, and a keeper with that content, stand as they did
transferred : (ws : List Span) (low high : ℕ) (windows : List Span) (log : LogState) (c : Content) (store : KeeperState) (m : BootMark) → IsLogOf low high windows log → store.content ≡ Some c
    → StandsForBoot ws (log_with low high windows) (keeper_with c) m → StandsForBoot ws log store m
transferred ws low high windows log c store m l e s = record {
  lawful = record {
    applied = s.lawful.applied;
    high = omega (arith, s.lawful.high, l.high);
    base_place = s.lawful.base_place;
    applied_place = s.lawful.applied_place;
    high_place = subst (λ n. is_place n ws ≡ true) (sym l.high) s.lawful.high_place;
  };
  between = record { low = omega (arith, s.between.low, l.floor); order = s.between.order; high = omega (arith, s.between.high, l.high) };
  stretch = record {
    floor = subst (λ n. is_place n ws ≡ true) (sym l.floor) s.stretch.floor;
    windows = subst (λ told. IfSome told (λ held. held ≡ windows_between log.floor log.high ws)) (sym l.windows) (s.stretch.windows ∙ (λ i. windows_between (sym l.floor i) (sym l.high i) ws));
  };
  table = subst (λ told. IfSome told (HoldsTable ws m)) (sym e) s.table;
}

-- ---- no other fault

module _ (ws : List Span) (log : LogState) (old new : KeeperState) (c : Content) (m : BootMark) (tells : new.content ≡ Some c) (s : StandsForBoot ws log old m) (table : HoldsTable ws m c) where
  marks : (n : BootMark) → IsBootStored c.mark n → n ≡ m
  marks n is = one_stored c.mark n m is table.stored

  boot_outside : (fault : BootOpen) → OpensNot fault log old new → IsOutside (OfBoot fault)
  boot_outside boots.BadMark h = at_told (λ d. (n : BootMark) → IsBootStored d.mark n → ⊥) new.content c tells h m table.stored
  boot_outside (boots.Ahead applied high) h =
      let n = at_told (λ d. (n : BootMark) × IsBootStored d.mark n × (n.applied ≡ applied)) new.content c tells h.2 in
      omega (arith, h.0, h.1, n.2, ap (λ (k : BootMark). k.applied) (marks n.0 n.1), s.between.high)
  boot_outside (boots.Hole base floor) h =
      let n = at_told (λ d. (n : BootMark) × IsBootStored d.mark n × (n.base ≡ base) × (n.applied ≤ log.high)) new.content c tells h.2 in
      omega (arith, h.0, h.1, n.2, ap (λ (k : BootMark). k.base) (marks n.0 n.1), s.between.low)
  boot_outside boots.LogFailed h = h
  boot_outside boots.StoreFailed h = tt
  boot_outside boots.NoMemory h = tt

log_outside : (fault : OpenLog) → IsNotBad fault → IsOutside (Log fault)
log_outside (logs.BadSegment segment place) h = h
log_outside logs.Failed h = tt
log_outside logs.NoMemory h = tt

-- ---- it is opened

module _ {D K : Type 0} (disk : D → DiskState) (store : K → KeeperState) (disks : List D) (keeper : K) where
  pub opens_over : (log : StoreParts D) (result : Result (BootParts (StoreParts D) K) (OpenBoot × Vec D Global × K)) → LogOpened disk disks log → OpensOver disk store log keeper result → OpensBoot disk store disks keeper result
  opens_over log (Ok b) l h = record {
    log = subst (LogOpened disk disks) (sym h.0) l;
    boot = subst (λ (g : StoreParts D). IsOpened (log_of disk g) (store keeper) (told (log_of disk) store b)) (sym h.0) h.1;
  }
  opens_over log (Err (Log fault, back, kept)) l h = absurd h
  opens_over log (Err (OfBoot fault, back, kept)) l h = record { log = log; opened = l; back_are = h.0; why = h.1; same = h.2 }

  module _ (ws : List Span) (least : Boot) (c : Content) (images : List (List ℕ)) (timeline : IsTimeline ws) (tell : AllTell disk disks images) (tells : (store keeper).content ≡ Some c) (s : Survives ws least c images) where
    -- the log that was opened
    found : (log : StoreParts D) → FindsSame disk disks (Ok log) → IsLogOf s.low s.high s.windows (log_of disk log)
    found log finds = finds images s.low s.high s.windows tell s.holds

    stood : (log : StoreParts D) → FindsSame disk disks (Ok log) → StandsForBoot ws (log_of disk log) (store keeper) s.mark
    stood log finds = transferred ws s.low s.high s.windows (log_of disk log) c (store keeper) s.mark (found log finds) tells s.stands

    boot_runs : (log : StoreParts D) (b : BootParts (StoreParts D) K) → FindsSame disk disks (Ok log) → OpensOver disk store log keeper (Ok b) → StandsOver disk store log keeper (Ok b) → IsSome (store b.keeper).content
        → Runs disk store ws c b × NotBelow least (numbers_of disk b)
    boot_runs log b finds h over some =
        let is = found log finds in
        let stands = over ws s.mark (stood log finds) some in
        let windows : (log_of disk b.log).windows ≡ Some s.windows = ap (λ (g : StoreParts D). (log_of disk g).windows) h.0 ∙ is.windows in
        let high : (log_of disk b.log).high ≡ s.high = ap (λ (g : StoreParts D). (log_of disk g).high) h.0 ∙ is.high in (
          record {
            timeline = timeline;
            stands = stands.1;
            windows = ap is_some windows;
            content = still_told (store keeper).content (store b.keeper).content c tells h.1.keeper_same.content some;
            runs = h.1.runs;
          },
          record {
            base = omega (arith, s.not_below.base, ap (λ (m : BootMark). m.base) stands.0);
            applied = omega (arith, s.not_below.applied, ap (λ (m : BootMark). m.applied) stands.0);
            high = omega (arith, s.not_below.high, high);
          },
        )

    pub runs_again : (log : StoreParts D) (result : Result (BootParts (StoreParts D) K) (OpenBoot × Vec D Global × K)) → FindsSame disk disks (Ok log) → OpensOver disk store log keeper result → StandsOver disk store log keeper result → RunsAgain disk store ws least c result
    runs_again log (Ok b) finds h over = boot_runs log b finds h over
    runs_again log (Err (Log fault, back, kept)) finds h over = absurd h
    runs_again log (Err (OfBoot fault, back, kept)) finds h over = λ some.
        let now = still_told (store keeper).content (store kept).content c tells h.2.content some in
        boot_outside ws (log_of disk log) (store keeper) (store kept) c s.mark now (stood log finds) s.stands.table fault h.1

    pub not_again : (fault : OpenLog) (back : Vec D Global) → FindsSame disk disks (Err (fault, back)) → IsOutside (Log fault)
    not_again fault back finds = log_outside fault (finds images s.low s.high s.windows tell s.holds)
