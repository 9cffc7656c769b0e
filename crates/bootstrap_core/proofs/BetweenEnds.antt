-- A boot mark stays between the ends of its log.
use Rattle.std.proofs.Common.{◌≡◌, ℕ, ◌≤◌, List, [], ◌∷◌, sym, ap, subst, arith}
use Rattle.bus_types.specs.Window.{Span}
use Rattle.bus_types.specs.Timeline.{end_from}
use Rattle.bus_stores.specs.Keeper.{KeeperState}
use Rattle.bus_stores.specs.Log.{LogState, IsLog, SameLog}
use Rattle.bus_stores.specs.Following.{RiseBetween}
use Rattle.bus_stores.specs.declared.boot_fault.BootFault.{BootFault}
use Rattle.bus_stores.specs.declared.boot_fault.BootFault.TheVariants.{LogFailed, StoreFailed, Halted, NoMemory}
use Rattle.snapshot_applier.specs.declared.boot.BootMark.{BootMark}
use Rattle.snapshot_applier.specs.BootMark.{IsBootMark}
use Rattle.snapshot_applier.specs.Apply.{Applied}
use Rattle.bootstrap_core.specs.Boot.{BootParts, IsBetween}
use Rattle.bootstrap_core.specs.Trimming.{halted_at}

rise_low : (scn high : ℕ) (run : List Span) → RiseBetween scn high run → scn ≤ end_from scn run
rise_low scn high [] r = omega arith
rise_low scn high (w ∷ ws) r = omega (arith, r.0, rise_low w.scn high ws r.2)

rise_high : (scn high : ℕ) (run : List Span) → scn ≤ high → RiseBetween scn high run → end_from scn run ≤ high
rise_high scn high [] h r = h
rise_high scn high (w ∷ ws) h r = rise_high w.scn high ws r.1 r.2

-- a log that was only read has the same ends
pub between_read : (log log' : LogState) (m : BootMark) → SameLog log log' → IsBetween log m → IsBetween log' m
between_read log log' m same b = record {
  low = omega (arith, b.low, ap (λ (l : LogState). l.floor) same);
  order = b.order;
  high = omega (arith, b.high, ap (λ (l : LogState). l.high) same);
}

-- the next windows were applied
pub applied_between : (log log' : LogState) (m next : BootMark) (most : ℕ) (old new : KeeperState) → IsLog log → SameLog log log' → IsBetween log m → Applied m next most log old new → IsBootMark next × IsBetween log' next
applied_between log log' m next most old new l same b a =
    let rising = a.are.found.rising in
    let low = rise_low m.applied log.high a.windows rising in
    let high = rise_high m.applied log.high a.windows b.high rising in
    let applied : next.applied ≡ end_from m.applied a.windows = ap (λ (n : BootMark). n.applied) a.mark in
    let base : next.base ≡ m.base = ap (λ (n : BootMark). n.base) a.mark in
    let between : IsBetween log next = record { low = omega (arith, b.low); order = omega (arith, b.order); high = omega arith } in
    (record { order = between.order; within = omega (arith, between.high, l.within) }, between_read log log' next same between)

-- a fault changes neither log nor keeper
pub halted_parts : {G K : Type 0} (P : G → K → Type 0) (fault : BootFault) (old new : BootParts G K) → new ≡ halted_at fault old → P old.log old.keeper → P new.log new.keeper
halted_parts P LogFailed old new e h = subst (λ (b : BootParts _ _). P b.log b.keeper) (sym e) h
halted_parts P StoreFailed old new e h = subst (λ (b : BootParts _ _). P b.log b.keeper) (sym e) h
halted_parts P Halted old new e h = subst (λ (b : BootParts _ _). P b.log b.keeper) (sym e) h
halted_parts P NoMemory old new e h = subst (λ (b : BootParts _ _). P b.log b.keeper) (sym e) h
