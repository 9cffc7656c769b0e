-- A bootstrap that is opened over disks and a keeper.
use Rattle.std.specs.Prelude.{◌≡◌, List, Result, Ok, Err, Vec, IfOk, IsSome}
use Rattle.std.specs.Global.{Global}
use Rattle.bus_types.specs.Window.{Span}
use Rattle.bus_wire.specs.True.{Boot}
use Rattle.bus_stores.specs.Keeper.{KeeperState, Content, SameStore}
use Rattle.bootstrap_core.specs.declared.fault.BootOpen.{BootOpen}
use Rattle.bootstrap_core.specs.declared.fault.BootOpen.TheVariants as boots
use Rattle.snapshot_applier.specs.declared.boot.BootMark.{BootMark}
use Rattle.bootstrap_core.specs.Boot.{BootParts, told, Stands, StandsForBoot}
use Rattle.bootstrap_core.specs.Opening.{IsOpened, OpensNot}
use Rattle.log_disk.specs.Disk.{DiskState}
use Rattle.log_store.specs.declared.opening.OpenLog.TheVariants as logs
use Rattle.log_store.specs.Opening.{LogOpened, LogNotOpened, disks_of}
use Rattle.log_store.specs.Store.{StoreParts, log_of}
use Rattle.log_boot.specs.declared.opening.OpenBoot.{OpenBoot}
use Rattle.log_boot.specs.declared.opening.OpenBoot.TheVariants.{Log, Boot as OfBoot}
use Rattle.log_boot.specs.Stops.{Runs, NotBelow, numbers_of}

-- ---- what is opened

-- disks were opened as a log, and a bootstrap over it and a keeper
pub record OpensBoth {D K : Type 0} (disk : D → DiskState) (store : K → KeeperState) (disks : List D) (keeper : K) (b : BootParts (StoreParts D) K) : Type 0 where
  pub log : LogOpened disk disks b.log
  pub boot : IsOpened (log_of disk b.log) (store keeper) (told (log_of disk) store b)

-- they were opened as a log, but no bootstrap over it
pub record OpensLogAlone {D K : Type 0} (disk : D → DiskState) (store : K → KeeperState) (fault : BootOpen) (disks : List D) (keeper : K) (back : List D) (kept : K) : Type 0 where
  pub log : StoreParts D
  pub opened : LogOpened disk disks log
  pub back_are : back ≡ disks_of log.segments
  pub why : OpensNot fault (log_of disk log) (store keeper) (store kept)
  pub same : SameStore (store keeper) (store kept)

-- why none was opened; the disks and the keeper were only read
abbrev pub OpensNone : {D K : Type 0} → (D → DiskState) → (K → KeeperState) → OpenBoot → List D → K → List D → K → Type 0
OpensNone disk store (Log fault) disks keeper back kept = LogNotOpened disk fault disks back × (kept ≡ keeper)
OpensNone disk store (OfBoot fault) disks keeper back kept = OpensLogAlone disk store fault disks keeper back kept

abbrev pub OpensBoot : {D K : Type 0} → (D → DiskState) → (K → KeeperState) → List D → K → Result (BootParts (StoreParts D) K) (OpenBoot × Vec D Global × K) → Type 0
OpensBoot disk store disks keeper (Ok b) = OpensBoth disk store disks keeper b
OpensBoot disk store disks keeper (Err e) = OpensNone disk store e.0 disks keeper e.1.items e.2

-- ---- after a stop

-- a fault of a disk or of the keeper, or want of memory
abbrev pub IsOutside : OpenBoot → Type 0
IsOutside (Log (logs.BadSegment segment place)) = ⊥
IsOutside (Log logs.Failed) = Unit {0}
IsOutside (Log logs.NoMemory) = Unit {0}
IsOutside (OfBoot boots.BadMark) = ⊥
IsOutside (OfBoot (boots.Ahead applied high)) = ⊥
IsOutside (OfBoot (boots.Hole base floor)) = ⊥
IsOutside (OfBoot boots.LogFailed) = ⊥
IsOutside (OfBoot boots.StoreFailed) = Unit {0}
IsOutside (OfBoot boots.NoMemory) = Unit {0}

-- the bootstrap runs again for the timeline, and none of its numbers is below these, where the keeper still tells its content; or
-- none was opened, for a fault of the outside alone
abbrev pub RunsAgain : {D K : Type 0} → (D → DiskState) → (K → KeeperState) → List Span → Boot → Content → Result (BootParts (StoreParts D) K) (OpenBoot × Vec D Global × K) → Type 0
RunsAgain disk store ws least c (Ok b) = IsSome (store b.keeper).content → Runs disk store ws c b × NotBelow least (numbers_of disk b)
RunsAgain disk store ws least c (Err e) = IsSome (store e.2).content → IsOutside e.0

-- ---- the code's words

-- why no bootstrap was opened over a log on disks; the keeper was only read
abbrev pub OpensNotOver : {D K : Type 0} → (D → DiskState) → (K → KeeperState) → OpenBoot → StoreParts D → K → List D → K → Type 0
OpensNotOver disk store (Log fault) log keeper back kept = ⊥
OpensNotOver disk store (OfBoot fault) log keeper back kept =
    (back ≡ disks_of log.segments) × OpensNot fault (log_of disk log) (store keeper) (store kept) × SameStore (store keeper) (store kept)

abbrev pub OpensOver : {D K : Type 0} → (D → DiskState) → (K → KeeperState) → StoreParts D → K → Result (BootParts (StoreParts D) K) (OpenBoot × Vec D Global × K) → Type 0
OpensOver disk store log keeper (Ok b) = (b.log ≡ log) × IsOpened (log_of disk log) (store keeper) (told (log_of disk) store b)
OpensOver disk store log keeper (Err e) = OpensNotOver disk store e.0 log keeper e.1.items e.2

-- where log and keeper stand for a timeline at a boot mark, the bootstrap does, where the keeper still tells its content
abbrev pub StandsOver : {D K : Type 0} → (D → DiskState) → (K → KeeperState) → StoreParts D → K → Result (BootParts (StoreParts D) K) (OpenBoot × Vec D Global × K) → Type 0
StandsOver disk store log keeper result = (ws : List Span) (mark : BootMark) → StandsForBoot ws (log_of disk log) (store keeper) mark
    → IfOk result (λ b. IsSome (store b.keeper).content → (b.mark ≡ mark) × Stands ws (told (log_of disk) store b))
