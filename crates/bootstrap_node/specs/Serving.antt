-- How a bootstrap is served.
use Rattle.std.specs.Prelude.{ℕ, false, List, Option, None}
use Rattle.bus_wire.specs.declared.ask.Ask.{Ask}
use Rattle.bus_http.specs.declared.route.Side.TheVariants.{Boot}
use Rattle.bus_http.specs.declared.service.ServeEnd.{ServeEnd}
use Rattle.bus_http.specs.Talks.{Served}
use Rattle.bus_stores.specs.Keeper.{KeeperState, untold}
use Rattle.bus_stores.specs.Log.{LogState}
use Rattle.snapshot_applier.specs.BootMark.{new_boot_mark}
use Rattle.bootstrap_core.specs.Boot.{BootParts, BootState, told}
use Rattle.bootstrap_core.specs.Moving.{SameParts}
use Rattle.bootstrap_core.specs.Answering.{MayReply}
use Rattle.bootstrap_server.specs.Locked.{KeepsLocked}

-- a log of which nothing was logged
abbrev pub empty_log : LogState
empty_log = record { floor = 0; high = 0; windows = None; room = None; full = λ size. false; faults = 0 }

-- a bootstrap that stands for no run
abbrev pub no_boot : BootState
no_boot = record { log = empty_log; keeper = untold 0; mark = new_boot_mark; halted = false }

module _ {G K : Type 0} (log : G → LogState) (keeper : K → KeeperState) (start : BootState) where
  -- these bytes may be the reply of a bootstrap whose log, keeper and boot mark are as they were at this start
  abbrev pub MayReplyStill : Ask → List ℕ → Type 0
  MayReplyStill ask bytes = (b : BootParts G K) × SameParts start (told log keeper b) × MayReply (told log keeper b) ask bytes

  -- the same as a service's relation, of a state of which nothing is told
  abbrev pub MayStill : Unit {0} → Unit {0} → Ask → List ℕ → Type 0
  MayStill before after ask bytes = MayReplyStill ask bytes

  -- of the bytes that a connection gave and of those that were written to it, this is the talk with such a bootstrap
  abbrev pub BootServes : Unit {0} → Unit {0} → Option (List ℕ) → Option (List ℕ) → Option (List ℕ) → Option (List ℕ) → Option (List ℕ) → Option (List ℕ) → ServeEnd → Type 0
  BootServes s t given given' left left' written written' end = Served Boot MayStill KeepsLocked false s t given given' left left' written written' end
