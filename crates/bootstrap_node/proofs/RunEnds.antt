-- How a run ends.
use Rattle.std.specs.Prelude.{Result, Ok, Err}
use Rattle.std.proofs.Common.{◌≡◌, ℕ, ◌≤◌, false, List, [], ◌∷◌, ◌++◌, length, map, Option, option_map, ◌⊎◌, inl, inr, ap, subst, ◌∙◌, arith}
use Rattle.bus_types.specs.Causes.{Rose}
use Rattle.bus_link.specs.Links.{Told}
use Rattle.bus_stores.specs.Keeper.{KeeperState}
use Rattle.bus_stores.specs.Log.{LogState}
use Rattle.bus_stores.proofs.Held.{told_on}
use Rattle.snapshot_applier.specs.BootMark.{IsBootStored}
use Rattle.trace_script.specs.Printed.{boot_line}
use Rattle.bootstrap_core.specs.declared.fault.BootOpen.{BootOpen}
use Rattle.bootstrap_core.specs.declared.fault.BootOpen.TheVariants as opens
use Rattle.bootstrap_core.specs.Boot.{BootState}
use Rattle.bootstrap_core.specs.Opening.{Stores}
use Rattle.bootstrap_core.specs.Moving.{SameParts}
use Rattle.bus_node.specs.declared.words.BootstrapWords.{BootstrapWords}
use Rattle.bus_node.specs.declared.status.NodeStatus.{NodeStatus}
use Rattle.bus_node.specs.declared.status.NodeStatus.TheVariants as statuses
use Rattle.bus_node.specs.Exchange.{with_exchange}
use Rattle.bootstrap_node.specs.declared.stop.Stop.{Stop}
use Rattle.bootstrap_node.specs.declared.stop.Stop.TheVariants.{BadAnswer, BadReply, LinkFault, StoreFault, WriteFault, NoMemory}
use Rattle.bootstrap_node.specs.Rounds.{Outside, Round, Made, Stopped, StopsRound}
use Rattle.bootstrap_node.specs.Printing.{PrintEnds}
use Rattle.bootstrap_node.specs.Listening.{ListensNot}
use Rattle.bootstrap_node.specs.Statuses.{status_of, open_status}
use Rattle.bootstrap_node.specs.Ends.{IsServed, IsOpenedRun, IsUnopened, IsBootStatus, LeavesDoor, LeavesLink}
use Rattle.bootstrap_node.specs.Running.{EndEnds, RunEnds, Ends}
use Rattle.bootstrap_node.proofs.Making.{rounds_stand, dialed_last}

-- the stored mark is the boot mark still
pub stored_still : (start new : BootState) → SameParts start new → Stores start.keeper start.mark → Stores new.keeper new.mark
stored_still start new same stored =
    told_on (λ c. IsBootStored c.mark new.mark) start.keeper.content new.keeper.content same.keeper.content (rw same.mark stored)

rose_later : (a b c : ℕ) → a ≤ b → Rose b c → Rose a c
rose_later a b c p q = omega (arith, p, q)

either_rose : (a b c d e f : ℕ) → a ≤ b → d ≤ e → (Rose b c ⊎ Rose e f) → (Rose a c ⊎ Rose d f)
either_rose a b c d e f p q (inl h) = inl (omega (arith, p, h))
either_rose a b c d e f p q (inr h) = inr (omega (arith, q, h))

module _ {P G K : Type 0} (given left written : P → Option (List ℕ)) (log : G → LogState) (keeper : K → KeeperState) where
  -- ---- a bootstrap is served, and its numbers are printed

  pub listens_end : (stop : Stop) (words : BootstrapWords) (o o' : Outside P) (start new : BootState) → ListensNot stop o.link_faults o'.link_faults → EndEnds given left written log keeper (Err stop) words o o' start new
  listens_end BadAnswer words o o' start new h = absurd h
  listens_end (BadReply place) words o o' start new h = absurd h
  listens_end LinkFault words o o' start new h = h
  listens_end StoreFault words o o' start new h = absurd h
  listens_end WriteFault words o o' start new h = absurd h
  listens_end NoMemory words o o' start new h = tt

  pub print_end : (printed : Result Unit Stop) (words : BootstrapWords) (o o' : Outside P) (start new : BootState) → PrintEnds printed o.text o'.text o.text_faults o'.text_faults (boot_line new.mark.base new.mark.applied new.log.high)
      → IsServed given left written log keeper words.port words.connections start new o.link o'.link → Stores new.keeper new.mark → EndEnds given left written log keeper printed words o o' start new
  print_end (Ok done) words o o' start new h served stored = record { served = served; stored = stored; text = h }
  print_end (Err BadAnswer) words o o' start new h served stored = absurd h
  print_end (Err (BadReply place)) words o o' start new h served stored = absurd h
  print_end (Err LinkFault) words o o' start new h served stored = absurd h
  print_end (Err StoreFault) words o o' start new h served stored = absurd h
  print_end (Err WriteFault) words o o' start new h served stored = h
  print_end (Err NoMemory) words o o' start new h served stored = tt

  -- ---- the rounds, and then that

  pub end_ends : (ended : Result Unit Stop) (words : BootstrapWords) (rounds : List (Round P)) (o om o' : Outside P) (old start new : BootState) → length rounds ≡ words.rounds
      → Made given left written words.relay false false old start o om rounds → EndEnds given left written log keeper ended words om o' start new → RunEnds given left written log keeper ended words o o' old new
  end_ends (Ok done) words rounds o om o' old start new count made end = record {
    rounds = rounds;
    count = count;
    start = start;
    outside = om;
    made = made;
    served = end.served;
    stored = end.stored;
    text = end.text;
    stands = λ ws line stands tells each. rounds_stand given left written ws rounds old start line made.are stands tells each;
  }
  end_ends (Err BadAnswer) words rounds o om o' old start new count made end = absurd end
  end_ends (Err (BadReply place)) words rounds o om o' old start new count made end = absurd end
  end_ends (Err LinkFault) words rounds o om o' old start new count made end = rose_later o.link_faults om.link_faults o'.link_faults made.later.link end
  end_ends (Err StoreFault) words rounds o om o' old start new count made end = absurd end
  end_ends (Err WriteFault) words rounds o om o' old start new count made end = rose_later o.text_faults om.text_faults o'.text_faults made.later.text end
  end_ends (Err NoMemory) words rounds o om o' old start new count made end = tt

  pub stopped_ends : (stop : Stop) (words : BootstrapWords) (o o' : Outside P) (old new : BootState) → Stopped given left written (StopsRound given left written stop words.relay) words.relay words.rounds old new o o'
      → RunEnds given left written log keeper (Err stop) words o o' old new
  stopped_ends BadAnswer words o o' old new s = s
  stopped_ends (BadReply place) words o o' old new s = s
  stopped_ends LinkFault words o o' old new s = rose_later o.link_faults s.outside.link_faults o'.link_faults s.made.later.link s.stops
  stopped_ends StoreFault words o o' old new s = either_rose old.log.faults s.boot.log.faults new.log.faults old.keeper.faults s.boot.keeper.faults new.keeper.faults s.made.later.log s.made.later.keeper s.stops
  stopped_ends WriteFault words o o' old new s = rose_later o.text_faults s.outside.text_faults o'.text_faults s.made.later.text s.stops
  stopped_ends NoMemory words o o' old new s = tt

  -- ---- statuses

  pub run_status : (ended : Result Unit Stop) (words : BootstrapWords) (l l' : G) (k k' : K) (o o' : Outside P) → IsOpenedRun log keeper (RunEnds given left written log keeper ended words o o') l l' k k'
      → Ends given left written log keeper (status_of ended) words l l' k k' o o'
  run_status (Ok done) words l l' k k' o o' r = r
  run_status (Err BadAnswer) words l l' k k' o o' r = r
  run_status (Err (BadReply place)) words l l' k k' o o' r = r
  run_status (Err LinkFault) words l l' k k' o o' r = r.ends
  run_status (Err StoreFault) words l l' k k' o o' r =
      let was : r.opened.log.faults ≡ (log l).faults = ap (λ (s : LogState). s.faults) r.is_opened.log_same in
      let is : r.new.log.faults ≡ (log l').faults = ap (λ (s : LogState). s.faults) r.log_is in
      let kept : r.new.keeper.faults ≡ (keeper k').faults = ap (λ (s : KeeperState). s.faults) r.keeper_is in
      subst (λ n. Rose (log l).faults (log l').faults ⊎ Rose (keeper k).faults n) kept
      (subst (λ n. Rose (log l).faults n ⊎ Rose (keeper k).faults r.new.keeper.faults) is
      (either_rose (log l).faults r.opened.log.faults r.new.log.faults (keeper k).faults r.opened.keeper.faults r.new.keeper.faults (omega (arith, was)) r.later r.ends))
  run_status (Err WriteFault) words l l' k k' o o' r = r.ends
  run_status (Err NoMemory) words l l' k k' o o' r = tt

  pub open_ends : (fault : BootOpen) (words : BootstrapWords) (l l' : G) (k k' : K) (o o' : Outside P) → IsUnopened log keeper fault l l' k k' o o'
      → Ends given left written log keeper (open_status fault) words l l' k k' o o'
  open_ends opens.BadMark words l l' k k' o o' u = u
  open_ends (opens.Ahead applied high) words l l' k k' o o' u = u
  open_ends (opens.Hole base floor) words l l' k k' o o' u = u
  open_ends opens.LogFailed words l l' k k' o o' u = absurd u.fault_is
  open_ends opens.StoreFailed words l l' k k' o o' u = inr u.fault_is.0
  open_ends opens.NoMemory words l l' k k' o o' u = tt

  pub boot_status : (status : NodeStatus) (words : BootstrapWords) (l l' : G) (k k' : K) (o o' : Outside P) → Ends given left written log keeper status words l l' k k' o o' → IsBootStatus status
  boot_status statuses.Done words l l' k k' o o' h = tt
  boot_status statuses.Usage words l l' k k' o o' h = absurd h
  boot_status (statuses.BadLine line) words l l' k k' o o' h = absurd h
  boot_status statuses.ReadFault words l l' k k' o o' h = absurd h
  boot_status statuses.WriteFault words l l' k k' o o' h = tt
  boot_status statuses.NoMemory words l l' k k' o o' h = tt
  boot_status (statuses.TooLong line) words l l' k k' o o' h = absurd h
  boot_status statuses.LinkFault words l l' k k' o o' h = tt
  boot_status statuses.StoreFault words l l' k k' o o' h = tt
  boot_status (statuses.WrongWord line) words l l' k k' o o' h = absurd h
  boot_status statuses.BadAnswer words l l' k k' o o' h = tt
  boot_status (statuses.BadReply place) words l l' k k' o o' h = tt
  boot_status statuses.BadMark words l l' k k' o o' h = tt
  boot_status (statuses.Ahead applied high) words l l' k k' o o' h = tt
  boot_status (statuses.Hole base floor) words l l' k k' o o' h = tt

-- ---- what the link took back

pub stopped_back : {P : Type 0} (given left written : P → Option (List ℕ)) (Stops : BootState → BootState → Outside P → Outside P → Type 0) (words : BootstrapWords) (o o' : Outside P) (old new : BootState)
    → Stopped given left written Stops words.relay words.rounds old new o o' → LeavesLink words o.link o'.link
stopped_back given left written Stops words o o' old new s = either s.back where
  either : ((o'.link ≡ s.outside.link) ⊎ ((peer : _) × (o'.link ≡ option_map (with_exchange words.relay peer) s.outside.link))) → LeavesLink words o.link o'.link
  either (inl same) = (map (λ r. r.peer) s.rounds, inl (same ∙ s.made.link))
  either (inr last) = (map (λ r. r.peer) s.rounds ++ last.0 ∷ [], inl (last.1 ∙ ap (option_map (with_exchange words.relay last.0)) s.made.link ∙ dialed_last words.relay last.0 (map (λ r. r.peer) s.rounds) o.link))

pub made_back : {P : Type 0} (given left written : P → Option (List ℕ)) (words : BootstrapWords) (rounds : List (Round P)) (o om : Outside P) (last : Option (Told P)) (old start : BootState)
    → Made given left written words.relay false false old start o om rounds → LeavesDoor words.port om.link last → LeavesLink words o.link last
made_back given left written words rounds o om last old start made door = (map (λ r. r.peer) rounds, subst (λ x. LeavesDoor words.port x last) made.link door)
