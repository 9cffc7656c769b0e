-- How the serving of a bootstrap ends.
use Rattle.std.specs.Prelude.{Result, Ok, Err}
use Rattle.std.proofs.Common.{◌≡◌, ℕ, ◌≤◌, true, List, [], ◌++◌, map, Option, Some, None, IfSome, option_map, inl, inr, sym, ap, subst, ◌∙◌, arith}
use Rattle.bus_types.specs.Causes.{Rose}
use Rattle.bus_link.specs.Links.{Told, IsUnused, TakesBack, with_port, with_shut}
use Rattle.bus_stores.specs.Keeper.{KeeperState}
use Rattle.bus_stores.specs.Log.{LogState}
use Rattle.bus_node.specs.declared.door.DoorEnd.{DoorEnd}
use Rattle.bus_node.specs.Doors.{Visits}
use Rattle.bootstrap_core.specs.Boot.{BootState}
use Rattle.bootstrap_core.specs.Moving.{SameParts}
use Rattle.bootstrap_node.specs.declared.stop.Stop.{Stop}
use Rattle.bootstrap_node.specs.declared.stop.Stop.TheVariants.{BadAnswer, BadReply, LinkFault, StoreFault, WriteFault, NoMemory}
use Rattle.bootstrap_node.specs.Serving.{BootServes}
use Rattle.bootstrap_node.specs.Ends.{after_door}
use Rattle.bootstrap_node.specs.Listening.{DoorStops, IsDoorServed, ServeEnds, ServesAll, ListensNot}
use Rattle.bootstrap_node.proofs.Still.{same_itself}

are_finished : {P : Type 0} (old new : Option (List P)) (peers : List P) → IfSome old (λ before. before ≡ []) → new ≡ option_map (λ before. before ++ peers) old → IfSome new (λ after. after ≡ peers)
are_finished None new peers none e = subst (λ (o : Option _). IfSome o (λ after. after ≡ peers)) (sym e) tt
are_finished (Some before) new peers none e = subst (λ (o : Option _). IfSome o (λ after. after ≡ peers)) (sym e) (ap (λ l. l ++ peers) none)

shut_again : {P : Type 0} (port : ℕ) (finished : Option (List P)) (old mid new : Option (Told P)) → mid ≡ option_map (with_port port) old → new ≡ option_map (with_shut finished) mid → new ≡ option_map (after_door port finished) old
shut_again port finished None mid new e f = f ∙ ap (option_map (with_shut finished)) e
shut_again port finished (Some t) mid new e f = f ∙ ap (option_map (with_shut finished)) e

module _ {P G K : Type 0} (given left written : P → Option (List ℕ)) (log : G → LogState) (keeper : K → KeeperState) where
  -- a door was opened, its connections were served, and it was shut
  pub serves_all : (result : Result Unit Stop) (end : DoorEnd) (port connections : ℕ) (start new : BootState) (old_link mid_link new_link : Option (Told P)) (old_door new_door : Option (List P))
      (faults mid_faults new_faults door_faults now_faults : ℕ)
      → DoorStops result end → IsDoorServed (Visits (BootServes log keeper start) given left written) connections end old_door new_door → IsUnused old_door door_faults
      → mid_link ≡ option_map (with_port port) old_link → new_link ≡ option_map (with_shut new_door) mid_link
      → faults ≤ mid_faults → TakesBack mid_faults new_faults now_faults → (end.failed ≡ true → Rose door_faults now_faults) → SameParts start new
      → ServesAll given left written log keeper result port connections start new old_link new_link faults new_faults
  serves_all result end port connections start new old_link mid_link new_link old_door new_door faults mid_faults new_faults door_faults now_faults stops served unused listened shut later back cause same =
      let link = shut_again port new_door old_link mid_link new_link listened shut in
      record {
        ends = serve_ends result stops link;
        back = inr (new_door, link);
        later = omega (arith, later, back.later);
        same = same;
      } where
        serve_ends : (r : Result Unit Stop) → DoorStops r end → new_link ≡ option_map (after_door port new_door) old_link → ServeEnds given left written log keeper r port connections start new old_link new_link faults new_faults
        serve_ends (Ok done) h link = record {
          visits = served.visits;
          count = served.count h.0;
          served = served.served;
          roomy = served.roomy h.1;
          finished = new_door;
          are = are_finished old_door new_door (map (λ v. v.peer) served.visits) unused.finished_none served.finished;
          link = link;
          same = same;
        }
        serve_ends (Err BadAnswer) h link = absurd h
        serve_ends (Err (BadReply place)) h link = absurd h
        serve_ends (Err LinkFault) h link =
            let rose = cause h in
            let back_rose = back.exact.1 (omega (arith, rose)) in
            omega (arith, later, back_rose)
        serve_ends (Err StoreFault) h link = absurd h
        serve_ends (Err WriteFault) h link = absurd h
        serve_ends (Err NoMemory) h link = tt

  -- no door was opened
  pub serves_none : (stop : Stop) (port connections : ℕ) (start : BootState) (old_link new_link : Option (Told P)) (faults new_faults : ℕ) → ListensNot stop faults new_faults → new_link ≡ old_link → faults ≤ new_faults
      → ServesAll given left written log keeper (Err stop) port connections start start old_link new_link faults new_faults
  serves_none stop port connections start old_link new_link faults new_faults h same later = record { ends = h; back = inl same; later = later; same = same_itself start }
