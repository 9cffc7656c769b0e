-- What a log took of a reply, and how the table moved then.
use Rattle.std.specs.Prelude.{Result, Ok, Err}
use Rattle.std.proofs.Common.{◌≡◌, ℕ, false, List, [], ◌∷◌, ◌++◌, Option, Some, None, IfSome, is_some, option_map, flat_map, inl, inr, refl, sym, ap, subst, ◌∙◌, ◌≤◌, arith}
use Rattle.bus_types.specs.Causes.{Rose}
use Rattle.bus_types.specs.Window.{Span}
use Rattle.bus_types.specs.Timeline.{IsTimeline}
use Rattle.bus_stores.specs.Keeper.{KeeperState, Content, Move, TellsOnly, content_after, move_of}
use Rattle.bus_stores.specs.Log.{LogState, IsLog}
use Rattle.bus_stores.specs.Taking.{LeavesBy}
use Rattle.bus_stores.proofs.Held.{told_on}
use Rattle.snapshot_applier.specs.declared.boot.BootMark.{BootMark}
use Rattle.snapshot_applier.specs.BootMark.{IsBootMark, IsBootStored, boot_mark_text}
use Rattle.snapshot_applier.specs.Apply.{applied_after, commit_of}
use Rattle.bootstrap_core.specs.declared.fault.TakeLog.{TakeLog}
use Rattle.bootstrap_core.specs.declared.fault.TakeLog.TheVariants.{BadReply, Gap, Full, LogFailed, Halted, NoMemory}
use Rattle.bootstrap_core.specs.Boot.{BootState, Stands}
use Rattle.bootstrap_core.specs.Opening.{Stores}
use Rattle.bootstrap_core.specs.Logging.{TakesLog, Logged, IsRelayReply}
use Rattle.bootstrap_core.specs.Moving.{AppliesNext, TellsWindows}
use Rattle.bootstrap_node.specs.declared.stop.Stop.{Stop}
use Rattle.bootstrap_node.specs.declared.stop.Stop.TheVariants as stops
use Rattle.bootstrap_node.specs.Rounds.{GoesOn, IsTaken, most_logged}
use Rattle.bootstrap_node.specs.Asking.{Moves, MovesNot, TakesNot}
use Rattle.bootstrap_node.specs.Printing.{PrintEnds}
use Rattle.bootstrap_node.specs.Statuses.{stop_of}

-- ---- what a log took

pub goes_on : (took : Result ℕ TakeLog) → stop_of took ≡ None → GoesOn took
goes_on (Ok scn) e = tt
goes_on (Err (BadReply place)) e = absurd (cc)
goes_on (Err (Gap floor)) e = tt
goes_on (Err (Full need)) e = tt
goes_on (Err LogFailed) e = absurd (cc)
goes_on (Err Halted) e = absurd (cc)
goes_on (Err NoMemory) e = absurd (cc)

-- what a reply leaves of a bootstrap where rounds go on
pub record Kept (old new : BootState) : Type 0 where
  pub halted : new.halted ≡ old.halted
  pub keeper : new.keeper ≡ old.keeper
  pub mark : new.mark ≡ old.mark
  pub tells : is_some new.log.windows ≡ is_some old.log.windows

still_told : (ws : List Span) (o : Option (List Span)) → is_some (option_map (λ held. held ++ ws) o) ≡ is_some o
still_told ws None = refl
still_told ws (Some held) = refl

kept_logged : (ws : List Span) (old new : BootState) → Logged ws old new → Kept old new
kept_logged ws old new l = record { halted = l.halted; keeper = l.keeper; mark = l.mark; tells = ap is_some l.windows ∙ still_told ws old.log.windows }

kept_same : (old new : BootState) → new ≡ old → Kept old new
kept_same old new e = subst (λ (b : BootState). Kept old b) (sym e) (record { halted = refl; keeper = refl; mark = refl; tells = refl })

pub kept_taken : (took : Result ℕ TakeLog) (n : ℕ) (body : List ℕ) (old new : BootState) → GoesOn took → TakesLog took n body old new → Kept old new
kept_taken (Ok scn) n body old new on t = kept_logged _ old new t.logged
kept_taken (Err (BadReply place)) n body old new on t = absurd on
kept_taken (Err (Gap floor)) n body old new on t = kept_same old new t.0
kept_taken (Err (Full need)) n body old new on t = kept_logged _ old new t.logged
kept_taken (Err LogFailed) n body old new on t = absurd on
kept_taken (Err Halted) n body old new on t = absurd on
kept_taken (Err NoMemory) n body old new on t = absurd on

-- why it ends the rounds
pub stops_taken : (took : Result ℕ TakeLog) (stop : Stop) (body : List ℕ) (old new : BootState) (text : Option (List ℕ)) (faults : ℕ) → stop_of took ≡ Some stop → (took ≡ Err Halted → ⊥) → TakesLog took most_logged body old new
    → TakesNot stop body old new text text faults faults
stops_taken (Ok scn) stop body old new text faults e runs t = absurd (cc)
stops_taken (Err (BadReply place)) stop body old new text faults e runs t =
    let is : stops.BadReply place ≡ stop = cc in
    subst (λ s. TakesNot s body old new text text faults faults) is (t, refl)
stops_taken (Err (Gap floor)) stop body old new text faults e runs t = absurd (cc)
stops_taken (Err (Full need)) stop body old new text faults e runs t = absurd (cc)
stops_taken (Err LogFailed) stop body old new text faults e runs t =
    let is : stops.StoreFault ≡ stop = cc in
    subst (λ s. TakesNot s body old new text text faults faults) is (inl t.1.rose)
stops_taken (Err Halted) stop body old new text faults e runs t = absurd (runs refl)
stops_taken (Err NoMemory) stop body old new text faults e runs t =
    let is : stops.NoMemory ≡ stop = cc in
    subst (λ s. TakesNot s body old new text text faults faults) is tt

-- ---- how the table moved

committed : (move : Move) (next : BootMark) (old new : Option Content) → IsBootMark next → move.mark ≡ boot_mark_text next → TellsOnly (option_map (content_after None move) old) new
    → IfSome new (λ c. IsBootStored c.mark next)
committed move next old None lawful e t = tt
committed move next None (Some c) lawful e t = absurd (cc)
committed move next (Some b) (Some c) lawful e t = subst (λ (o : Option Content). IfSome o (λ x. IsBootStored x.mark next)) t (lawful, e)

stored_by : (ws : List Span) (m next : BootMark) (old new : KeeperState) → next ≡ applied_after m ws → IsBootMark next → LeavesBy {X = Unit {0}} (commit_of m ws) old new (Ok tt) → Stores old m → Stores new next
stored_by [] m next old new e lawful same s = told_on (λ c. IsBootStored c.mark next) old.content new.content same.content (subst (λ (n : BootMark). Stores old n) (sym e) s)
stored_by (w ∷ ws) m next old new e lawful meets s = committed (move_of false (flat_map (λ v. v.changes) (w ∷ ws)) (boot_mark_text (applied_after m (w ∷ ws)))) next old.content new.content lawful (ap boot_mark_text (sym e)) meets.content

pub stored_moved : (n applied : ℕ) (old new : BootState) → AppliesNext applied n old new → IsBootMark new.mark → Stores old.keeper old.mark → Stores new.keeper new.mark
stored_moved n applied old new a lawful s = stored_by a.keeper.windows old.mark new.mark old.keeper new.keeper a.keeper.mark lawful a.keeper.made s

pub moves : (applied : ℕ) (old new : BootState) → AppliesNext applied most_logged old new → IsBootMark new.mark → IsLog new.log
    → ((ws : List Span) → IsTimeline ws → Stands ws old → TellsWindows old.log → Stands ws new) → Moves old new
moves applied old new a lawful is_log stands = record {
  applies = record { keeper = a.keeper; log = a.log; runs = a.runs; number = refl };
  log = is_log;
  stored = stored_moved most_logged applied old new a lawful;
  stands = stands;
}

-- ---- both

pub taken : (took : Result ℕ TakeLog) (body : List ℕ) (old logged new : BootState) → TakesLog took most_logged body old logged → stop_of took ≡ None → Moves logged new
    → ((ws : List Span) → IsTimeline ws → Stands ws old → IsRelayReply ws old.log.high body → Stands ws logged)
    → IsTaken old body took logged new
taken took body old logged new t none m stands =
    let on = goes_on took none in
    let kept = kept_taken took most_logged body old logged on t in
    record {
      takes = t;
      goes_on = on;
      applies = m.applies;
      log = m.log;
      stored = λ s. m.stored (rw (kept.keeper, kept.mark) s);
      tells = λ tells. ap (λ (l : LogState). is_some l.windows) m.applies.log ∙ kept.tells ∙ tells;
      stands = λ ws line stood tells reply. m.stands ws line (stands ws line stood reply) (kept.tells ∙ tells);
    }

-- what was to be printed wasn't
pub prints_not : (stop : Stop) (body : List ℕ) (old new : BootState) (text text' : Option (List ℕ)) (faults faults' : ℕ) (line : List ℕ) → PrintEnds (Err stop) text text' faults faults' line → TakesNot stop body old new text text' faults faults'
prints_not stops.BadAnswer body old new text text' faults faults' line h = absurd h
prints_not (stops.BadReply place) body old new text text' faults faults' line h = absurd h
prints_not stops.LinkFault body old new text text' faults faults' line h = absurd h
prints_not stops.StoreFault body old new text text' faults faults' line h = absurd h
prints_not stops.WriteFault body old new text text' faults faults' line h = h
prints_not stops.NoMemory body old new text text' faults faults' line h = tt

-- the table didn't move
pub moves_not : (stop : Stop) (body : List ℕ) (old logged new : BootState) (text text' : Option (List ℕ)) (faults faults' : ℕ) → old.log.faults ≤ logged.log.faults → logged.keeper ≡ old.keeper → MovesNot stop logged new
    → TakesNot stop body old new text text' faults faults'
moves_not stops.BadAnswer body old logged new text text' faults faults' later same h = absurd h
moves_not (stops.BadReply place) body old logged new text text' faults faults' later same h = absurd h
moves_not stops.LinkFault body old logged new text text' faults faults' later same h = absurd h
moves_not stops.StoreFault body old logged new text text' faults faults' later same (inl rose) = inl (omega (arith, later, rose))
moves_not stops.StoreFault body old logged new text text' faults faults' later same (inr rose) = inr (subst (λ (k : KeeperState). Rose k.faults new.keeper.faults) same rose)
moves_not stops.WriteFault body old logged new text text' faults faults' later same h = absurd h
moves_not stops.NoMemory body old logged new text text' faults faults' later same h = tt
