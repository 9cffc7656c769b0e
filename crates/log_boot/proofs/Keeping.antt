-- What the keeper of a bootstrap tells after a call: its content before the call's commit or after it.
use Rattle.std.proofs.Common.{◌≡◌, ◌∙◌, inl, inr, ℕ, ◌<◌, false, nat_lt, if◌then◌else◌, List, [], ◌∷◌, take, flat_map, Option, Some, None, option_map, IfSome, Result, Ok, Err, sym, ap, subst, refl, arith}
use Rattle.std.proofs.lemmas.Bool.{cond-true, lt-ltb}
use Rattle.std.proofs.lemmas.Option.{same_Some}
use Rattle.bus_types.specs.Window.{Span}
use Rattle.bus_types.specs.Timeline.{windows_between}
use Rattle.bus_stores.specs.declared.boot_fault.BootFault.{BootFault}
use Rattle.bus_stores.specs.declared.boot_fault.BootFault.TheVariants.{LogFailed, StoreFailed, Halted, NoMemory}
use Rattle.bus_stores.specs.declared.keeper.StoreFault.TheVariants as stores
use Rattle.bus_stores.specs.Keeper.{KeeperState, Content, Move, TellsOnly, SameStore, Stopped, move_of, moved}
use Rattle.bus_stores.specs.Log.{LogState}
use Rattle.bus_stores.specs.Taking.{LeavesBy}
use Rattle.bus_stores.proofs.Held.{tells_itself}
use Rattle.snapshot_applier.specs.declared.boot.BootMark.{BootMark}
use Rattle.snapshot_applier.specs.BootMark.{boot_mark_text}
use Rattle.snapshot_applier.specs.Apply.{AreNext, applied_after, commit_of}
use Rattle.bootstrap_core.specs.Boot.{BootParts, BootState, told}
use Rattle.bootstrap_core.specs.Moving.{AppliesBoot, FindsBase, SetsLater, Trims, base_move, based}
use Rattle.bootstrap_core.proofs.StandingMoves.{if_told}
use Rattle.bootstrap_core.proofs.StretchEnds.{between_within}
use Rattle.log_disk.specs.Disk.{DiskState}
use Rattle.log_store.specs.Store.{StoreParts, log_of}
use Rattle.log_boot.specs.Stops.{Runs, apply_commit, trim_commit, committed, IsEither, IsEitherBy, numbers_of}
use Rattle.log_boot.proofs.Surviving.{windows_told, found_base}

-- ---- what is told

told_is : (is tells : Option Content) (c : Content) (P : Content → Type 0) → is ≡ Some c → TellsOnly is tells → P c → IfSome tells P
told_is is None c P e t h = tt
told_is is (Some d) c P e t h = subst P (same_Some c d (sym e ∙ t)) h

-- the commit of windows, where there is one
abbrev run_move : BootMark → List Span → Move
run_move m run = move_of false (flat_map (λ v. v.changes) run) (boot_mark_text (applied_after m run))

module _ (old new : KeeperState) (c : Content) (told_c : old.content ≡ Some c) where
  kept : (move : Option Move) → SameStore old new → IfSome new.content (IsEither move c)
  kept move s = told_is old.content new.content c (IsEither move c) told_c s.content (inl refl)

  after : (m : Move) → TellsOnly (option_map (moved m) old.content) new.content → IfSome new.content (IsEither (Some m) c)
  after m t = told_is (option_map (moved m) old.content) new.content (moved m c) (IsEither (Some m) c) (ap (option_map (moved m)) told_c) t (inr refl)

  before : (m : Move) → TellsOnly (option_map (λ d. d) old.content) new.content → IfSome new.content (IsEither (Some m) c)
  before m t = told_is (option_map (λ d. d) old.content) new.content c (IsEither (Some m) c) (ap (option_map (λ d. d)) told_c) t (inl refl)

  stopped : (m : Move) → Stopped m old new → IfSome new.content (IsEither (Some m) c)
  stopped m (inl met) = before m met.content
  stopped m (inr met) = after m met.content

  made : (m : BootMark) (run : List Span) → LeavesBy {X = Unit {0}} (commit_of m run) old new (Ok tt) → IfSome new.content (IsEither (commit_of m run) c)
  made m [] h = kept None h
  made m (w ∷ rest) h = after (run_move m (w ∷ rest)) h.content

  unmade : (m : BootMark) (run : List Span) → LeavesBy {X = Unit {0}} (commit_of m run) old new (Err stores.Failed) → IfSome new.content (IsEither (commit_of m run) c)
  unmade m [] h = absurd h
  unmade m (w ∷ rest) h = stopped (run_move m (w ∷ rest)) h

-- ---- after a call

module _ {D K : Type 0} (disk : D → DiskState) (store : K → KeeperState) (ws : List Span) (c : Content) (old : BootParts (StoreParts D) K) (r : Runs disk store ws c old) where
  abbrev log : LogState
  log = log_of disk old.log

  abbrev state : BootState
  state = told (log_of disk) store old

  abbrev keeper : KeeperState
  keeper = store old.keeper

  pub next_are : (count : ℕ) (run : List Span) → AreNext old.mark.applied count log run → run ≡ take count (windows_between old.mark.applied log.high ws)
  next_are count run are =
      if_told (λ (held : List Span). run ≡ take count (windows_between old.mark.applied log.high held)) log.windows (windows_between log.floor log.high ws) (windows_told disk store ws c old r) are.told
      ∙ ap (take count) (between_within log.floor old.mark.applied log.high log.high ws (omega (arith, r.stands.between.low, r.stands.between.order)) (omega arith))

  module _ (count : ℕ) (next : BootState) where
    abbrev Either : Type 0
    Either = IfSome next.keeper.content (IsEither (apply_commit ws (numbers_of disk old) count) c)

    by_run : (run : List Span) → AreNext old.mark.applied count log run → IfSome next.keeper.content (IsEither (commit_of old.mark run) c) → Either
    by_run run are h = subst (λ (vs : List Span). IfSome next.keeper.content (IsEither (commit_of old.mark vs) c)) (next_are count run are) h

    pub apply_keeps : (result : Result ℕ BootFault) → AppliesBoot result count state next → Either
    apply_keeps (Ok applied) a = by_run a.keeper.windows a.keeper.are (made keeper next.keeper c r.content old.mark a.keeper.windows a.keeper.made)
    apply_keeps (Err LogFailed) a = kept keeper next.keeper c r.content (apply_commit ws (numbers_of disk old) count) a.2.keeper
    apply_keeps (Err StoreFailed) a = by_run a.1.keeper.windows a.1.keeper.are (unmade keeper next.keeper c r.content old.mark a.1.keeper.windows a.1.keeper.unmade)
    apply_keeps (Err Halted) a = subst (λ (b : BootState). IfSome b.keeper.content (IsEither (apply_commit ws (numbers_of disk old) count) c)) (sym a) (kept keeper keeper c r.content (apply_commit ws (numbers_of disk old) count) (record { content = tells_itself keeper.content; stops = refl }))
    apply_keeps (Err NoMemory) a = kept keeper next.keeper c r.content (apply_commit ws (numbers_of disk old) count) a.1.keeper

  -- ---- a trim

  module _ (scn : ℕ) (next : BootState) where
    abbrev commit : Option Move
    commit = trim_commit ws (numbers_of disk old) scn

    abbrev EitherBy : BootMark → Type 0
    EitherBy mark = IfSome next.keeper.content (IsEitherBy commit old.mark mark c)

    trim_kept : next.mark ≡ old.mark → SameStore keeper next.keeper → EitherBy next.mark
    trim_kept same s = told_is keeper.content next.keeper.content c (IsEitherBy commit old.mark next.mark c) r.content s.content (inr (refl, same))

    -- the commit of the base that was found
    is_commit : (base : ℕ) → FindsBase scn base state → old.mark.base < base → commit ≡ Some (base_move (based old.mark base))
    is_commit base f later =
        let found = found_base disk store ws c old r scn base f in
        subst (λ n. (if nat_lt old.mark.base n then Some (base_move (based old.mark n)) else None) ≡ Some (base_move (based old.mark base))) found
        (cond-true (nat_lt old.mark.base base) (Some (base_move (based old.mark base))) None (lt-ltb old.mark.base base later))

    trim_after : (base : ℕ) → FindsBase scn base state → old.mark.base < base → TellsOnly (option_map (moved (base_move (based old.mark base))) keeper.content) next.keeper.content → EitherBy next.mark
    trim_after base f later t =
        told_is (option_map (moved (base_move (based old.mark base))) keeper.content) next.keeper.content (moved (base_move (based old.mark base)) c) (IsEitherBy commit old.mark next.mark c)
        (ap (option_map (moved (base_move (based old.mark base)))) r.content) t (inl (ap (λ (move : Option Move). committed move c) (sym (is_commit base f later))))

    trim_set : (base : ℕ) → FindsBase scn base state → SetsLater base state next → EitherBy next.mark
    trim_set base f s = trim_after base f s.later s.keeper.content

    trim_stopped : (base : ℕ) → FindsBase scn base state → old.mark.base < base → next.mark ≡ old.mark → Stopped (base_move (based old.mark base)) keeper next.keeper → EitherBy next.mark
    trim_stopped base f later same (inl met) =
        told_is (option_map (λ d. d) keeper.content) next.keeper.content c (IsEitherBy commit old.mark next.mark c) (ap (option_map (λ d. d)) r.content) met.content (inr (refl, same))
    trim_stopped base f later same (inr met) = trim_after base f later met.content

    pub trim_keeps : (result : Result ℕ BootFault) → Trims result scn state next → EitherBy next.mark
    trim_keeps (Ok found) t = elim t.2 [
      | inl keeps ↦ trim_kept keeps.same.mark keeps.same.keeper
      | inr drops ↦ trim_set found t.1 drops.set
    ]
    trim_keeps (Err LogFailed) t = elim t.2 [
      | inl same ↦ trim_kept same.mark same.keeper
      | inr set ↦ trim_set set.0 set.1 set.2
    ]
    trim_keeps (Err StoreFailed) t = trim_stopped t.2.0 t.2.1 t.2.2.later t.2.2.mark t.2.2.keeper
    trim_keeps (Err Halted) t = subst (λ (b : BootState). IfSome b.keeper.content (IsEitherBy commit old.mark b.mark c)) (sym t)
        (told_is keeper.content keeper.content c (IsEitherBy commit old.mark old.mark c) r.content (tells_itself keeper.content) (inr (refl, refl)))
    trim_keeps (Err NoMemory) t = trim_kept t.1.mark t.1.keeper
