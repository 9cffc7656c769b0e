-- Where a keeper stands after a call of the applier.
use Rattle.std.proofs.Common.{◌≡◌, ℕ, ◌≤◌, inl, inr, false, List, [], ◌∷◌, take, flat_map, Option, Some, None, option_map, IfSome, Result, Ok, Err, refl, sym, ap, subst, ◌∙◌, ◌⊎◌, arith}
use Rattle.bus_types.specs.declared.limits.TheConstants.{MAX_SCN}
use Rattle.bus_types.specs.Window.{Span}
use Rattle.bus_types.specs.Timeline.{IsTimeline, end_from, windows_between}
use Rattle.bus_types.specs.Table.{rows_after}
use Rattle.bus_types.proofs.Stretches.{run_rises}
use Rattle.bus_stores.specs.declared.keeper.Stop.TheVariants.{Before, After}
use Rattle.bus_stores.specs.declared.keeper.StoreFault.{StoreFault}
use Rattle.bus_stores.specs.declared.keeper.StoreFault.TheVariants as stores
use Rattle.bus_stores.specs.declared.boot_fault.BootFault.{BootFault}
use Rattle.bus_stores.specs.declared.boot_fault.BootFault.TheVariants.{LogFailed, StoreFailed, Halted, NoMemory}
use Rattle.bus_stores.specs.Keeper.{Content, KeeperState, Move, SameStore, move_of, moved, content_after}
use Rattle.bus_stores.specs.Log.{LogState}
use Rattle.bus_stores.specs.Following.{AreFound}
use Rattle.bus_stores.specs.Taking.{LeavesBy, Takes}
use Rattle.bus_stores.proofs.Held.{told_on, carried_told}
use Rattle.snapshot_applier.specs.declared.boot.BootMark.{BootMark}
use Rattle.snapshot_applier.specs.BootMark.{IsBootMark, boot_mark_text}
use Rattle.snapshot_applier.specs.Apply.{AreNext, applied_after, commit_of, Applied, Unapplied, Applies}
use Rattle.snapshot_applier.specs.Standing.{IsLogOf, StandsAt, next_mark, StandsAfter}
use Rattle.snapshot_applier.proofs.AppliedRows.{table_runs, between_later, run_end_within}

-- what was found is what the timeline has next
next_is : (ws found : List Span) (m : BootMark) (most : ℕ) (log : LogState) → log.floor ≤ m.applied → IsLogOf ws log → AreNext m.applied most log found → found ≡ take most (windows_between m.applied log.high ws)
next_is ws found m most log low is next =
    let told = subst (λ windows. IfSome windows (λ held. found ≡ take most (windows_between m.applied log.high held))) is next.told in
    told ∙ ap (take most) (between_later log.floor m.applied log.high ws low)

-- the mark behind a run is lawful
run_lawful : (ws run : List Span) (m : BootMark) (most high : ℕ) → IsTimeline ws → IsBootMark m → run ≡ take most (windows_between m.applied high ws) → IsBootMark (applied_after m run)
run_lawful ws run m most high t lawful e = record {
  order = omega (arith, lawful.order, run_rises 0 m.applied high most ws run t e);
  within = subst (λ (front : List Span). end_from m.applied front ≤ MAX_SCN) (sym e) (run_end_within m.applied high most ws t lawful.within);
}

-- ---- contents

-- the commit that applies windows
abbrev move_over : BootMark → List Span → Move
move_over m run = move_of false (flat_map (λ w. w.changes) run) (boot_mark_text (applied_after m run))

moved_stands : (ws run : List Span) (m : BootMark) (most high : ℕ) (c : Content) → IsTimeline ws → IsBootMark m → run ≡ take most (windows_between m.applied high ws) → StandsAt ws m c → StandsAt ws (applied_after m run) (moved (move_over m run) c)
moved_stands ws run m most high c t lawful e h = record {
  mark = (run_lawful ws run m most high t lawful e, refl);
  rows = ap (λ rows. rows_after rows (flat_map (λ (w : Span). w.changes) run)) h.rows ∙ table_runs m.applied high most ws run t e;
}

same_content : (P : Content → Type 0) (old new : KeeperState) → SameStore old new → IfSome old.content P → IfSome new.content P
same_content P old new s h = told_on P old.content new.content s.content h

-- ---- keepers

made_stands : (ws run : List Span) (m : BootMark) (most high : ℕ) (old new : KeeperState) → IsTimeline ws → IsBootMark m → run ≡ take most (windows_between m.applied high ws)
    → LeavesBy {X = Unit {0}} (commit_of m run) old new (Ok tt) → IfSome old.content (StandsAt ws m) → IfSome new.content (StandsAt ws (applied_after m run))
made_stands ws [] m most high old new t lawful e l h = same_content (StandsAt ws m) old new l h
made_stands ws (w ∷ run) m most high old new t lawful e l h =
    carried_told (StandsAt ws m) (StandsAt ws (applied_after m (w ∷ run))) (content_after None (move_over m (w ∷ run))) old.content new.content l.content
    (λ c stands. moved_stands ws (w ∷ run) m most high c t lawful e stands) h

unmade_stands : (ws run : List Span) (m : BootMark) (most high : ℕ) (old new : KeeperState) → IsTimeline ws → IsBootMark m → run ≡ take most (windows_between m.applied high ws)
    → LeavesBy {X = Unit {0}} (commit_of m run) old new (Err stores.Failed) → IfSome old.content (StandsAt ws m) → IfSome new.content (λ c. StandsAt ws m c ⊎ StandsAt ws (applied_after m run) c)
unmade_stands ws [] m most high old new t lawful e l h = absurd l
unmade_stands ws (w ∷ run) m most high old new t lawful e l h =
    let either = λ (c : Content). StandsAt ws m c ⊎ StandsAt ws (applied_after m (w ∷ run)) c in
    elim l [
      | inl before ↦ carried_told (StandsAt ws m) either (content_after (Some Before) (move_over m (w ∷ run))) old.content new.content before.content (λ c stands. inl stands) h
      | inr after ↦
          carried_told (StandsAt ws m) either (content_after (Some After) (move_over m (w ∷ run))) old.content new.content after.content
          (λ c stands. inr (moved_stands ws (w ∷ run) m most high c t lawful e stands)) h
    ]

-- a call of the applier, by its answer
pub stands_after : (ws : List Span) (result : Result BootMark BootFault) (m : BootMark) (most : ℕ) (log log' : LogState) (old new : KeeperState)
    → Applies result m most log log' old new → log.floor ≤ m.applied → IsBootMark m → IsTimeline ws → IsLogOf ws log → IfSome old.content (StandsAt ws m)
    → StandsAfter ws m (next_mark ws m most log.high) result new
stands_after ws (Ok next) m most log log' old new a low lawful t is h =
    let e = next_is ws a.windows m most log low is a.are in (
      a.mark ∙ ap (applied_after m) e,
      subst (λ (run : List Span). IfSome new.content (StandsAt ws (applied_after m run))) e (made_stands ws a.windows m most log.high old new t lawful e a.made h),
    )
stands_after ws (Err LogFailed) m most log log' old new a low lawful t is h = same_content (StandsAt ws m) old new a.1 h
stands_after ws (Err StoreFailed) m most log log' old new a low lawful t is h =
    let e = next_is ws a.windows m most log low is a.are in
    subst (λ (run : List Span). IfSome new.content (λ c. StandsAt ws m c ⊎ StandsAt ws (applied_after m run) c)) e (unmade_stands ws a.windows m most log.high old new t lawful e a.unmade h)
stands_after ws (Err Halted) m most log log' old new a low lawful t is h = absurd a
stands_after ws (Err NoMemory) m most log log' old new a low lawful t is h = same_content (StandsAt ws m) old new a h

-- ---- the parts of a call

leaves_ok : {A B : Type 0} (move : Option Move) (old new : KeeperState) (x : A) (y : B) → LeavesBy {X = A} move old new (Ok x) → LeavesBy {X = B} move old new (Ok y)
leaves_ok None old new x y l = l
leaves_ok (Some m) old new x y l = l

leaves_failed : (A B : Type 0) (move : Option Move) (old new : KeeperState) → LeavesBy {X = A} move old new (Err stores.Failed) → LeavesBy {X = B} move old new (Err stores.Failed)
leaves_failed A B None old new l = l
leaves_failed A B (Some m) old new l = l

are_next : (scn most : ℕ) (log : LogState) (found run : List Span) → run ≡ found → AreFound scn log.high most found → IfSome log.windows (λ held. found ≡ take most (windows_between scn log.high held)) → AreNext scn most log run
are_next scn most log found run e are told = subst (AreNext scn most log) (sym e) (record { found = are; told = told })

-- the windows that were found were committed
pub applied_by : (m next : BootMark) (most : ℕ) (log : LogState) (found run : List Span) (old new : KeeperState)
    → run ≡ found → AreFound m.applied log.high most found → IfSome log.windows (λ held. found ≡ take most (windows_between m.applied log.high held))
    → Takes {X = BootMark} (commit_of m run) old new (Ok next) → next ≡ applied_after m run → Applied m next most log old new
applied_by m next most log found run old new e are told takes is = record {
  windows = run;
  are = are_next m.applied most log found run e are told;
  mark = is;
  made = leaves_ok (commit_of m run) old new next tt takes.leaves;
}

-- their commit failed
pub unapplied_by : (m : BootMark) (most : ℕ) (log : LogState) (found run : List Span) (old new : KeeperState) (fault : StoreFault)
    → run ≡ found → AreFound m.applied log.high most found → IfSome log.windows (λ held. found ≡ take most (windows_between m.applied log.high held))
    → Takes {X = BootMark} (commit_of m run) old new (Err fault) → fault ≡ stores.Failed → Unapplied m most log old new
unapplied_by m most log found run old new fault e are told takes is =
    let failed = subst (λ f. Takes {X = BootMark} (commit_of m run) old new (Err f)) is takes in
    record {
      windows = run;
      are = are_next m.applied most log found run e are told;
      unmade = leaves_failed BootMark (Unit {0}) (commit_of m run) old new failed.leaves;
      rose = failed.counts.failed;
      may = failed.may_fail;
    }
