-- A bootstrap in memory that is opened, applies and trims: what it is then, and that nothing but want of memory comes.
use Rattle.std.proofs.Common.{◌≡◌, ℕ, ◌-◌, ◌≤◌, min, inl, inr, false, true≢false, List, [], length, take, Option, Some, None, Ok, refl, sym, ap, subst, ◌∙◌, arith}
use Rattle.bus_types.specs.Window.{Span}
use Rattle.bus_types.specs.Timeline.{IsTimeline, end_from, windows_between}
use Rattle.bus_types.specs.Relay.{Relay}
use Rattle.std.proofs.lemmas.List.{take_all}
use Rattle.bus_types.proofs.Stretches.{between-between, between_run}
use Rattle.bus_types.proofs.Floors.{between-after}
use Rattle.bus_stores.specs.Keeper.{Content, Move, SameStore, Meets, stops_after}
use Rattle.bus_stores.specs.Log.{LogState}
use Rattle.bus_stores.specs.Taking.{LeavesBy}
use Rattle.bus_stores.specs.Memory.{MemoryStore, new_store, no_fails, told_by}
use Rattle.bus_stores.specs.MemoryLog.{MemoryWindows, new_windows, log_of}
use Rattle.bus_wire.specs.True.{Boot}
use Rattle.bootstrap_core.specs.declared.fault.BootOpen.{BootOpen}
use Rattle.bootstrap_core.specs.declared.fault.BootOpen.TheVariants as opens
use Rattle.std.specs.Prelude.{IfSome}
use Rattle.bootstrap_core.specs.Boot.{BootState, told, HoldsTable, Stands, StandsForBoot}
use Rattle.bootstrap_core.specs.Opening.{IsOpened, OpensNot}
use Rattle.bootstrap_core.proofs.Opened.{stands_again}
use Rattle.bootstrap_core.specs.Moving.{AppliesNext, Trims}
use Rattle.history_core.specs.Bus.{boot_numbers, IsBooted}
use Rattle.history_core.specs.Steps.{end_after}
use Rattle.history_core.specs.Booting.{MemoryParts, AreParts, BootedAt, logged_to, applied_to, trimmed_to, CanLog}
use Rattle.history_core.proofs.Booted.{stops_of, log_kept, keeper_kept}
use Rattle.history_core.proofs.LogRuns.{end_on, end_later, end_still}

abbrev told_of : MemoryParts → BootState
told_of b = told log_of told_by b

-- ---- opening

-- a bootstrap of which nothing was logged
abbrev pub new_parts : MemoryParts
new_parts = record { log = new_windows 18446744073709551615 []; keeper = new_store []; mark = record { base = 0; applied = 0 }; halted = false }

pub new_booted : IsBooted [] new_parts
new_booted = record {
  stands = record {
    lawful = record { applied = omega arith; high = omega arith; base_place = refl; applied_place = refl; high_place = refl };
    between = record { low = omega arith; order = omega arith; high = omega arith };
    stretch = record { floor = refl; windows = refl };
    table = record { rows = refl; stored = refl };
  };
  runs = refl;
  log_sound = refl;
  roomy = refl;
  begins = refl;
  keeper_sound = refl;
  unarmed = refl;
}

-- the faults of opening that come to a bus
abbrev pub MayOpen : BootOpen → Type 0
MayOpen opens.BadMark = ⊥
MayOpen (opens.Ahead applied high) = ⊥
MayOpen (opens.Hole base floor) = ⊥
MayOpen opens.LogFailed = ⊥
MayOpen opens.StoreFailed = ⊥
MayOpen opens.NoMemory = Unit {0}

-- log and keeper of a bootstrap
module _ (ws : List Span) (b : MemoryParts) (log : MemoryWindows) (keeper : MemoryStore) (are : AreParts ws b log keeper) where
  pub stand : StandsForBoot ws (log_of log) (told_by keeper) b.mark
  stand =
      subst (λ (g : MemoryWindows). StandsForBoot ws (log_of g) (told_by keeper) b.mark) (sym are.of_log)
      (subst (λ (s : MemoryStore). StandsForBoot ws (log_of b.log) (told_by s) b.mark) (sym are.of_keeper) are.booted.stands)

  keeper_sound : keeper.fails ≡ []
  keeper_sound = ap (λ (s : MemoryStore). s.fails) are.of_keeper ∙ are.booted.keeper_sound

  -- a bootstrap was opened over them
  pub opened_again : (new : MemoryParts) → IsOpened (log_of log) (told_by keeper) (told_of new) → new.log ≡ log → (new.mark ≡ b.mark) × Stands ws (told_of new) → BootedAt ws (boot_numbers b) new
  opened_again new opened same again =
      let kept = keeper_kept new.keeper (stops_of keeper) opened.keeper_same.stops (ap (λ (s : MemoryStore). s.armed) are.of_keeper ∙ are.booted.unarmed) (ap no_fails keeper_sound) in
      let log_is = same ∙ are.of_log in
      let marks = again.0 in
      record {
        booted = record {
          stands = again.1;
          runs = opened.runs;
          log_sound = ap (λ (g : MemoryWindows). g.fails) log_is ∙ are.booted.log_sound;
          roomy = ap (λ (g : MemoryWindows). g.limit) log_is ∙ are.booted.roomy;
          begins = ap (λ (g : MemoryWindows). g.floor) log_is ∙ are.booted.begins ∙ sym (λ i. (marks i).base);
          keeper_sound = kept.0;
          unarmed = kept.1;
        };
        is = λ i. record { base = (marks i).base; applied = (marks i).applied; high = (log_of (log_is i)).high };
      }

  -- nothing but want of memory keeps one from being opened
  pub open_fault : (after : MemoryStore) → SameStore (told_by keeper) (told_by after) → (fault : BootOpen) → OpensNot fault (log_of log) (told_by keeper) (told_by after) → MayOpen fault
  open_fault after same opens.BadMark not = not b.mark (subst (λ (o : Option Content). IfSome o (HoldsTable ws b.mark)) same.content stand.table).stored
  open_fault after same (opens.Ahead applied high) not =
      let mark = (stands_again ws (log_of log) (told_by keeper) (told_by after) not.2.0 b.mark not.2.1 same stand refl).0 in
      let number : not.2.0.applied ≡ b.mark.applied = λ i. (mark i).applied in
      let between = stand.between.high in
      absurd (omega (arith, not.0, not.1, not.2.2, number, between))
  open_fault after same (opens.Hole base floor) not =
      let mark = (stands_again ws (log_of log) (told_by keeper) (told_by after) not.2.0 b.mark not.2.1 same stand refl).0 in
      let number : not.2.0.base ≡ b.mark.base = λ i. (mark i).base in
      let between = stand.between.low in
      absurd (omega (arith, not.0, not.1, not.2.2, number, between))
  open_fault after same opens.LogFailed not = not
  open_fault after same opens.StoreFailed not = true≢false (sym (ap no_fails keeper_sound) ∙ not.1)
  open_fault after same opens.NoMemory not = tt

-- ---- step by step

-- a bootstrap to which more is logged
log_can : (ws : List Span) (r : Relay) (n : ℕ) (old new : MemoryParts) → CanLog ws r old → BootedAt ws (logged_to ws r (boot_numbers old) n) new → CanLog ws r new
log_can ws r n old new can at = record {
  few = can.few;
  stands = can.stands;
  booted = at.booted;
  reach =
      let high : (boot_numbers new).high ≡ end_after ws (boot_numbers old).high r.tail n = ap (λ (b : Boot). b.high) at.is in
      let later = end_later ws (boot_numbers old).high r.tail n can.stands.timeline in
      let reach = can.reach in
      omega arith;
}

-- what is still to be logged completes the whole
abbrev pub LogsRest : Relay → ℕ → ℕ → MemoryParts → MemoryParts → Type 0
LogsRest r count left old new = (ws : List Span) → CanLog ws r old → CanLog ws r new × (logged_to ws r (boot_numbers new) left ≡ logged_to ws r (boot_numbers old) count)

pub logs_more : (r : Relay) (count left n : ℕ) (old mid new : MemoryParts) → n ≤ left → LogsRest r count left old mid → ((ws : List Span) → CanLog ws r mid → BootedAt ws (logged_to ws r (boot_numbers mid) n) new) → LogsRest r count (left - n) old new
logs_more r count left n old mid new few rest logs ws can =
    let before = rest ws can in
    let at = logs ws before.0 in
    let m : Boot = boot_numbers mid in
    let more : logged_to ws r (logged_to ws r m n) (left - n) ≡ logged_to ws r m left = ap (λ (h : ℕ). record m { high = h }) (end_on ws m.high r.tail n left can.stands.timeline few) in
    (log_can ws r n mid new before.0 at, ap (λ (b : Boot). logged_to ws r b (left - n)) at.is ∙ more ∙ before.1)

-- what is still to be applied completes the whole
abbrev pub AppliesRest : ℕ → ℕ → MemoryParts → MemoryParts → Type 0
AppliesRest count left old new = (ws : List Span) → IsTimeline ws → IsBooted ws old → IsBooted ws new × (applied_to ws (boot_numbers new) left ≡ applied_to ws (boot_numbers old) count)

pub applies_more : (count left n : ℕ) (old mid new : MemoryParts) → n ≤ left → AppliesRest count left old mid → ((ws : List Span) → IsTimeline ws → IsBooted ws mid → BootedAt ws (applied_to ws (boot_numbers mid) n) new) → AppliesRest count (left - n) old new
applies_more count left n old mid new few rest applies ws t can =
    let before = rest ws t can in
    let at = applies ws t before.0 in
    let m : Boot = boot_numbers mid in
    let more : applied_to ws (applied_to ws m n) (left - n) ≡ applied_to ws m left = ap (λ (a : ℕ). record m { applied = a }) (end_on ws m.applied m.high n left t few) in
    (at.booted, ap (λ (b : Boot). applied_to ws b (left - n)) at.is ∙ more ∙ before.1)

-- where no window is left, any number of them is logged or applied
pub logs_still : (ws : List Span) (r : Relay) (n : ℕ) (b : MemoryParts) → r.tail ≤ (boot_numbers b).high → IsBooted ws b → BootedAt ws (logged_to ws r (boot_numbers b) n) b
logs_still ws r n b past h = (let m : Boot = boot_numbers b in record { booted = h; is = ap (λ (high : ℕ). record m { high = high }) (sym (end_still ws m.high r.tail n past)) })

pub applies_still : (ws : List Span) (n : ℕ) (b : MemoryParts) → (boot_numbers b).high ≤ (boot_numbers b).applied → IsBooted ws b → BootedAt ws (applied_to ws (boot_numbers b) n) b
applies_still ws n b past h = (let m : Boot = boot_numbers b in record { booted = h; is = ap (λ (applied : ℕ). record m { applied = applied }) (sym (end_still ws m.applied m.high n past)) })

-- ---- moves

-- a log that tells the windows of a timeline between two SCNs, both within its own
module _ (ws held : List Span) (floor high : ℕ) (is : held ≡ windows_between floor high ws) where
  pub held_between : (low upto : ℕ) → floor ≤ low → upto ≤ high → windows_between low upto held ≡ windows_between low upto ws
  held_between low upto l u =
      sym (between-between low upto high held u)
      ∙ ap (λ (vs : List Span). windows_between low upto (windows_between low high vs)) is
      ∙ ap (windows_between low upto) (between-after floor low high ws l)
      ∙ between-between low upto high ws u

-- a keeper whose commit was made, where there was one
met_kept : (m : Move) (old new : MemoryStore) → Meets None m (told_by old) (told_by new) → old.fails ≡ [] → old.armed ≡ None → (new.fails ≡ []) × (new.armed ≡ None)
met_kept m old new meets sound unarmed = keeper_kept new (stops_after None m (stops_of old)) meets.stops unarmed (ap no_fails sound)

same_kept : (old new : MemoryStore) → SameStore (told_by old) (told_by new) → old.fails ≡ [] → old.armed ≡ None → (new.fails ≡ []) × (new.armed ≡ None)
same_kept old new same sound unarmed = keeper_kept new (stops_of old) same.stops unarmed (ap no_fails sound)

made_kept : (move : Option Move) (old new : MemoryStore) → LeavesBy {X = Unit {0}} move (told_by old) (told_by new) (Ok tt) → old.fails ≡ [] → old.armed ≡ None → (new.fails ≡ []) × (new.armed ≡ None)
made_kept None old new made sound unarmed = same_kept old new made sound unarmed
made_kept (Some m) old new made sound unarmed = met_kept m old new made sound unarmed

module _ (ws : List Span) (old new : MemoryParts) (h : IsBooted ws old) where
  abbrev n : Boot
  n = boot_numbers old

  -- the next windows were applied
  pub applied_booted : (scn count : ℕ) → AppliesNext scn count (told_of old) (told_of new) → (new.halted ≡ false → Stands ws (told_of new)) → BootedAt ws (applied_to ws n count) new
  applied_booted scn count a stands =
      let windows = a.keeper.windows in
      let low = h.stands.between.low in
      let order = h.stands.between.order in
      let next : windows ≡ take count (windows_between n.applied n.high ws) =
      a.keeper.are.told ∙ ap (take count) (held_between ws old.log.windows old.log.floor n.high h.stands.stretch.windows n.applied n.high (omega arith) (omega arith)) in
      let mark = a.keeper.mark in
      let applied : new.mark.applied ≡ end_after ws n.applied n.high count = (λ i. (mark i).applied) ∙ ap (end_from n.applied) next in
      let log = log_kept old.log new.log (ap (λ (l : LogState). l.room) a.log) h.log_sound in
      let high : (boot_numbers new).high ≡ n.high = ap (λ (l : LogState). l.high) a.log in
      let keeper = made_kept _ old.keeper new.keeper a.keeper.made h.keeper_sound h.unarmed in
      record {
        booted = record { stands = stands a.runs; runs = a.runs; log_sound = log.0; roomy = log.1 ∙ h.roomy; begins = ap (λ (l : LogState). l.floor) a.log ∙ h.begins ∙ sym (λ i. (mark i).base); keeper_sound = keeper.0; unarmed = keeper.1 };
        is = λ i. record { base = (mark i).base; applied = applied i; high = high i };
      }

  -- where a log begins that dropped each window up to a base that was found so
  begins_at : (upto base : ℕ) → IsTimeline ws → base ≡ end_from n.base (windows_between n.base upto ws) → base ≤ n.high → new.log.floor ≡ end_from old.log.floor (windows_between old.log.floor base old.log.windows) → new.log.floor ≡ base
  begins_at upto base timeline found within begins =
      let run : List Span = windows_between n.base upto ws in
      let from : windows_between old.log.floor base old.log.windows ≡ windows_between old.log.floor base ws = held_between ws old.log.windows old.log.floor n.high h.stands.stretch.windows old.log.floor base (omega arith) within in
      let again : windows_between n.base base ws ≡ run = ap (λ (e : ℕ). windows_between n.base e ws) found ∙ between_run 0 n.base upto (length run) ws run timeline (sym (take_all (length run) run (omega arith))) in
      begins ∙ ap (end_from old.log.floor) from ∙ ap (λ (f : ℕ). end_from f (windows_between f base ws)) h.begins ∙ ap (end_from n.base) again ∙ sym found

  -- its base was moved
  pub trimmed_booted : (base scn : ℕ) → IsTimeline ws → Trims (Ok base) scn (told_of old) (told_of new) → (new.halted ≡ false → Stands ws (told_of new)) → BootedAt ws (trimmed_to ws n scn) new
  trimmed_booted base scn timeline t stands =
      let low = h.stands.between.low in
      let order = h.stands.between.order in
      let top = h.stands.between.high in
      let least = t.1.high in
      let found : base ≡ end_from n.base (windows_between n.base (min scn n.applied) ws) =
      t.1.is ∙ ap (end_from n.base) (held_between ws old.log.windows old.log.floor n.high h.stands.stretch.windows n.base (min scn n.applied) low (omega arith)) in
      elim t.2 [
        | inl keeps ↦
            let log = log_kept old.log new.log (ap (λ (l : LogState). l.room) keeps.same.log) h.log_sound in
            let keeper = same_kept old.keeper new.keeper keeps.same.keeper h.keeper_sound h.unarmed in
            let mark = keeps.same.mark in
            let base_is : new.mark.base ≡ _ = (λ i. (mark i).base) ∙ sym keeps.is ∙ found in
            let high : (boot_numbers new).high ≡ n.high = ap (λ (l : LogState). l.high) keeps.same.log in
            record {
              booted = record { stands = stands t.0; runs = t.0; log_sound = log.0; roomy = log.1 ∙ h.roomy; begins = ap (λ (l : LogState). l.floor) keeps.same.log ∙ h.begins ∙ sym (λ i. (mark i).base); keeper_sound = keeper.0; unarmed = keeper.1 };
              is = λ i. record { base = base_is i; applied = (mark i).applied; high = high i };
            }
        | inr drops ↦
            let log = log_kept old.log new.log drops.room h.log_sound in
            let keeper = met_kept _ old.keeper new.keeper drops.set.keeper h.keeper_sound h.unarmed in
            let mark = drops.set.mark in
            let base_is : new.mark.base ≡ _ = (λ i. (mark i).base) ∙ found in
            let high : (boot_numbers new).high ≡ n.high = drops.dropped.high ∙ ap (λ (l : LogState). l.high) drops.same in
            record {
              booted = record { stands = stands t.0; runs = t.0; log_sound = log.0; roomy = log.1 ∙ h.roomy; begins = begins_at (min scn n.applied) base timeline found (omega arith) (drops.all refl) ∙ sym (λ i. (mark i).base); keeper_sound = keeper.0; unarmed = keeper.1 };
              is = λ i. record { base = base_is i; applied = (mark i).applied; high = high i };
            }
      ]
