-- A bootstrap in memory that takes the relay's reply: what it is then, and that nothing but want of memory comes.
use Rattle.std.proofs.Common.{◌≡◌, ℕ, zero, suc, ◌+◌, ◌<◌, ◌≤◌, inl, inr, true, false, true≢false, List, [], ◌∷◌, length, take, Some, Result, Err, refl, sym, ap, subst, ◌∙◌, arith}
use Rattle.std.specs.Prelude.{◌↔◌, IsErrOf, slice_get}
use Rattle.std.specs.List.{AllByRecursion}
use Rattle.std.proofs.lemmas.Bool.{ltb-true}
use Rattle.std.proofs.lemmas.List.{take-take}
use Rattle.bus_types.specs.declared.limits.TheConstants.{MAX_SCN}
use Rattle.bus_types.specs.Window.{Span, IsSpan}
use Rattle.bus_types.specs.Timeline.{IsTimelineFrom, end_from, end_of, windows_between, total_size}
use Rattle.bus_types.specs.Relay.{Relay, is_place}
use Rattle.bus_types.proofs.Stretches.{timeline-take}
use Rattle.partition_filter.specs.Selection.Selection.{All}
use Rattle.event_codec.specs.declared.answer.Answer.{Answer}
use Rattle.event_codec.specs.declared.answer.Answer.TheVariants.{Empty}
use Rattle.event_codec.specs.declared.reply.Shape.{Shape}
use Rattle.event_codec.specs.declared.reply.Shape.TheVariants as shapes
use Rattle.bus_wire.specs.Lawful.{IsLawful, after_floor}
use Rattle.bus_wire.proofs.Walk.{one_run}
use Rattle.bus_wire.proofs.Uniqueness.{one_shape, fault_is_unlawful}
use Rattle.bus_stores.specs.Keeper.{KeeperState}
use Rattle.bus_stores.specs.Memory.{no_fails, told_by}
use Rattle.bus_stores.specs.MemoryLog.{log_of}
use Rattle.bootstrap_core.specs.declared.fault.TakeLog.{TakeLog}
use Rattle.bootstrap_core.specs.declared.fault.TakeLog.TheVariants.{BadReply, Gap, Full, LogFailed, Halted, NoMemory}
use Rattle.bootstrap_core.specs.Boot.{BootState, told, Stands}
use Rattle.bootstrap_core.specs.Logging.{log_ask, AreWindowsBehind, IsChained, Logs, Fills, TakesLog}
use Rattle.event_codec.proofs.Streams.{come_spans}
use Rattle.history_core.specs.Bus.{boot_numbers}
use Rattle.history_core.specs.Steps.{end_after}
use Rattle.history_core.specs.Booting.{MemoryParts, BootedAt, CanLog, HasNext, IsNextReply, CanTake}
use Rattle.history_core.proofs.Booted.{stops_of, log_kept, keeper_kept}
use Rattle.history_core.proofs.LogRuns.{total_bound, fewer_between, place_follows, chained_of}

all_at : {X : Type 0} (P : X → Type 0) (xs : List X) (i : ℕ) (x : X) → slice_get xs i ≡ Some x → AllByRecursion P xs → P x
all_at P [] i x e h = absurd cc
all_at P (y ∷ ys) zero x e h = subst P (let same : y ≡ x = cc in same) h.0
all_at P (y ∷ ys) (suc i) x e h = all_at P ys i x e h.1

-- the relay keeps a window behind those that are logged
pub has_next : (ws : List Span) (r : Relay) (b : MemoryParts) (n : ℕ) → CanLog ws r b → n ≡ (boot_numbers b).high → n < r.tail → HasNext ws r n
has_next ws r b n can is more =
    let reach = can.reach in
    record { stands = can.stands; place = subst (λ m. is_place m ws ≡ true) (sym is) can.booted.stands.lawful.high_place; reach = omega arith; more = more }

-- the relay's reply to a bootstrap can be taken
pub can_take : (ws : List Span) (r : Relay) (b : MemoryParts) (bytes : List ℕ) (held count : ℕ) → CanLog ws r b → IsNextReply ws r.tail (boot_numbers b).high bytes held → count ≤ held → CanTake ws r.tail count b bytes
can_take ws r b bytes held count can next enough = record { few = can.few; timeline = can.stands.timeline; booted = can.booted; held = held; enough = enough; next = next }

-- the faults that come to the bootstrap of a bus
abbrev pub MayTake : TakeLog → Type 0
MayTake (BadReply place) = ⊥
MayTake (Gap floor) = ⊥
MayTake (Full need) = ⊥
MayTake LogFailed = ⊥
MayTake Halted = ⊥
MayTake NoMemory = Unit {0}

abbrev told_of : MemoryParts → BootState
told_of b = told log_of told_by b

module _ (ws : List Span) (end count : ℕ) (b : MemoryParts) (bytes : List ℕ) (can : CanTake ws end count b bytes) where
  abbrev high : ℕ
  high = (boot_numbers b).high

  abbrev run : List Span
  run = can.next.windows

  abbrev shape : Shape
  shape = shapes.Windows (length run) (end_of run)

  lawful : IsLawful (log_ask high) bytes shape
  lawful = record { windows = run; spelled = can.next.behind.spelled; run = can.next.behind.run; counted = refl; ends = refl }

  no_answer : (answer : Answer) → IsLawful (log_ask high) bytes (shapes.Only answer) → ⊥
  no_answer answer other = (let same = one_shape (log_ask high) bytes shape (shapes.Only answer) lawful other in cc)

  only_run : (vs : List Span) → AreWindowsBehind high bytes vs → vs ≡ run
  only_run vs are = one_run high MAX_SCN All bytes vs run are.run can.next.behind.run are.spelled can.next.behind.spelled

  chained : IsChained high run
  chained =
      let stretch = place_follows ws high end can.timeline can.booted.stands.lawful.high_place in
      chained_of high run (subst (IsTimelineFrom high) (sym can.next.front) (timeline-take high can.held (windows_between high end ws) stretch))

  -- the first so many were appended
  pub take_booted : (after : MemoryParts) (scn : ℕ) → Logs scn count bytes (told_of b) (told_of after) → (after.halted ≡ false → Stands ws (told_of after)) → BootedAt ws (record (boot_numbers b) { high = end_after ws high end count }) after
  take_booted after scn logs stands =
      let same : logs.windows ≡ run = elim logs.are [
        | inl none ↦ absurd (no_answer (Empty none.0) (subst (IsLawful (log_ask high) bytes) none.1 logs.lawful))
        | inr some ↦ only_run logs.windows some.0
      ] in
      let taken : take count logs.windows ≡ take count (windows_between high end ws) = ap (take count) (same ∙ can.next.front) ∙ take-take count can.held (windows_between high end ws) can.enough in
      let high_is : (boot_numbers after).high ≡ end_after ws high end count = logs.logged.high ∙ ap (λ (vs : List Span). end_from high vs) taken in
      let runs : after.halted ≡ false = logs.logged.halted ∙ can.booted.runs in
      let log = log_kept b.log after.log logs.logged.room can.booted.log_sound in
      let keeper = keeper_kept after.keeper (stops_of b.keeper) (ap (λ (k : KeeperState). k.stops) logs.logged.keeper) can.booted.unarmed (ap no_fails can.booted.keeper_sound) in
      let mark = logs.logged.mark in
      record {
        booted = record {
          stands = stands runs;
          runs = runs;
          log_sound = log.0;
          roomy = log.1 ∙ can.booted.roomy;
          begins = logs.logged.floor ∙ can.booted.begins ∙ sym (λ i. (mark i).base);
          keeper_sound = keeper.0;
          unarmed = keeper.1;
        };
        is = λ i. record { base = (mark i).base; applied = (mark i).applied; high = high_is i };
      }

  -- the log has room for each window
  no_full : (need : ℕ) (after : MemoryParts) → Fills need count bytes (told_of b) (told_of after) → (after.halted ≡ false → Stands ws (told_of after)) → ⊥
  no_full need after fills stands =
      let standing = stands (fills.logged.halted ∙ can.booted.runs) in
      let low = after.log.floor in
      let newest = (boot_numbers after).high in
      let span = all_at IsSpan fills.windows fills.done fills.next fills.is_next (come_spans (after_floor high) fills.windows fills.are.run.asked.come) in
      let size = span.size in
      let need_is = fills.need_is in
      let held = ap total_size standing.stretch.windows in
      let bound = total_bound low (windows_between low newest ws) (place_follows ws low newest can.timeline standing.stretch.floor) in
      let fewer = fewer_between low newest ws in
      let few = can.few in
      let limit = (log_kept b.log after.log fills.logged.room can.booted.log_sound).1 ∙ can.booted.roomy in
      let past = ltb-true after.log.limit (total_size after.log.windows + need) fills.full in
      omega arith

  -- nothing but want of memory comes
  pub take_fault : (after : MemoryParts) (result : Result ℕ TakeLog) (fault : TakeLog) → result ≡ Err fault → TakesLog result count bytes (told_of b) (told_of after) → (IsErrOf result Halted ↔ (b.halted ≡ true)) → (after.halted ≡ false → Stands ws (told_of after))
      → MayTake fault
  take_fault after result fault is takes halts stands = fault_by fault (subst (λ (r : Result ℕ TakeLog). TakesLog r count bytes (told_of b) (told_of after)) is takes) (λ e. halts.0 (is ∙ ap Err e))
    where
      fault_by : (f : TakeLog) → TakesLog (Err f) count bytes (told_of b) (told_of after) → (f ≡ Halted → b.halted ≡ true) → MayTake f
      fault_by (BadReply place) t h = elim t.1 [
        | inl bad ↦ fault_is_unlawful (log_ask high) bytes place shape bad lawful
        | inr other ↦ other.2 (subst (IsChained high) (sym (only_run other.0 other.1)) chained)
      ]
      fault_by (Gap floor) t h = no_answer _ t.1
      fault_by (Full need) t h = no_full need after t stands
      fault_by LogFailed t h = true≢false (sym (ap no_fails can.booted.log_sound) ∙ t.1.sound)
      fault_by Halted t h = true≢false (sym (h refl) ∙ can.booted.runs)
      fault_by NoMemory t h = tt
