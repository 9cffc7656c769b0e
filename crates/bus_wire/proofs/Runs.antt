-- Bytes of a reply that are read so far, in the code's words.
use Rattle.std.proofs.Common.{◌≡◌, ℕ, ◌+◌, ◌<◌, true, false, ◌&&◌, eqb, ltb, leb, None, length}
use Rattle.std.proofs.lemmas.Bool.{and_parts, and_from, lt-ltb, ltb-true, eq-eqb, eqb-true, leb-true}
use Rattle.bus_types.specs.declared.change.Key.TheVariants.{Long}
use Rattle.bus_types.specs.Relay.{most_windows}
use Rattle.partition_filter.specs.Selection.{test_of}
use Rattle.event_codec.specs.declared.item.Item.TheVariants as items
use Rattle.event_codec.specs.Items.{since_of, open_in, Shows}
use Rattle.bus_wire.specs.declared.run.Run.{Run}
use Rattle.bus_wire.specs.declared.run.Windows.{Windows}
use Rattle.bus_wire.specs.Lawful.{has_enough, HoldsRun, StopsAt}
use Rattle.bus_wire.specs.Run.{Reached, IsReached, front_at, Halts, is_whole}
use Rattle.bus_wire.proofs.Steps.{EventGoes, event_goes, mark_goes, run_is_whole, run_stops}

module _ (check : Windows) (run : Run) (is : IsReached check run) (room : run.count < most_windows) where
  -- behind an event
  pub event_read : (n source key m : ℕ) → Shows (items.Event n source key m) (front_at check run) → (leb n check.top && test_of check.filter.now source (Long key)) ≡ true
      → EventGoes check.floor check.top check.filter.now check.bytes.now (since_of run.follows) (open_in run.events) run.count run.place n m
  event_read n source key m found can =
      let parts = and_parts (leb n check.top) (test_of check.filter.now source (Long key)) can in
      event_goes check.floor check.top check.filter.now check.bytes.now (since_of run.follows) (open_in run.events) run.count run.place n
      (record { source = source; key = Long key; put = found.0 }) m is.reached is.bytes room found.1 (leb-true n check.top parts.0) parts.1

  -- behind a mark
  pub mark_read : (n p : ℕ) → Shows (items.Mark n p) (front_at check run) → (leb n check.top && has_enough check.filter.now run.events.count) ≡ true
      → Reached check.floor check.top check.filter.now check.bytes.now (record { floor = n; started = true }) (record { scn = None; count = 0; size = 0 }) (run.count + 1) (run.place + 17)
  mark_read n p found can =
      let parts = and_parts (leb n check.top) (has_enough check.filter.now run.events.count) can in
      mark_goes check.floor check.top check.filter.now check.bytes.now (since_of run.follows) (open_in run.events) run.count run.place n p is.reached is.bytes room found (leb-true n check.top parts.0) parts.1

module _ (check : Windows) (run : Run) (is : IsReached check run) where
  -- the reply is whole
  pub whole : is_whole check run ≡ true → HoldsRun check.floor check.top check.filter.now check.bytes.now run.count run.follows.floor
  whole e =
      let a = and_parts (ltb 0 run.count && eqb run.events.count 0) (eqb run.place (length check.bytes.now)) e in
      let b = and_parts (ltb 0 run.count) (eqb run.events.count 0) a.0 in
      run_is_whole check.floor check.top check.filter.now check.bytes.now (since_of run.follows) (open_in run.events) run.count run.place is.reached
      (ltb-true 0 run.count b.0) (eqb-true run.events.count 0 b.1) (eqb-true run.place (length check.bytes.now) a.1)

  -- it stops before
  pub stopped : is_whole check run ≡ false → Halts check run → StopsAt check.floor check.top check.filter.now check.bytes.now run.place
  stopped e halts =
      run_stops check.floor check.top check.filter.now check.bytes.now (since_of run.follows) (open_in run.events) run.count run.place is.reached halts
      (λ some none all. let yes : is_whole check run ≡ true = and_from _ _ (and_from _ _ (lt-ltb 0 run.count some) (eq-eqb run.events.count 0 none)) (eq-eqb run.place (length check.bytes.now) all) in cc)
