-- Steps of a scan, in the code's words.
use Rattle.std.proofs.Common.{◌≡◌, ℕ, ◌+◌, ◌≤◌, List, [], ◌∷◌, ◌++◌, length, take, drop, None, true, refl, sym, ap, subst, ◌∙◌, arith}
use Rattle.bus_types.specs.declared.change.Change.{Change}
use Rattle.bus_types.specs.declared.limits.TheConstants.{MAX_WINDOW}
use Rattle.bus_types.specs.Window.{Span}
use Rattle.event_codec.specs.Bytes.{window_bytes}
use Rattle.window_stream.specs.declared.scan.Scan.{Scan}
use Rattle.event_codec.specs.declared.item.Item.TheVariants as items
use Rattle.event_codec.specs.Items.{since_of, open_in, Shows}
use Rattle.window_stream.specs.Scan.{IsScan, front_at, ShowsEvent, Moves}
use Rattle.window_stream.specs.Decode.{AreEventsOf}
use Rattle.event_codec.specs.Parsing.{events_of, AreEvents, HaveEvents}
use Rattle.event_codec.proofs.Parsings.{events_spelled, events_within}
use Rattle.event_codec.specs.Streams.{Comes}
use Rattle.window_stream.proofs.Changes.{changes_again}
use Rattle.event_codec.proofs.Begun.{fits, small, EventMoves, event_moves, MarkMoves, mark_moves, begun_none}
use Rattle.window_stream.proofs.Windows.{moves_one}

module _ (scan : Scan) (is : IsScan scan) where
  pub scan_fits : scan.events.size ≤ length scan.rest.now
  scan_fits = fits (since_of scan.follows) (open_in scan.events) scan.rest.now is.begun

  pub scan_small : scan.events.size ≤ MAX_WINDOW
  scan_small = omega (arith, small (since_of scan.follows) (open_in scan.events) scan.rest.now is.begun)

  pub event_moved : (n m : ℕ) → ShowsEvent scan n m → EventMoves (since_of scan.follows) (open_in scan.events) scan.rest.now n m
  event_moved n m found = event_moves (since_of scan.follows) (open_in scan.events) scan.rest.now n found.0 m is.bytes is.begun found.1

  pub mark_moved : (n p : ℕ) → Shows (items.Mark n p) (front_at scan) → MarkMoves (since_of scan.follows) (open_in scan.events) scan.rest.now is.begun.changes n p
  mark_moved n p found = mark_moves (since_of scan.follows) (open_in scan.events) scan.rest.now n p is.bytes is.begun found

  mark_are : (n p : ℕ) → Shows (items.Mark n p) (front_at scan) → (events : List ℕ) → events ≡ take scan.events.size scan.rest.now → AreEvents (events_of n is.begun.changes) events
  mark_are n p found events same =
      let moved = mark_moved n p found in
      let within = moved.comes.within in
      record { within = events_within n is.begun.changes (omega (arith, within.prev)) within.scn within.changes; spelled = same ∙ moved.events ∙ events_spelled n is.begun.changes }

  -- the changes that were decoded are those of the window
  pub mark_changes : (n p : ℕ) → Shows (items.Mark n p) (front_at scan) → (cs : List Change) (events : List ℕ) → events ≡ take scan.events.size scan.rest.now → AreEventsOf cs events → cs ≡ is.begun.changes
  mark_changes n p found cs events same are = are (events_of n is.begun.changes) (mark_are n p found events same) ∙ changes_again n is.begun.changes

  pub mark_events : (n p : ℕ) → Shows (items.Mark n p) (front_at scan) → (events : List ℕ) → events ≡ take scan.events.size scan.rest.now → HaveEvents events
  mark_events n p found events same = (events_of n is.begun.changes, mark_are n p found events same)

  pub mark_window : (n p : ℕ) → Shows (items.Mark n p) (front_at scan) → (cs : List Change) (events : List ℕ) → events ≡ take scan.events.size scan.rest.now → AreEventsOf cs events
      → Comes (since_of scan.follows) (record { scn = n; prev = p; changes = cs })
  mark_window n p found cs events same are =
      subst (λ (x : List Change). Comes (since_of scan.follows) (record { scn = n; prev = p; changes = x })) (sym (mark_changes n p found cs events same are)) (mark_moved n p found).comes

  pub mark_given : (n p : ℕ) → Shows (items.Mark n p) (front_at scan) → (cs : List Change) (events rest : List ℕ) (w : Span) (before after : List Span) → events ≡ take scan.events.size scan.rest.now → AreEventsOf cs events
      → rest ≡ drop 17 (drop scan.events.size scan.rest.now) → w ≡ record { scn = n; prev = p; changes = cs } → after ≡ before ++ w ∷ []
      → Moves (since_of scan.follows) scan.rest.now (record { floor = n; started = true }) (record { scn = None; count = 0; size = 0 }) rest before after
  mark_given n p found cs events rest w before after same are left window given =
      let whole : Span = record { scn = n; prev = p; changes = is.begun.changes } in
      let w_is : w ≡ whole = window ∙ ap (λ (x : List Change). record { scn = n; prev = p; changes = x }) (mark_changes n p found cs events same are) in
      let moved = mark_moved n p found in
      moves_one (since_of scan.follows) scan.rest.now whole (record { floor = n; started = true }) (record { scn = None; count = 0; size = 0 }) rest before after moved.comes
      (moved.parts ∙ ap (λ (x : List ℕ). window_bytes whole ++ x) (sym left)) refl (begun_none (record { floor = n; started = true }) rest) (given ∙ ap (λ (x : Span). before ++ x ∷ []) w_is)

  pub mark_long : (n p : ℕ) → Shows (items.Mark n p) (front_at scan) → scan.events.size + 17 ≤ length scan.rest.now
  mark_long n p found = (mark_moved n p found).long
