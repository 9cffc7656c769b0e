-- Bytes of a reply are read item by item in one way: where a reading stops, each reading stops.
use Rattle.std.proofs.Common.{◌≡◌, ℕ, zero, suc, ◌<◌, ◌≤◌, ◌⊎◌, inl, inr, Bool, true, false, cond, eqb, IsTrue, List, [], ◌∷◌, ◌++◌, length, drop, Option, Some, None, refl, sym, ap, subst, ◌∙◌, append_assoc, append-nil, arith}
use Rattle.std.specs.List.{AllByRecursion}
use Rattle.std.proofs.lemmas.Bool.{and_from, le-leb, eq-eqb, ne_eqb}
use Rattle.std.proofs.lemmas.List.{drop_at, length-append}
use Rattle.std.proofs.lemmas.Option.{same_Some, none-some}
use Rattle.bus_types.specs.declared.change.Change.{Change}
use Rattle.bus_types.specs.Change.{change_size}
use Rattle.bus_types.specs.Window.{Span}
use Rattle.bus_types.specs.Relay.{most_windows}
use Rattle.partition_filter.specs.Selection.{Selection, test_of}
use Rattle.event_codec.specs.Bytes.{event_bytes, mark_bytes, changes_bytes, window_bytes}
use Rattle.event_codec.specs.Items.{Since, Open, open_of, Front, front_of}
use Rattle.event_codec.specs.Items.Front.{Unfinished, Refused, AnEvent, AMark}
use Rattle.event_codec.specs.Streams.{Comes, Come, after_windows, windows_bytes, Begins}
use Rattle.event_codec.proofs.EventBytes.{event_length}
use Rattle.event_codec.proofs.Fronts.{event_seen, mark_seen}
use Rattle.event_codec.proofs.Begun.{event, is_event, changes_size-append, open_count, open_size}
use Rattle.event_codec.proofs.Readings.{right_of, changes_after}
use Rattle.event_codec.proofs.Streams.{after_append}
use Rattle.bus_wire.proofs.Stepping.{Leads, one_stop, here, further, after_all}
use Rattle.bus_wire.specs.Lawful.{has_enough, AreAccepted, IsAskedFor, after_floor, AreAskedFor, IsRun, can_stand, Reading, StopsAt}

-- ---- one item after the other

-- how far a reply is read: whole windows, what of the next one has come, and what is left
pub record At : Type 0 where
  pub windows : List Span
  pub scn : ℕ
  pub changes : List Change
  pub part : List ℕ

abbrev begun : At → Open
begun at = open_of at.scn at.changes

abbrev front : ℕ → At → Front
front floor at = front_of (after_windows (after_floor floor) at.windows) (begun at) at.part

-- behind the item that stands in front
abbrev behind : At → Front → At
behind at Unfinished = at
behind at Refused = at
behind at (AnEvent n c m) = record { windows = at.windows; scn = n; changes = at.changes ++ c ∷ []; part = drop m at.part }
behind at (AMark n p) = record { windows = at.windows ++ record { scn = n; prev = p; changes = at.changes } ∷ []; scn = 0; changes = []; part = drop 17 at.part }

-- behind one more item, where one can stand
next : (floor top : ℕ) (filter : Selection) → At → Option At
next floor top filter at = cond (eqb (length at.windows) 32) None (cond (can_stand top filter (begun at) (front floor at)) (Some (behind at (front floor at))) None)

next_is : (floor top : ℕ) (filter : Selection) (at : At) (f : Front) (to : At) → length at.windows < 32 → front floor at ≡ f → can_stand top filter (begun at) f ≡ true → behind at f ≡ to → next floor top filter at ≡ Some to
unfolding next
next_is floor top filter at f to few is can behind_is =
    let room : eqb (length at.windows) 32 ≡ false = ne_eqb (length at.windows) 32 (λ full. omega (arith, few, full)) in
    rw (room, is, can) (ap Some behind_is)

stays : (floor top : ℕ) (filter : Selection) (at : At) → (length at.windows ≡ most_windows) ⊎ (can_stand top filter (begun at) (front floor at) ≡ false) → next floor top filter at ≡ None
unfolding next
stays floor top filter at (inl full) = rw (eq-eqb (length at.windows) 32 full) refl
stays floor top filter at (inr none) = none_left (eqb (length at.windows) 32) (Some (behind at (front floor at))) none
  where
    none_left : {X : Type 0} (b : Bool) {c : Bool} (x : Option X) → c ≡ false → cond b None (cond c x None) ≡ None
    none_left true x e = refl
    none_left false x e = rw e refl

-- ---- what can stand is read

-- the SCN of a window that has begun with these changes
abbrev scn_in : ℕ → List Change → ℕ
scn_in n [] = 0
scn_in n (c ∷ cs) = n

abbrev point : List Span → ℕ → List Change → List ℕ → At
point ws n cs part = record { windows = ws; scn = scn_in n cs; changes = cs; part = part }

open_is : (n : ℕ) (cs : List Change) → open_of (scn_in n cs) cs ≡ open_of n cs
open_is n [] = refl
open_is n (c ∷ cs) = refl

bytes_are : (n : ℕ) (cs : List Change) → changes_bytes n cs ≡ changes_bytes (scn_in n cs) cs
bytes_are n [] = refl
bytes_are n (c ∷ cs) = refl

scn_push : (n : ℕ) (cs : List Change) (c : Change) → scn_in n (cs ++ c ∷ []) ≡ n
scn_push n [] c = refl
scn_push n (d ∷ cs) c = refl

module _ (floor top : ℕ) (filter : Selection) where
  event_step : (ws : List Span) (n : ℕ) (cs : List Change) (c : Change) (others : List Change) (rest : List ℕ) → length ws < 32 → Begins (after_windows (after_floor floor) ws) n (cs ++ c ∷ others) → n ≤ top → IsTrue (test_of filter c.source c.key)
      → next floor top filter (point ws n cs (event_bytes (event n c) ++ rest)) ≡ Some (point ws n (cs ++ c ∷ []) rest)
  event_step ws n cs c others rest few begins below accepted =
      let t = after_windows (after_floor floor) ws in
      let above : t.floor < n = begins.above (omega (arith, length-append cs (c ∷ others))) in
      let seen = event_seen t (open_of n cs) (event n c) rest (record {
        within = is_event n c (omega (arith, above)) begins.scn (changes_after cs (c ∷ others) begins.changes).0;
        right = right_of t n n cs above (λ _. refl);
        count = omega (arith, open_count n cs, begins.count, length-append cs (c ∷ others));
        room = omega (arith, open_size n cs, begins.size, changes_size-append cs (c ∷ others));
      }) in
      next_is floor top filter (point ws n cs (event_bytes (event n c) ++ rest)) (AnEvent n c (change_size c)) (point ws n (cs ++ c ∷ []) rest) few
      (ap (λ (o : Open). front_of t o (event_bytes (event n c) ++ rest)) (open_is n cs) ∙ seen)
      (and_from _ _ (le-leb n top below) accepted)
      (λ i. record { windows = ws; scn = sym (scn_push n cs c) i; changes = cs ++ c ∷ []; part = drop_at (event_bytes (event n c)) rest (change_size c) (event_length (event n c)) i })

  events_go : (ws : List Span) (n : ℕ) (done cs all : List Change) (rest : List ℕ) → (0 < length cs → length ws < 32) → Begins (after_windows (after_floor floor) ws) n all → n ≤ top → AreAccepted filter cs → all ≡ done ++ cs
      → Leads (next floor top filter) (point ws n done (changes_bytes n cs ++ rest)) (point ws n all rest)
  events_go ws n done [] all rest few begins below accepted same = here (next floor top filter) _ _ (ap (λ (x : List Change). point ws n x rest) (sym (same ∙ append-nil done)))
  events_go ws n done (c ∷ cs) all rest few begins below accepted same =
      let others = changes_bytes n cs ++ rest in
      let step = event_step ws n done c cs others (few (omega arith)) (subst (λ (x : List Change). Begins (after_windows (after_floor floor) ws) n x) same begins) below accepted.0 in
      let more = events_go ws n (done ++ c ∷ []) cs all rest (λ _. few (omega arith)) begins below accepted.1 (same ∙ sym (append_assoc done (c ∷ []) cs)) in
      after_all (next floor top filter) _ (point ws n done (event_bytes (event n c) ++ others)) _ (here (next floor top filter) _ _ (ap (point ws n done) (append_assoc (event_bytes (event n c)) (changes_bytes n cs) rest)))
      (further (next floor top filter) _ (point ws n (done ++ c ∷ []) others) _ step more)

  mark_step : (ws : List Span) (w : Span) (rest : List ℕ) → length ws < 32 → Comes (after_windows (after_floor floor) ws) w → IsAskedFor top filter w
      → next floor top filter (point ws w.scn w.changes (mark_bytes w.scn w.prev ++ rest)) ≡ Some (point (ws ++ w ∷ []) 0 [] rest)
  mark_step ws w rest few comes asked =
      let t = after_windows (after_floor floor) ws in
      let n = w.scn in
      let cs = w.changes in
      let seen = mark_seen t (open_of n cs) n w.prev rest (record { bound = comes.within.scn; order = comes.within.prev; right = right_of t n n cs comes.above (λ _. refl); chained = comes.chained }) in
      let count : (open_of (scn_in n cs) cs).count ≡ length cs = open_count (scn_in n cs) cs in
      next_is floor top filter (point ws n cs (mark_bytes n w.prev ++ rest)) (AMark n w.prev) (point (ws ++ w ∷ []) 0 [] rest) few
      (ap (λ (o : Open). front_of t o (mark_bytes n w.prev ++ rest)) (open_is n cs) ∙ seen)
      (and_from _ _ (le-leb n top asked.below) (subst (λ k. IsTrue (has_enough filter k)) (sym count) asked.enough))
      (ap (λ (x : List ℕ). record { windows = ws ++ w ∷ []; scn = 0; changes = []; part = x }) (drop_at (mark_bytes n w.prev) rest 17 refl))

  window_parts : (w : Span) (ws : List Span) (rest : List ℕ) → windows_bytes (w ∷ ws) ++ rest ≡ changes_bytes w.scn w.changes ++ (mark_bytes w.scn w.prev ++ (windows_bytes ws ++ rest))
  window_parts w ws rest = append_assoc (window_bytes w) (windows_bytes ws) rest ∙ append_assoc (changes_bytes w.scn w.changes) (mark_bytes w.scn w.prev) (windows_bytes ws ++ rest)

  windows_go : (done ws all : List Span) (rest : List ℕ) → Come (after_windows (after_floor floor) done) ws → AllByRecursion (IsAskedFor top filter) ws → all ≡ done ++ ws → length all ≤ 32
      → Leads (next floor top filter) (point done 0 [] (windows_bytes ws ++ rest)) (point all 0 [] rest)
  windows_go done [] all rest come asked same few = here (next floor top filter) _ _ (ap (λ (x : List Span). point x 0 [] rest) (sym (same ∙ append-nil done)))
  windows_go done (w ∷ ws) all rest come asked same few =
      let t = after_windows (after_floor floor) done in
      let within = come.0.within in
      let others = windows_bytes ws ++ rest in
      let room : length done < 32 = omega (arith, few, ap length same, length-append done (w ∷ ws)) in
      let begins : Begins t w.scn w.changes = record { above = λ _. come.0.above; scn = within.scn; count = within.count; size = within.size; changes = within.changes } in
      let events = events_go done w.scn [] w.changes w.changes (mark_bytes w.scn w.prev ++ others) (λ _. room) begins asked.0.below asked.0.accepted refl in
      let more = windows_go (done ++ w ∷ []) ws all rest (subst (λ (q : Since). Come q ws) (sym (after_append (after_floor floor) done (w ∷ []))) come.1) asked.1 (same ∙ sym (append_assoc done (w ∷ []) ws)) few in
      after_all (next floor top filter) _ (point done w.scn [] (changes_bytes w.scn w.changes ++ (mark_bytes w.scn w.prev ++ others))) _ (here (next floor top filter) _ _ (ap (point done 0 []) (window_parts w ws rest)))
      (after_all (next floor top filter) _ (point done w.scn w.changes (mark_bytes w.scn w.prev ++ others)) _ events (further (next floor top filter) _ (point (done ++ w ∷ []) 0 [] others) _ (mark_step done w others room come.0 asked.0) more))

  -- a reading is read
  reading_goes : (bytes : List ℕ) (r : Reading floor top filter bytes) → Leads (next floor top filter) (point [] 0 [] bytes) (point r.windows r.scn r.changes r.part)
  reading_goes bytes r =
      let behind = changes_bytes r.scn r.changes ++ r.part in
      let ws = r.windows in
      after_all (next floor top filter) _ (point [] 0 [] (windows_bytes ws ++ behind)) _ (here (next floor top filter) _ _ (ap (point [] 0 []) (r.parts ∙ append_assoc (windows_bytes ws) (changes_bytes r.scn r.changes) r.part)))
      (after_all (next floor top filter) _ (point ws r.scn [] behind) _ (windows_go [] ws ws behind r.asked.come r.asked.each refl r.asked.few)
      (events_go ws r.scn [] r.changes r.changes r.part r.room r.begins r.below r.accepted refl))

  -- a run is read to its end
  run_goes : (bytes : List ℕ) (ws : List Span) → AreAskedFor floor top filter ws → bytes ≡ windows_bytes ws → Leads (next floor top filter) (point [] 0 [] bytes) (point ws 0 [] [])
  run_goes bytes ws asked same =
      after_all (next floor top filter) _ (point [] 0 [] (windows_bytes ws ++ [])) _ (here (next floor top filter) _ _ (ap (point [] 0 []) (same ∙ sym (append-nil (windows_bytes ws)))))
      (windows_go [] ws ws [] asked.come asked.each refl asked.few)

  run_ends : (ws : List Span) → next floor top filter (point ws 0 [] []) ≡ None
  unfolding front_of
  run_ends ws = stays floor top filter (point ws 0 [] []) (inr refl)

  stop_ends : (bytes : List ℕ) (place : ℕ) (stop : StopsAt floor top filter bytes place) → next floor top filter (point stop.read.windows stop.read.scn stop.read.changes stop.read.part) ≡ None
  stop_ends bytes place stop =
      let r = stop.read in
      let t = after_windows (after_floor floor) r.windows in
      stays floor top filter (point r.windows r.scn r.changes r.part)
      (elim stop.stops [
        | inl full ↦ inl full
        | inr none ↦ inr ((λ i. can_stand top filter (open_is r.scn r.changes i) (front_of t (open_is r.scn r.changes i) r.part)) ∙ none)
      ])

  -- ---- one reading

  -- the windows of bytes are the only ones
  pub one_run : (bytes : List ℕ) (ws vs : List Span) → IsRun floor top filter ws → IsRun floor top filter vs → bytes ≡ windows_bytes ws → bytes ≡ windows_bytes vs → ws ≡ vs
  one_run bytes ws vs one two same same_too =
      ap (λ (at : At). at.windows) (one_stop (next floor top filter) (point [] 0 [] bytes) (point ws 0 [] []) (point vs 0 [] []) (run_goes bytes ws one.asked same) (run_ends ws) (run_goes bytes vs two.asked same_too) (run_ends vs))

  -- bytes that stop somewhere are no run
  pub no_run_stops : (bytes : List ℕ) (ws : List Span) (place : ℕ) → IsRun floor top filter ws → bytes ≡ windows_bytes ws → StopsAt floor top filter bytes place → ⊥
  no_run_stops bytes ws place run same stop =
      let r = stop.read in
      let at = one_stop (next floor top filter) (point [] 0 [] bytes) (point ws 0 [] []) (point r.windows r.scn r.changes r.part) (run_goes bytes ws run.asked same) (run_ends ws) (reading_goes bytes r) (stop_ends bytes place stop) in
      let windows : length ws ≡ length r.windows = ap (λ (x : At). length x.windows) at in
      let changes : 0 ≡ length r.changes = ap (λ (x : At). length x.changes) at in
      let part : 0 ≡ length r.part = ap (λ (x : At). length x.part) at in
      let some = run.some in
      let more : 0 < length r.part = stop.unended (omega arith) (omega arith) in
      omega arith

  -- they stop at one place
  pub one_place : (bytes : List ℕ) (place other : ℕ) → StopsAt floor top filter bytes place → StopsAt floor top filter bytes other → place ≡ other
  one_place bytes place other one two =
      let r = one.read in
      let q = two.read in
      let at = one_stop (next floor top filter) (point [] 0 [] bytes) (point r.windows r.scn r.changes r.part) (point q.windows q.scn q.changes q.part) (reading_goes bytes r) (stop_ends bytes place one) (reading_goes bytes q) (stop_ends bytes other two) in
      one.there
      ∙ ap (λ (x : List ℕ). length (windows_bytes r.windows ++ x)) (bytes_are r.scn r.changes)
      ∙ ap (λ (x : At). length (windows_bytes x.windows ++ changes_bytes x.scn x.changes)) at
      ∙ ap (λ (x : List ℕ). length (windows_bytes q.windows ++ x)) (sym (bytes_are q.scn q.changes))
      ∙ sym two.there
