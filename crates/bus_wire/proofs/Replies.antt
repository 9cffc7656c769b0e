-- What a relay serves is a lawful reply.
use Rattle.std.proofs.Common.{◌≡◌, ℕ, zero, suc, ◌<◌, ◌≤◌, inl, inr, Bool, true, false, cond, ltb, leb, ◌==◌, IsTrue, List, [], ◌∷◌, length, take, map, refl, sym, subst, arith}
use Rattle.std.specs.List.{AllByRecursion, list_any}
use Rattle.std.proofs.lemmas.Bool.{and_from, lt-ltb, le-leb, eq-eqb, eqb-true, ltb-false, leb-false, or_cases}
use Rattle.std.proofs.lemmas.List.{length-map}
use Rattle.bus_types.specs.declared.change.Change.{Change}
use Rattle.bus_types.specs.declared.limits.TheConstants.{MAX_SCN, MAX_WINDOW}
use Rattle.bus_types.specs.Change.{Test, accepted, changes_size, AreChanges}
use Rattle.bus_types.specs.Window.{Span, span_size, IsSpan}
use Rattle.bus_types.specs.Timeline.{Follows, IsTimelineFrom, IsTimeline, end_from, windows_between}
use Rattle.bus_types.specs.Cut.{cut, cuts}
use Rattle.bus_types.specs.Relay.{Served, NotFound, Empty, TooSmall, Windows, most_windows, longest_run, fitting, stream, is_place, Relay, answer_of, StandsFor}
use Rattle.bus_types.proofs.Stretches.{Rises, between_in, between_cases, between_rises, timeline_rises, between_timeline, between_end}
use Rattle.bus_types.proofs.Runs.{longest_run_is, run_takes}
use Rattle.bus_types.proofs.Floors.{floor_is, stands_answers}
use Rattle.partition_filter.specs.Selection.{Selection, test_of}
use Rattle.partition_filter.specs.Selection.Selection.{All, Rules}
use Rattle.event_codec.specs.Items.{Since}
use Rattle.event_codec.specs.Streams.{Come, after_window}
use Rattle.bus_wire.specs.declared.ask.Ask.TheVariants.{Stream}
use Rattle.bus_wire.specs.Lawful.{has_enough, IsAskedFor, after_floor, IsRun}
use Rattle.bus_wire.specs.Served.{Serves, IsLawfullyServed}

-- ---- cut windows

-- what a filter leaves of changes is accepted, and no more
record CutChanges (test : Test) (cs : List Change) (left : List Change) : Type 0 where
  accepted : AllByRecursion (λ c. IsTrue (test c.source c.key)) left
  count : length left ≤ length cs
  size : changes_size left ≤ changes_size cs
  changes : AreChanges left

cut_one : (test : Test) (c : Change) (cs left : List Change) (b : Bool) → test c.source c.key ≡ b → AreChanges (c ∷ cs) → CutChanges test cs left → CutChanges test (c ∷ cs) (cond b (c ∷ left) left)
cut_one test c cs left true takes are rest =
    let count = rest.count in
    let size = rest.size in
    record { accepted = (takes, rest.accepted); count = omega arith; size = omega arith; changes = (are.0, rest.changes) }
cut_one test c cs left false takes are rest =
    let count = rest.count in
    let size = rest.size in
    record { accepted = rest.accepted; count = omega arith; size = omega arith; changes = rest.changes }

cut_changes : (test : Test) (cs : List Change) → AreChanges cs → CutChanges test cs (accepted test cs)
cut_changes test [] are = record { accepted = tt; count = omega arith; size = omega arith; changes = tt }
cut_changes test (c ∷ cs) are = cut_one test c cs (accepted test cs) (test c.source c.key) refl are (cut_changes test cs are.1)

-- a cut window is within its limits
pub cut_span : (test : Test) (w : Span) → IsSpan w → IsSpan (cut test w)
cut_span test w is =
    let left = cut_changes test w.changes is.changes in
    record { scn = is.scn; prev = is.prev; count = omega (arith, left.count, is.count); size = omega (arith, left.size, is.size); changes = left.changes }

-- where all is asked for, all is left
all_is_left : (cs : List Change) → length (accepted (test_of All) cs) ≡ length cs
all_is_left [] = refl
all_is_left (c ∷ cs) = omega (arith, all_is_left cs)

enough_is_left : (filter : Selection) (cs : List Change) → 0 < length cs → IsTrue (has_enough filter (length (accepted (test_of filter) cs)))
enough_is_left All cs full = lt-ltb 0 (length (accepted (test_of All) cs)) (omega (arith, full, all_is_left cs))
enough_is_left (Rules rules) cs full = refl

-- a cut window of a timeline may stand in a reply
pub cut_is_asked_for : (filter : Selection) (prev : ℕ) (w : Span) → Follows prev w → IsAskedFor MAX_SCN filter (cut (test_of filter) w)
cut_is_asked_for filter prev w follows =
    record { below = follows.within.scn; accepted = (cut_changes (test_of filter) w.changes follows.within.changes).accepted; enough = enough_is_left filter w.changes follows.full }

-- ---- stretches of a timeline

-- cut windows that follow each other come one after the other
cuts_come_after : (test : Test) (prev : ℕ) (ws : List Span) → IsTimelineFrom prev ws → Come (record { floor = prev; started = true }) (cuts test ws)
cuts_come_after test prev [] t = tt
cuts_come_after test prev (w ∷ ws) t =
    let below = t.0.within.prev in
    let chained = t.0.chained in
    (record { within = cut_span test w t.0.within; above = omega arith; chained = eq-eqb w.prev prev chained }, cuts_come_after test w.scn ws t.1)

cuts_come_first : (test : Test) (prev floor : ℕ) (ws : List Span) → IsTimelineFrom prev ws → prev ≤ floor → Rises floor ws → Come (after_floor floor) (cuts test ws)
cuts_come_first test prev floor [] t le r = tt
cuts_come_first test prev floor (w ∷ ws) t le r =
    let chained = t.0.chained in
    (record { within = cut_span test w t.0.within; above = r.0; chained = le-leb w.prev floor (omega arith) }, cuts_come_after test w.scn ws t.1)

-- a stretch of a timeline, cut, comes to who is at its lower end
pub stretch_comes : (test : Test) (scn end : ℕ) (ws : List Span) → IsTimeline ws → Come (after_floor scn) (cuts test (windows_between scn end ws))
stretch_comes test scn end ws t =
    cuts_come_first test (end_from 0 (windows_between 0 scn ws)) scn (windows_between scn end ws) (between_timeline 0 scn end ws t) (between_end 0 0 scn ws (omega arith)) (between_rises 0 scn end ws (timeline_rises 0 ws t))

cuts_are_asked_for : (filter : Selection) (prev : ℕ) (ws : List Span) → IsTimelineFrom prev ws → AllByRecursion (IsAskedFor MAX_SCN filter) (cuts (test_of filter) ws)
cuts_are_asked_for filter prev [] t = tt
cuts_are_asked_for filter prev (w ∷ ws) t = (cut_is_asked_for filter prev w t.0, cuts_are_asked_for filter w.scn ws t.1)

-- each of its windows may stand in a reply
pub stretch_is_asked_for : (filter : Selection) (scn end : ℕ) (ws : List Span) → IsTimeline ws → AllByRecursion (IsAskedFor MAX_SCN filter) (cuts (test_of filter) (windows_between scn end ws))
stretch_is_asked_for filter scn end ws t = cuts_are_asked_for filter (end_from 0 (windows_between 0 scn ws)) (windows_between scn end ws) (between_timeline 0 scn end ws t)

-- ---- places

place_found : (scn end : ℕ) (ws : List Span) → list_any (λ m. m == end) (map (λ (w : Span). w.scn) ws) ≡ true → scn < end → 0 < length (windows_between scn end ws)
place_found scn end [] found below = absurd cc
place_found scn end (w ∷ ws) found below =
    elim (or_cases (w.scn == end) (list_any (λ m. m == end) (map (λ (v : Span). v.scn) ws)) found) [
      | inl here ↦
          let same = eqb-true w.scn end here in
          subst (λ (kept : List Span). 0 < length kept) (sym (between_in scn end w ws (omega arith) (omega arith))) (omega arith)
      | inr later ↦
          let some = place_found scn end ws later below in
          between_cases (λ (kept : List Span). 0 < length kept) scn end w ws (λ l h. omega arith) (λ l. some) (λ h. some)
    ]

-- a window stands behind an SCN and up to a place
pub place_is_window : (scn end : ℕ) (ws : List Span) → is_place end ws ≡ true → scn < end → 0 < length (windows_between scn end ws)
place_is_window scn end ws place below =
    elim (or_cases (0 == end) (list_any (λ m. m == end) (map (λ (w : Span). w.scn) ws)) place) [
      | inl none ↦ (let same : 0 ≡ end = eqb-true 0 end none in absurd (omega arith))
      | inr found ↦ place_found scn end ws found below
    ]

scn_bound : (prev n : ℕ) (ws : List Span) → IsTimelineFrom prev ws → list_any (λ m. m == n) (map (λ (w : Span). w.scn) ws) ≡ true → n ≤ MAX_SCN
scn_bound prev n [] t found = absurd cc
scn_bound prev n (w ∷ ws) t found =
    elim (or_cases (w.scn == n) (list_any (λ m. m == n) (map (λ (v : Span). v.scn) ws)) found) [
      | inl here ↦ (let same = eqb-true w.scn n here in let bound = t.0.within.scn in omega arith)
      | inr later ↦ scn_bound w.scn n ws t.1 later
    ]

-- a place is an SCN, or 0
pub place_bound : (n : ℕ) (ws : List Span) → IsTimeline ws → is_place n ws ≡ true → n ≤ MAX_SCN
place_bound n ws t place =
    elim (or_cases (0 == n) (list_any (λ m. m == n) (map (λ (w : Span). w.scn) ws)) place) [
      | inl none ↦ (let same : 0 ≡ n = eqb-true 0 n none in omega arith)
      | inr found ↦ scn_bound 0 n ws t found
    ]

-- ---- runs

come_take : (s : Since) (n : ℕ) (ws : List Span) → Come s ws → Come s (take n ws)
come_take s zero ws come = tt
come_take s (suc n) [] come = tt
come_take s (suc n) (w ∷ ws) come = (come.0, come_take (after_window s w) n ws come.1)

all_take : {X : Type 0} (P : X → Type 0) (n : ℕ) (xs : List X) → AllByRecursion P xs → AllByRecursion P (take n xs)
all_take P zero xs each = tt
all_take P (suc n) [] each = tt
all_take P (suc n) (x ∷ xs) each = (each.0, all_take P n xs each.1)

-- the longest run of windows that may come is a reply's
pub longest_is_run : (floor top max : ℕ) (filter : Selection) (w : Span) (ws : List Span) → Come (after_floor floor) (w ∷ ws) → AllByRecursion (IsAskedFor top filter) (w ∷ ws) → span_size w ≤ max
    → IsRun floor top filter (longest_run most_windows max (w ∷ ws))
longest_is_run floor top max filter w ws come each fits =
    let run = longest_run most_windows max (w ∷ ws) in
    let longest = longest_run_is most_windows max (w ∷ ws) in
    record {
      asked = record {
        come = subst (Come (after_floor floor)) (sym longest.front) (come_take (after_floor floor) (length run) (w ∷ ws) come);
        each = subst (AllByRecursion (IsAskedFor top filter)) (sym longest.front) (all_take (IsAskedFor top filter) (length run) (w ∷ ws) each);
        few = longest.few;
      };
      some = subst (λ (x : List Span). 0 < length x) (sym (run_takes most_windows max w ws (omega arith) fits)) (omega arith);
    }

-- ---- what is served

choose : (P : Served → Type 0) (b : Bool) (x y : Served) → (b ≡ true → P x) → (b ≡ false → P y) → P (cond b x y)
choose P true x y held failed = held refl
choose P false x y held failed = failed refl

-- of windows that may come, of which there is one
fitting_serves : (scn max : ℕ) (filter : Selection) (ws : List Span) → Come (after_floor scn) ws → AllByRecursion (IsAskedFor MAX_SCN filter) ws → 0 < length ws → Serves scn filter max (fitting max ws)
fitting_serves scn max filter [] come each some = absurd (omega arith)
fitting_serves scn max filter (w ∷ ws) come each some =
    choose (Serves scn filter max) (ltb max (span_size w)) (TooSmall (span_size w)) (Windows (longest_run most_windows max (w ∷ ws)))
    (λ large. record {
      within = record { number = omega (arith, come.0.within.size) };
      lawful = and_from _ _ large (le-leb (span_size w) MAX_WINDOW come.0.within.size);
    })
    (λ fits. longest_is_run scn MAX_SCN max filter w ws come each (ltb-false max (span_size w) fits))

-- the stream of a timeline up to one of its places answers who asks for it
pub stream_serves : (ws : List Span) (floor end scn : ℕ) (filter : Selection) (max : ℕ) → IsTimeline ws → is_place end ws ≡ true → floor ≤ MAX_SCN → Serves scn filter max (stream ws floor end scn (test_of filter) max)
stream_serves ws floor end scn filter max t place bound =
    let stretch = windows_between scn end ws in
    let left = cuts (test_of filter) stretch in
    choose (Serves scn filter max) (ltb scn floor) (NotFound floor) (cond (leb end scn) (Empty end) (fitting max left))
    (λ gone. record { within = record { number = bound }; lawful = gone })
    (λ held. choose (Serves scn filter max) (leb end scn) (Empty end) (fitting max left)
    (λ none. record { within = record { number = place_bound end ws t place }; lawful = none })
    (λ more. fitting_serves scn max filter left (stretch_comes (test_of filter) scn end ws t) (stretch_is_asked_for filter scn end ws t)
    (omega (arith, place_is_window scn end ws place (leb-false end scn more), length-map stretch (cut (test_of filter))))))

-- what a relay answers is what was asked for
pub relay_serves : (ws : List Span) (r : Relay) (scn : ℕ) (filter : Selection) (max : ℕ) → StandsFor ws r → Serves scn filter max (answer_of r scn (test_of filter) max)
relay_serves ws r scn filter max stands =
    let least = floor_is r.room ws r.tail stands.timeline stands.tail in
    let bound : r.floor ≤ MAX_SCN = subst (λ n. n ≤ MAX_SCN) (sym stands.floor) (place_bound _ ws stands.timeline least.place) in
    subst (Serves scn filter max) (sym (stands_answers ws r scn (test_of filter) max stands)) (stream_serves ws r.floor r.tail scn filter max stands.timeline stands.tail bound)

-- what was asked for is a lawful reply
pub served_is_lawful : (scn : ℕ) (filter : Selection) (max : ℕ) (served : Served) → Serves scn filter max served → IsLawfullyServed (Stream scn filter max) served
served_is_lawful scn filter max (NotFound floor) is = (refl, is)
served_is_lawful scn filter max (Empty end) is = (refl, is)
served_is_lawful scn filter max (TooSmall need) is = (refl, is)
served_is_lawful scn filter max (Windows ws) is = record { windows = ws; spelled = refl; run = is; counted = refl; ends = refl }

-- what a relay answers is a lawful reply
pub relay_is_lawful : (ws : List Span) (r : Relay) (scn : ℕ) (filter : Selection) (max : ℕ) → StandsFor ws r → IsLawfullyServed (Stream scn filter max) (answer_of r scn (test_of filter) max)
relay_is_lawful ws r scn filter max stands = served_is_lawful scn filter max (answer_of r scn (test_of filter) max) (relay_serves ws r scn filter max stands)
