-- The entries of a range, gathered one after the other, and the answer that they are.
use Rattle.std.proofs.Common.{◌≡◌, ℕ, zero, suc, ◌+◌, ◌-◌, ◌<◌, ◌≤◌, inl, inr, nat_lt, List, [], ◌∷◌, ◌++◌, length, take, drop, Option, Some, None, refl, sym, ap, subst, ◌∙◌, arith}
use Rattle.std.specs.List.{slice_get}
use Rattle.std.proofs.lemmas.Bool.{cond-true, cond-false, lt-ltb, le-ltb, cases_lt}
use Rattle.std.proofs.lemmas.List.{drop_more, length-map, length-drop, length-take-le}
use Rattle.std.proofs.lemmas.Option.{slice_get_within, get_or_from_slice_get}
use Rattle.bus_types.specs.Change.{Test}
use Rattle.bus_types.specs.Window.{Span, span_size}
use Rattle.bus_types.specs.Timeline.{total_size}
use Rattle.bus_types.specs.Cut.{cut, cuts}
use Rattle.bus_types.specs.Relay.{NotFound, Empty, TooSmall, Windows, fitting, longest_run, IsLongestRun}
use Rattle.bus_types.proofs.Runs.{only_run, run_ends}
use Rattle.bus_types.proofs.Stretches.{take-cuts}
use Rattle.ring_cells.specs.Entries.{Held, IsAt, IsEntry}
use Rattle.bus_types.specs.Timeline.{IsTold}
use Rattle.range_ring.specs.Belonging.{PassIs}
use Rattle.range_ring.specs.Answering.{windows_from, IsFirst, IsMissed, IsLawful}
use Rattle.range_ring.specs.declared.first.Miss.TheVariants as misses
use Rattle.range_ring.proofs.Answering.{found, missed}
use Rattle.range_ring.proofs.Lending.{as_many}
use Rattle.range_ring.specs.Ranges.{RangeIs, Holds, HoldAll, IsRange, IsGathered, IsSmall, IsAnswer}

-- ---- entries

-- the entry of a position holds its window
holds : (told : Option (List Span)) (e : Held) (h : IsEntry told e) (position : ℕ) → e.position ≡ position → Holds told position e h.window
holds told e h position is = record { place = is; within = h.within; spelled = h.spelled; told = subst (λ (n : ℕ). IsAt told n h.window) is h.told }

-- one entry more
hold_more : (told : Option (List Span)) (position : ℕ) (es : List Held) (ws : List Span) (e : Held) (w : Span) → HoldAll told position es ws → Holds told (position + length es) e w → HoldAll told position (es ++ e ∷ []) (ws ++ w ∷ [])
hold_more told position [] [] e w h more = (subst (λ (n : ℕ). Holds told n e w) (omega arith) more, tt)
hold_more told position [] (v ∷ ws) e w h more = absurd h
hold_more told position (d ∷ es) [] e w h more = absurd h
hold_more told position (d ∷ es) (v ∷ ws) e w h more = (h.0, hold_more told (position + 1) es ws e w h.1 (subst (λ (n : ℕ). Holds told n e w) (omega arith) more))

total_more : (test : Test) (ws : List Span) (w : Span) → total_size (cuts test (ws ++ w ∷ [])) ≡ total_size (cuts test ws) + span_size (cut test w)
total_more test [] w = omega arith
total_more test (v ∷ ws) w = let rest = total_more test ws w in omega arith

length_more : {X : Type 0} (xs : List X) (x : X) → length (xs ++ x ∷ []) ≡ length xs + 1
length_more [] x = refl
length_more (y ∷ xs) x = let rest = length_more xs x in omega arith

-- ---- what is gathered so far

pub record Grows {F : Type 0} (told : Option (List Span)) (first published : ℕ) (test : Test) (max : ℕ) (filter : F) (range : RangeIs F) (next : ℕ) : Type 0 where
  pub windows : List Span
  pub is : IsRange told first test max range.entries range.size windows
  pub kept : range.filter ≡ filter
  pub at : next ≡ first + length range.entries
  pub within : next ≤ published

pub begins : {F : Type 0} (told : Option (List Span)) (published : ℕ) (test : Test) (max size : ℕ) (filter : F) (range : RangeIs F) (next : ℕ) (e : Held) (h : IsEntry told e) → next ≡ e.position + 1 → e.position < published → size ≡ span_size (cut test h.window) → size ≤ max → range ≡ record { filter = filter; entries = e ∷ []; size = size } → Grows told e.position published test max filter range next
begins told published test max size filter range next e h is_next before is fits made =
    subst (λ r. Grows told e.position published test max filter r next) (sym made) (record {
      windows = h.window ∷ [];
      is = record { holds = (holds told e h e.position refl, tt); total = omega arith; some = omega arith; few = omega arith; fits = fits };
      kept = refl;
      at = is_next;
      within = omega arith;
    })

pub grows_on : {F : Type 0} (told : Option (List Span)) (first published : ℕ) (test : Test) (max more : ℕ) (filter : F) (old new : RangeIs F) (next : ℕ) (e : Held) (h : IsEntry told e) → Grows told first published test max filter old next → length old.entries < 32 → next < published → e.position ≡ next → more ≡ span_size (cut test h.window) → more ≤ max - old.size → new ≡ record old { entries = old.entries ++ e ∷ []; size = old.size + more } → Grows told first published test max filter new (next + 1)
grows_on told first published test max more filter old new next e h g few before place is fits made =
    let longer = length_more old.entries e in
    let total = total_more test g.windows h.window in
    let was = g.is.total in
    let small = g.is.fits in
    let at = g.at in
    subst (λ r. Grows told first published test max filter r (next + 1)) (sym made) (record {
      windows = g.windows ++ h.window ∷ [];
      is = record {
        holds = hold_more told first old.entries g.windows e h.window g.is.holds (holds told e h (first + length old.entries) (place ∙ g.at));
        total = omega arith;
        some = omega arith;
        few = omega arith;
        fits = omega arith;
      };
      kept = g.kept;
      at = omega arith;
      within = omega arith;
    })

pub ends_large : {F : Type 0} (told : Option (List Span)) (first published : ℕ) (test : Test) (max more : ℕ) (filter : F) (range : RangeIs F) (next : ℕ) (e : Held) (h : IsEntry told e) → Grows told first published test max filter range next → e.position ≡ next → more ≡ span_size (cut test h.window) → max - range.size < more → IsGathered told first published test max range.entries range.size
ends_large told first published test max more filter range next e h g place is large =
    let at = g.at in
    let within = g.within in
    let fits = g.is.fits in
    record {
      windows = g.windows;
      range = g.is;
      within = omega arith;
      longest = λ few before. record { window = h.window; told = subst (λ (n : ℕ). IsAt told n h.window) (place ∙ g.at) h.told; large = omega arith };
    }

pub ends_full : {F : Type 0} (told : Option (List Span)) (first published : ℕ) (test : Test) (max : ℕ) (filter : F) (range : RangeIs F) (next : ℕ) → Grows told first published test max filter range next → (length range.entries < 32 → next < published → ⊥) → IsGathered told first published test max range.entries range.size
ends_full told first published test max filter range next g none =
    let at = g.at in
    let within = g.within in
    record {
      windows = g.windows;
      range = g.is;
      within = omega arith;
      longest = λ few before. absurd (none few (omega arith));
    }

-- ---- the answer

-- windows stand one after the other in a list
abbrev StandFrom : List Span → ℕ → List Span → Type 0
StandFrom us place [] = Unit {0}
StandFrom us place (w ∷ ws) = (slice_get us place ≡ Some w) × StandFrom us (place + 1) ws

stand_more : (us : List Span) (place : ℕ) (ws : List Span) (w : Span) → StandFrom us place ws → slice_get us (place + length ws) ≡ Some w → StandFrom us place (ws ++ w ∷ [])
stand_more us place [] w h more = (subst (λ (n : ℕ). slice_get us n ≡ Some w) (omega arith) more, tt)
stand_more us place (v ∷ ws) w h more = (h.0, stand_more us (place + 1) ws w h.1 (subst (λ (n : ℕ). slice_get us n ≡ Some w) (omega arith) more))

stand_front : (us : List Span) (place : ℕ) (ws : List Span) → StandFrom us place ws → ws ≡ take (length ws) (drop place us)
stand_front us place [] h = refl
stand_front us place (w ∷ ws) h =
    let head : drop place us ≡ w ∷ drop (place + 1) us = drop_more us place w (slice_get_within us place w h.0) ∙ ap (λ (v : Span). v ∷ drop (place + 1) us) (get_or_from_slice_get us place w w h.0) in
    ap (λ (vs : List Span). w ∷ vs) (stand_front us (place + 1) ws h.1) ∙ ap (take (suc (length ws))) (sym head)

get_take : (n : ℕ) (us : List Span) (place : ℕ) → place < n → slice_get (take n us) place ≡ slice_get us place
get_take zero us place b = absurd (omega arith)
get_take (suc n) [] place b = refl
get_take (suc n) (u ∷ us) zero b = refl
get_take (suc n) (u ∷ us) (suc place) b = get_take n us place (omega arith)

stand_up_to : (us : List Span) (past place : ℕ) (es : List Held) (ws : List Span) → HoldAll (Some us) place es ws → place + length es ≤ past → StandFrom (take past us) place ws
stand_up_to us past place [] [] h within = tt
stand_up_to us past place [] (w ∷ ws) h within = absurd h
stand_up_to us past place (e ∷ es) [] h within = absurd h
stand_up_to us past place (e ∷ es) (w ∷ ws) h within = (get_take past us place (omega arith) ∙ h.0.told, stand_up_to us past (place + 1) es ws h.1 (omega arith))

-- all of them are a front of those that could come
front_is : (us : List Span) (test : Test) (past place : ℕ) (ws : List Span) → StandFrom (take past us) place ws → cuts test ws ≡ take (length ws) (cuts test (windows_from us place past))
front_is us test past place ws h = ap (cuts test) (stand_front (take past us) place ws h) ∙ sym (take-cuts test (length ws) (windows_from us place past))

longest_is : (us : List Span) (test : Test) (place past max : ℕ) (es : List Held) (size : ℕ) → (g : IsGathered (Some us) place past test max es size) → past ≤ length us → IsLongestRun 32 max (cuts test (windows_from us place past)) (cuts test g.windows)
longest_is us test place past max es size g end =
    let count = as_many (Some us) place es g.windows g.range.holds in
    let same : length (cuts test g.windows) ≡ length g.windows = length-map g.windows (cut test) in
    let stands = stand_up_to us past place es g.windows g.range.holds g.within in
    let all = cuts test (windows_from us place past) in
    let fits = g.range.fits in
    let total = g.range.total in
    let few = g.range.few in
    record {
      front = front_is us test past place g.windows stands ∙ ap (λ (n : ℕ). take n all) (sym same);
      few = omega arith;
      fits = omega arith;
      longest = λ more fewer.
          let left : length all ≡ past - place = length-map (windows_from us place past) (cut test) ∙ length-drop place (take past us) ∙ ap (λ (n : ℕ). n - place) (length-take-le past us end) in
          let next = g.longest (omega arith) (omega arith) in
          let there : slice_get (take past us) (place + length g.windows) ≡ Some next.window = get_take past us (place + length g.windows) (omega arith) ∙ ap (λ (n : ℕ). slice_get us (place + n)) (sym count) ∙ next.told in
          let longer = front_is us test past place (g.windows ++ next.window ∷ []) (stand_more (take past us) place g.windows next.window stands there) in
          let length_is : length (g.windows ++ next.window ∷ []) ≡ length (cuts test g.windows) + 1 = length_more g.windows next.window ∙ ap (λ (n : ℕ). n + 1) (sym same) in
          let sum = total_more test g.windows next.window in
          let whole : total_size (cuts test (g.windows ++ next.window ∷ [])) ≡ total_size (take (length (cuts test g.windows) + 1) all) = ap total_size longer ∙ ap (λ (n : ℕ). total_size (take n all)) length_is in
          let large = next.large in
          omega arith;
    }

-- a first cut that fits
fitting_runs : (max : ℕ) (all ws : List Span) → ws ≡ longest_run 32 max all → 0 < length ws → fitting max all ≡ Windows ws
fitting_runs max [] ws is some = absurd (omega (arith, ap length is))
fitting_runs max (c ∷ cs) ws is some =
    elim (cases_lt max (span_size c)) [
      | inl large ↦ absurd (omega (arith, ap length (is ∙ run_ends 32 max c cs large)))
      | inr fits ↦ cond-false (nat_lt max (span_size c)) _ _ (le-ltb max (span_size c) fits) ∙ ap Windows (sym is)
    ]

pub gathered_is : (us : List Span) (test : Test) (place past max : ℕ) (es : List Held) (size : ℕ) → (g : IsGathered (Some us) place past test max es size) → past ≤ length us → fitting max (cuts test (windows_from us place past)) ≡ Windows (cuts test g.windows)
gathered_is us test place past max es size g end =
    let count = as_many (Some us) place es g.windows g.range.holds in
    let same : length (cuts test g.windows) ≡ length g.windows = length-map g.windows (cut test) in
    let some = g.range.some in
    let all = cuts test (windows_from us place past) in
    fitting_runs max all (cuts test g.windows) (only_run 32 max all (cuts test g.windows) (longest_is us test place past max es size g end)) (omega arith)

pub small_is : (us : List Span) (test : Test) (place past max need : ℕ) → IsSmall (Some us) place test max need → place < past → fitting max (cuts test (windows_from us place past)) ≡ TooSmall need
small_is us test place past max need s before =
    let there : slice_get (take past us) place ≡ Some s.window = get_take past us place before ∙ s.told in
    let head : windows_from us place past ≡ s.window ∷ drop (place + 1) (take past us) =
    drop_more (take past us) place s.window (slice_get_within (take past us) place s.window there) ∙ ap (λ (v : Span). v ∷ drop (place + 1) (take past us)) (get_or_from_slice_get (take past us) place s.window s.window there) in
    let size = s.size in
    let large = s.large in
    ap (λ (ws : List Span). fitting max (cuts test ws)) head ∙ cond-true (nat_lt max (span_size (cut test s.window))) _ _ (lt-ltb max (span_size (cut test s.window)) (omega arith)) ∙ ap TooSmall (sym size)

-- ---- what a pass opens

pub opens_range : {F : Type 0} (told : Option (List Span)) (pass : PassIs) (scn : ℕ) (test : Test) (max : ℕ) (filter : F) (range : RangeIs F) (e : Held) → IsTold told → IsLawful told pass → IsFirst told pass.evicted pass.published scn e → range.filter ≡ filter → IsGathered told e.position pass.published test max range.entries range.size → (range.filter ≡ filter) × ((position : ℕ) × (windows : List Span) × IsRange told position test max range.entries range.size windows × IsAnswer told pass scn test max (Windows (cuts test windows)))
opens_range None pass scn test max filter range e t lawful first kept g = (kept, (e.position, g.windows, g.range, tt))
opens_range (Some ws) pass scn test max filter range e t lawful first kept g = (kept, (e.position, g.windows, g.range, sym (found ws pass.evicted pass.published scn e test max t lawful.seen.0 first ∙ gathered_is ws test e.position pass.published max range.entries range.size g lawful.seen.0)))

pub opens_small : (told : Option (List Span)) (pass : PassIs) (scn : ℕ) (test : Test) (max need : ℕ) (e : Held) → IsTold told → IsLawful told pass → IsFirst told pass.evicted pass.published scn e → IsSmall told e.position test max need → (max < need) × IsAnswer told pass scn test max (TooSmall need)
opens_small None pass scn test max need e t lawful first s = (s.large, tt)
opens_small (Some ws) pass scn test max need e t lawful first s = (s.large, sym (found ws pass.evicted pass.published scn e test max t lawful.seen.0 first ∙ small_is ws test e.position pass.published max need s first.high))

in_order : (told : Option (List Span)) (pass : PassIs) → IsLawful told pass → pass.evicted ≤ pass.published
in_order told pass lawful = elim lawful.some [
  | inl some ↦ omega arith
  | inr none ↦ (let gone = none.0 in let come = none.1 in omega arith)
]

pub opens_not_found : (told : Option (List Span)) (pass : PassIs) (scn : ℕ) (test : Test) (max floor : ℕ) → IsTold told → IsLawful told pass → IsMissed told pass.evicted pass.published scn (misses.NotFound floor) → (scn < floor) × IsAnswer told pass scn test max (NotFound floor)
opens_not_found None pass scn test max floor t lawful h = (h.0, tt)
opens_not_found (Some ws) pass scn test max floor t lawful h = (h.0, sym (missed ws pass.evicted pass.published scn (misses.NotFound floor) test max t (in_order (Some ws) pass lawful) h))

pub opens_empty : (told : Option (List Span)) (pass : PassIs) (scn : ℕ) (test : Test) (max tail : ℕ) → IsTold told → IsLawful told pass → IsMissed told pass.evicted pass.published scn (misses.Empty tail) → (tail ≤ scn) × IsAnswer told pass scn test max (Empty tail)
opens_empty None pass scn test max tail t lawful h = (h.0, tt)
opens_empty (Some ws) pass scn test max tail t lawful h = (h.0, sym (missed ws pass.evicted pass.published scn (misses.Empty tail) test max t (in_order (Some ws) pass lawful) h))
