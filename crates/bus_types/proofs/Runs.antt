-- A reply's windows are the longest run that fits, and the only one.
use Rattle.std.proofs.Common.{◌≡◌, ℕ, suc, ◌+◌, ◌-◌, ◌<◌, ◌≤◌, ◌↔◌, inl, inr, ◌&&◌, nat_lt, nat_le, List, [], ◌∷◌, length, take, flat_map, refl, sym, ap, subst, ◌∙◌, arith}
use Rattle.std.proofs.lemmas.List.{take_all}
use Rattle.std.proofs.lemmas.Bool.{cond-true, cond-false, and_from, and_left, and_right, lt-ltb, le-ltb, le-leb, lt-leb, cases_lt}
use Rattle.bus_types.specs.Change.{Test}
use Rattle.bus_types.specs.Window.{Span, span_size}
use Rattle.bus_types.specs.Timeline.{IsTimeline, end_from, windows_between, total_size}
use Rattle.bus_types.specs.Table.{rows_after}
use Rattle.bus_types.specs.View.{view}
use Rattle.bus_types.specs.Cut.{cuts}
use Rattle.bus_types.specs.Relay.{longest_run, IsLongestRun}
use Rattle.bus_types.proofs.Stretches.{take-cuts, end_from-cuts, view_runs}

-- a first window that fits is in the run
pub run_takes : (count max : ℕ) (w : Span) (ws : List Span) → 0 < count → span_size w ≤ max → longest_run count max (w ∷ ws) ≡ w ∷ longest_run (count - 1) (max - span_size w) ws
run_takes count max w ws c m = cond-true (nat_lt 0 count && nat_le (span_size w) max) _ _ (and_from _ _ (lt-ltb 0 count c) (le-leb (span_size w) max m))

-- a count of 0 leaves no window
pub run_full : (count max : ℕ) (w : Span) (ws : List Span) → count ≤ 0 → longest_run count max (w ∷ ws) ≡ []
run_full count max w ws c = cond-false (nat_lt 0 count && nat_le (span_size w) max) _ _ (and_left _ _ (le-ltb 0 count c))

-- a first window that is too large ends the run
pub run_ends : (count max : ℕ) (w : Span) (ws : List Span) → max < span_size w → longest_run count max (w ∷ ws) ≡ []
run_ends count max w ws m = cond-false (nat_lt 0 count && nat_le (span_size w) max) _ _ (and_right _ _ (lt-leb (span_size w) max m))

none_is : (count max : ℕ) (w : Span) (ws : List Span) → (0 < count → max < span_size w) → IsLongestRun count max (w ∷ ws) []
none_is count max w ws h = record {
  front = refl;
  few = omega arith;
  fits = omega arith;
  longest = λ l c. let large = h c in omega arith;
}

size_more : (n : ℕ) (w : Span) (ws : List Span) → total_size (take (suc n + 1) (w ∷ ws)) ≡ span_size w + total_size (take (n + 1) ws)
size_more n w ws =
    let next : suc n + 1 ≡ suc (n + 1) = omega arith in
    ap (λ k. total_size (take k (w ∷ ws))) next

more_is : (count max : ℕ) (w : Span) (ws run : List Span) → 0 < count → span_size w ≤ max → IsLongestRun (count - 1) (max - span_size w) ws run → IsLongestRun count max (w ∷ ws) (w ∷ run)
more_is count max w ws run c m h =
    record {
      front = ap (λ rest. w ∷ rest) h.front;
      few = omega (arith, h.few);
      fits = omega (arith, h.fits);
      longest = λ l k. let large = h.longest (omega arith) (omega arith) in omega (arith, size_more (length run) w ws);
    }

more_back : (count max : ℕ) (w : Span) (ws run : List Span) → IsLongestRun count max (w ∷ ws) (w ∷ run) → IsLongestRun (count - 1) (max - span_size w) ws run
more_back count max w ws run h = record {
  front = cc (h.front);
  few = omega (arith, h.few);
  fits = omega (arith, h.fits);
  longest = λ l k. let large = h.longest (omega arith) (omega arith) in omega (arith, size_more (length run) w ws);
}

-- the longest run is one
pub longest_run_is : (count max : ℕ) (ws : List Span) → IsLongestRun count max ws (longest_run count max ws)
longest_run_is count max [] = record { front = refl; few = omega arith; fits = omega arith; longest = λ l c. absurd (omega arith) }
longest_run_is count max (w ∷ ws) =
    elim (cases_lt 0 count) [
      | inl c ↦ elim (cases_lt max (span_size w)) [
        | inl m ↦ subst (IsLongestRun count max (w ∷ ws)) (sym (run_ends count max w ws m)) (none_is count max w ws (λ _. m))
        | inr m ↦ subst (IsLongestRun count max (w ∷ ws)) (sym (run_takes count max w ws c m)) (more_is count max w ws _ c m (longest_run_is (count - 1) (max - span_size w) ws))
      ]
      | inr c ↦ subst (IsLongestRun count max (w ∷ ws)) (sym (run_full count max w ws c)) (none_is count max w ws (λ k. absurd (omega arith)))
    ]

-- there is no other
pub only_run : (count max : ℕ) (ws run : List Span) → IsLongestRun count max ws run → run ≡ longest_run count max ws
only_run count max [] run h = h.front ∙ take_all (length run) [] (omega arith)
only_run count max (w ∷ ws) [] h =
    elim (cases_lt 0 count) [
      | inl c ↦ let large = h.longest (omega arith) c in sym (run_ends count max w ws (omega arith))
      | inr c ↦ sym (run_full count max w ws c)
    ]
only_run count max (w ∷ ws) (v ∷ run) h =
    let same : v ≡ w = cc (h.front) in
    let moved = subst (λ u. IsLongestRun count max (w ∷ ws) (u ∷ run)) same h in
    let few : suc (length run) ≤ count = moved.few in
    let fits : span_size w + total_size run ≤ max = moved.fits in
    (λ i. same i ∷ only_run (count - 1) (max - span_size w) ws run (more_back count max w ws run moved) i)
    ∙ sym (run_takes count max w ws (omega arith) (omega arith))

-- a run is the longest exactly where it is what the recursion gives
pub longest_run_exact : (count max : ℕ) (ws run : List Span) → IsLongestRun count max ws run ↔ (run ≡ longest_run count max ws)
longest_run_exact count max ws run = (only_run count max ws run, λ e. subst (IsLongestRun count max ws) (sym e) (longest_run_is count max ws))

-- a reply's windows are what a filter leaves of a front of those asked for
pub reply_is_cut : (test : Test) (count max scn end : ℕ) (ws : List Span) → longest_run count max (cuts test (windows_between scn end ws)) ≡ cuts test (take (length (longest_run count max (cuts test (windows_between scn end ws)))) (windows_between scn end ws))
reply_is_cut test count max scn end ws =
    let stretch = windows_between scn end ws in
    let reply = longest_run count max (cuts test stretch) in
    (longest_run_is count max (cuts test stretch)).front ∙ take-cuts test (length reply) stretch

-- a view moves over a reply's windows to the reply's last SCN
pub view_replies : (test : Test) (count max scn end : ℕ) (ws reply : List Span) → IsTimeline ws → reply ≡ longest_run count max (cuts test (windows_between scn end ws)) → rows_after (view test ws scn) (flat_map (λ w. w.changes) reply) ≡ view test ws (end_from scn reply)
view_replies test count max scn end ws reply t e =
    let run = take (length (longest_run count max (cuts test (windows_between scn end ws)))) (windows_between scn end ws) in
    let cut_run = e ∙ reply_is_cut test count max scn end ws in
    ap (λ (found : List Span). rows_after (view test ws scn) (flat_map (λ w. w.changes) found)) cut_run
    ∙ view_runs test scn end _ ws run t refl
    ∙ ap (view test ws) (sym (ap (end_from scn) cut_run ∙ end_from-cuts test scn run))
