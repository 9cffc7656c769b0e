-- Places of a timeline, and the runs of windows that a reply has.
use Rattle.std.proofs.Common.{◌≡◌, ℕ, ◌-◌, ◌≤◌, ◌&&◌, nat_lt, nat_le, true, List, [], ◌∷◌, length, take, refl, sym, ap, subst, ◌∙◌, arith}
use Rattle.std.proofs.lemmas.Bool.{cond_both}
use Rattle.bus_types.specs.Change.{Test, accepted}
use Rattle.bus_types.specs.Window.{Span, span_size}
use Rattle.bus_types.specs.Timeline.{IsTimeline, end_from, end_of, windows_between, changes_between}
use Rattle.bus_types.specs.Cut.{cuts}
use Rattle.bus_types.specs.Relay.{is_place, longest_run}
use Rattle.bus_types.proofs.Stretches.{Rises, between_cases, rises_end, end_from-append, timeline_rises, between_run, run_rises, run_within, changes-cuts, end_from-cuts}
use Rattle.bus_types.proofs.Floors.{parted_at, rises_back}
use Rattle.bus_types.proofs.Runs.{reply_is_cut}
use Rattle.client_switch.specs.Moves.{changes_of}
use Rattle.client_switch.specs.Lawful.{AreAbove}

-- a place of a timeline is at or before its end
pub place_within : (n : ℕ) (ws : List Span) → IsTimeline ws → is_place n ws ≡ true → n ≤ end_of ws
place_within n ws t h =
    let p = parted_at 0 n ws h in
    let rises = subst (Rises 0) (sym p.whole) (timeline_rises 0 ws t) in
    let later = rises_end (end_from 0 p.front) p.back (rises_back 0 p.front p.back rises) in
    let ends : end_from (end_from 0 p.front) p.back ≡ end_of ws = sym (end_from-append 0 p.front p.back) ∙ ap end_of p.whole in
    omega (arith, p.end)

-- a reply's windows: what a filter leaves of the longest run that fits
abbrev pub IsRun : List Span → Test → ℕ → ℕ → ℕ → ℕ → List Span → Type 0
IsRun ws test count most scn end run = run ≡ longest_run count most (cuts test (windows_between scn end ws))

-- how many they are
abbrev many : List Span → Test → ℕ → ℕ → ℕ → ℕ → ℕ
many ws test count most scn end = length (longest_run count most (cuts test (windows_between scn end ws)))

-- the windows in full
abbrev full : List Span → Test → ℕ → ℕ → ℕ → ℕ → List Span
full ws test count most scn end = take (many ws test count most scn end) (windows_between scn end ws)

run_end : (ws : List Span) (test : Test) (count most scn end : ℕ) (run : List Span) → IsRun ws test count most scn end run → end_from scn run ≡ end_from scn (full ws test count most scn end)
run_end ws test count most scn end run e = ap (end_from scn) (e ∙ reply_is_cut test count most scn end ws) ∙ end_from-cuts test scn (full ws test count most scn end)

-- they end at or after the SCN that they follow
pub run_low : (ws : List Span) (test : Test) (count most scn end : ℕ) (run : List Span) → IsTimeline ws → IsRun ws test count most scn end run → scn ≤ end_from scn run
run_low ws test count most scn end run t e =
    let low = run_rises 0 scn end (many ws test count most scn end) ws (full ws test count most scn end) t refl in
    omega (arith, run_end ws test count most scn end run e)

-- and at or before the SCN up to which there are windows
pub run_high : (ws : List Span) (test : Test) (count most scn end : ℕ) (run : List Span) → IsTimeline ws → scn ≤ end → IsRun ws test count most scn end run → end_from scn run ≤ end
run_high ws test count most scn end run t h e =
    let high = run_within 0 scn end (many ws test count most scn end) ws (full ws test count most scn end) t h refl in
    omega (arith, run_end ws test count most scn end run e)

-- each is above the SCN that they follow
between_above : (low high : ℕ) (ws : List Span) → AreAbove low (windows_between low high ws)
between_above low high [] = tt
between_above low high (w ∷ ws) =
    let rest = between_above low high ws in
    between_cases (AreAbove low) low high w ws (λ l u. (l, rest)) (λ l. rest) (λ u. rest)

cuts_above : (test : Test) (scn : ℕ) (ws : List Span) → AreAbove scn ws → AreAbove scn (cuts test ws)
cuts_above test scn [] h = tt
cuts_above test scn (w ∷ ws) h = (h.0, cuts_above test scn ws h.1)

longest_above : (scn count most : ℕ) (ws : List Span) → AreAbove scn ws → AreAbove scn (longest_run count most ws)
longest_above scn count most [] h = tt
longest_above scn count most (w ∷ ws) h =
    let rest = longest_run (count - 1) (most - span_size w) ws in
    cond_both (nat_lt 0 count && nat_le (span_size w) most) (w ∷ rest) [] (AreAbove scn)
    (λ _. (h.0, longest_above scn (count - 1) (most - span_size w) ws h.1)) (λ _. tt)

pub run_above : (ws : List Span) (test : Test) (count most scn end : ℕ) (run : List Span) → IsRun ws test count most scn end run → AreAbove scn run
run_above ws test count most scn end run e =
    let stretch = windows_between scn end ws in
    subst (AreAbove scn) (sym e) (longest_above scn count most (cuts test stretch) (cuts_above test scn stretch (between_above scn end ws)))

-- their changes are the accepted ones up to their last SCN
pub run_changes : (ws : List Span) (test : Test) (count most scn end : ℕ) (run : List Span) → IsTimeline ws → IsRun ws test count most scn end run → changes_of run ≡ accepted test (changes_between scn (end_from scn run) ws)
run_changes ws test count most scn end run t e =
    let front = full ws test count most scn end in
    ap changes_of (e ∙ reply_is_cut test count most scn end ws) ∙ changes-cuts test front
    ∙ ap (λ (stretch : List Span). accepted test (changes_of stretch)) (sym (between_run 0 scn end (many ws test count most scn end) ws front t refl))
    ∙ ap (λ n. accepted test (changes_between scn n ws)) (sym (run_end ws test count most scn end run e))
