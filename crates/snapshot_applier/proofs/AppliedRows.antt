-- The next windows of a timeline, applied to its table.
use Rattle.std.proofs.Common.{◌≡◌, ℕ, zero, suc, ◌≤◌, cond, ◌&&◌, nat_lt, nat_le, List, [], ◌∷◌, take, flat_map, refl, sym, ap, ◌∙◌, arith}
use Rattle.bus_types.specs.declared.limits.TheConstants.{MAX_SCN}
use Rattle.bus_types.specs.Window.{Span}
use Rattle.bus_types.specs.Timeline.{IsTimelineFrom, IsTimeline, end_from, windows_between}
use Rattle.bus_types.specs.Table.{rows_after, table}
use Rattle.bus_types.proofs.Stretches.{between_cases, between_below, between_above, between_run, run_rises, table_moves}

-- the table at an SCN moves over a run of windows behind it to the run's last SCN
pub table_runs : (scn high most : ℕ) (ws run : List Span) → IsTimeline ws → run ≡ take most (windows_between scn high ws) → rows_after (table ws scn) (flat_map (λ w. w.changes) run) ≡ table ws (end_from scn run)
table_runs scn high most ws run t e =
    ap (λ (stretch : List Span). rows_after (table ws scn) (flat_map (λ w. w.changes) stretch)) (sym (between_run 0 scn high most ws run t e))
    ∙ sym (table_moves ws scn (end_from scn run) t (run_rises 0 scn high most ws run t e))

-- of the windows behind an SCN, those behind a later one
pub between_later : (low mid high : ℕ) (ws : List Span) → low ≤ mid → windows_between mid high (windows_between low high ws) ≡ windows_between mid high ws
between_later low mid high [] h = refl
between_later low mid high (w ∷ ws) h =
    let rest = between_later low mid high ws h in
    between_cases (λ l. windows_between mid high l ≡ windows_between mid high (w ∷ ws)) low high w ws
    (λ l u. ap (λ kept. cond (nat_lt mid w.scn && nat_le w.scn high) (w ∷ kept) kept) rest)
    (λ l. rest ∙ sym (between_below mid high w ws (omega arith)))
    (λ u. rest ∙ sym (between_above mid high w ws u))

-- ---- the SCNs of a timeline are in their range

abbrev AreWithin : List Span → Type 0
AreWithin [] = Unit {0}
AreWithin (w ∷ ws) = (w.scn ≤ MAX_SCN) × AreWithin ws

within_timeline : (prev : ℕ) (ws : List Span) → IsTimelineFrom prev ws → AreWithin ws
within_timeline prev [] t = tt
within_timeline prev (w ∷ ws) t = (t.0.within.scn, within_timeline w.scn ws t.1)

within_between : (low high : ℕ) (ws : List Span) → AreWithin ws → AreWithin (windows_between low high ws)
within_between low high [] h = tt
within_between low high (w ∷ ws) h =
    let rest = within_between low high ws h.1 in
    between_cases AreWithin low high w ws (λ l u. (h.0, rest)) (λ l. rest) (λ u. rest)

within_end : (scn n : ℕ) (ws : List Span) → scn ≤ MAX_SCN → AreWithin ws → end_from scn (take n ws) ≤ MAX_SCN
within_end scn zero ws s h = s
within_end scn (suc n) [] s h = s
within_end scn (suc n) (w ∷ ws) s h = within_end w.scn n ws h.0 h.1

-- so is the last SCN of a run
pub run_end_within : (scn high most : ℕ) (ws : List Span) → IsTimeline ws → scn ≤ MAX_SCN → end_from scn (take most (windows_between scn high ws)) ≤ MAX_SCN
run_end_within scn high most ws t s = within_end scn most (windows_between scn high ws) s (within_between scn high ws (within_timeline 0 ws t))
