-- Places in windows that rise: where a binary search finds the windows after an SCN.
use Rattle.std.proofs.Common.{◌≡◌, ℕ, zero, suc, ◌<◌, ◌≤◌, true, false, leb, List, [], ◌∷◌, length, get_or, drop, refl, sym, ◌∙◌, arith}
use Rattle.std.specs.List.Sorted.{IsNonDecreasingBy, IsPartitionPoint}
use Rattle.std.proofs.lemmas.Bool.{leb-true, leb-false}
use Rattle.bus_types.specs.Window.{Span}
use Rattle.bus_types.specs.Timeline.{end_from, windows_between}
use Rattle.bus_types.proofs.Stretches.{Rises, rises_end, rises_all, between_below}

-- each rising window is above the SCN before them
rises_at : (prev : ℕ) (ws : List Span) (j : ℕ) (d : Span) → Rises prev ws → j < length ws → prev < (get_or ws j d).scn
rises_at prev [] j d r lt = absurd (omega arith)
rises_at prev (w ∷ ws) zero d r lt = r.0
rises_at prev (w ∷ ws) (suc j) d r lt =
    let rest = rises_at w.scn ws j d r.1 (omega arith) in
    let first = r.0 in
    omega arith

-- the SCNs of rising windows don't fall
pub rises_in_order : (prev : ℕ) (ws : List Span) → Rises prev ws → IsNonDecreasingBy (λ w. w.scn) ws
rises_in_order prev [] r i j d le lt = absurd (omega arith)
rises_in_order prev (w ∷ ws) r zero zero d le lt = omega arith
rises_in_order prev (w ∷ ws) r zero (suc j) d le lt =
    let later = rises_at w.scn ws j d r.1 (omega arith) in
    omega arith
rises_in_order prev (w ∷ ws) r (suc i) zero d le lt = absurd (omega arith)
rises_in_order prev (w ∷ ws) r (suc i) (suc j) d le lt = rises_in_order w.scn ws r.1 i j d (omega arith) (omega arith)

-- the windows behind the place that parts those at or below an SCN from those above it are the windows after the SCN
pub drop_place : (prev scn : ℕ) (ws : List Span) (i : ℕ) → Rises prev ws → IsPartitionPoint (λ (w : Span). leb w.scn scn ≡ true) (λ (w : Span). leb w.scn scn ≡ false) ws i → drop i ws ≡ windows_between scn (end_from prev ws) ws
drop_place prev scn [] zero r p = refl
drop_place prev scn [] (suc i) r p = refl
drop_place prev scn (w ∷ ws) zero r p =
    let above : scn < w.scn = leb-false w.scn scn (p.1 0 w (omega arith) (omega arith)) in
    let ends = rises_end w.scn ws r.1 in
    sym (rises_all scn scn (end_from w.scn ws) (w ∷ ws) (above, r.1) (omega arith) (omega arith))
drop_place prev scn (w ∷ ws) (suc i) r p =
    let within : w.scn ≤ scn = leb-true w.scn scn (p.0 0 w (omega arith) (omega arith)) in
    let rest = drop_place w.scn scn ws i r.1 (λ k d low high. p.0 (suc k) d (omega arith) (omega arith), λ k d low high. p.1 (suc k) d (omega arith) (omega arith)) in
    rest ∙ sym (between_below scn (end_from w.scn ws) w ws within)
