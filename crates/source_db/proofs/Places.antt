-- Places in a timeline against SCNs: what a binary search finds, and the last window.
use Rattle.std.proofs.Common.{◌≡◌, ℕ, zero, suc, ◌+◌, ◌-◌, ◌<◌, ◌≤◌, true, false, leb, List, [], ◌∷◌, Some, length, take, drop, refl, sym, ap, ◌∙◌, arith, inl, inr}
use Rattle.std.specs.List.{slice_get}
use Rattle.std.specs.List.Sorted.{IsPartitionPoint}
use Rattle.std.proofs.lemmas.Bool.{leb-true, leb-false, cases_lt}
use Rattle.std.proofs.lemmas.List.{drop-take, take_rest, length-append}
use Rattle.std.proofs.Math.Seq.{drop-length}
use Rattle.std.proofs.lemmas.Option.{same_Some, slice_get_within}
use Rattle.bus_types.specs.Window.{Span}
use Rattle.bus_types.specs.Timeline.{IsTimeline, end_from, end_of, windows_between}
use Rattle.bus_types.proofs.Stretches.{Rises, between_in, between_above, rises_before, between_is_part, between_all, between_none, between-split}

-- the place that parts the windows at or below an SCN from those above it is their number
pub place_is : (prev : ℕ) (ws : List Span) (scn i : ℕ) → Rises prev ws → i ≤ length ws → IsPartitionPoint (λ (w : Span). leb w.scn scn ≡ true) (λ (w : Span). leb w.scn scn ≡ false) ws i → i ≡ length (windows_between 0 scn ws)
place_is prev [] scn i r le p = omega arith
place_is prev (w ∷ ws) scn zero r le p =
    let above : scn < w.scn = leb-false w.scn scn (p.1 0 w (omega arith) (omega arith)) in
    sym (ap (λ (l : List Span). length l) (between_above 0 scn w ws above ∙ rises_before w.scn 0 scn ws r.1 (omega arith)))
place_is prev (w ∷ ws) scn (suc i) r le p =
    let within : w.scn ≤ scn = leb-true w.scn scn (p.0 0 w (omega arith) (omega arith)) in
    let positive : 0 < w.scn = (let first = r.0 in omega arith) in
    let rest = place_is w.scn ws scn i r.1 (omega arith) (λ k d low high. p.0 (suc k) d (omega arith) (omega arith), λ k d low high. p.1 (suc k) d (omega arith) (omega arith)) in
    ap suc rest ∙ sym (ap (λ (l : List Span). length l) (between_in 0 scn w ws positive within))

-- windows without one end where they begin
pub end_from-none : (prev : ℕ) (ws : List Span) → length ws ≤ 0 → end_from prev ws ≡ prev
end_from-none prev [] e = refl
end_from-none prev (w ∷ ws) e = absurd (omega arith)

last_at : (prev : ℕ) (ws : List Span) (i : ℕ) (w : Span) → slice_get ws i ≡ Some w → i + 1 ≡ length ws → end_from prev ws ≡ w.scn
last_at prev [] i w e l = absurd cc
last_at prev (v ∷ ws) zero w e l = end_from-none v.scn ws (omega arith) ∙ ap (λ (u : Span). u.scn) (same_Some v w e)
last_at prev (v ∷ ws) (suc i) w e l = last_at v.scn ws i w e (omega arith)

-- the end of windows is the SCN of the last one
pub end_from-last : (prev : ℕ) (ws : List Span) (w : Span) → slice_get ws (length ws - 1) ≡ Some w → end_from prev ws ≡ w.scn
end_from-last prev ws w e =
    let within = slice_get_within ws (length ws - 1) w e in
    last_at prev ws (length ws - 1) w e (omega arith)

-- of two SCNs the higher one has no fewer windows at or below it
pub places_rise : (low high : ℕ) (ws : List Span) → IsTimeline ws → low ≤ high → length (windows_between 0 low ws) ≤ length (windows_between 0 high ws)
places_rise low high ws t le =
    let split = ap (λ (l : List Span). length l) (between-split 0 0 low high ws t (omega arith) le) ∙ length-append (windows_between 0 low ws) (windows_between low high ws) in
    omega (arith, split)

-- the part between two places is the windows between the two SCNs
pub part_is : (low high p q : ℕ) (ws : List Span) → IsTimeline ws → low ≤ high → p ≡ length (windows_between 0 low ws) → q ≡ length (windows_between 0 high ws) → take (q - p) (drop p ws) ≡ windows_between low high ws
part_is low high p q ws t le p-is q-is =
    let rise : p ≤ q = (let r = places_rise low high ws t le in omega arith) in
    let whole : p + (q - p) ≡ q = omega arith in
    sym (drop-take p (q - p) ws) ∙ ap (λ n. drop p (take n ws)) whole ∙ (λ i. drop (p-is i) (take (q-is i) ws)) ∙ sym (between_is_part 0 low high ws t le)

-- the part from a place on is the windows above the SCN
pub rest_is : (scn p : ℕ) (ws : List Span) → IsTimeline ws → p ≡ length (windows_between 0 scn ws) → take (length ws - p) (drop p ws) ≡ windows_between scn (end_of ws) ws
rest_is scn p ws t p-is =
    elim (cases_lt (end_of ws) scn) [
      | inl past ↦
          let all = ap (λ (l : List Span). length l) (between_all 0 0 scn ws t (omega arith) (omega arith)) in
          let none : p ≡ length ws = p-is ∙ all in
          take_rest ws p ∙ ap (λ n. drop n ws) none ∙ drop-length ws ∙ sym (between_none scn (end_of ws) ws (omega arith))
      | inr le ↦
          let all = ap (λ (l : List Span). length l) (between_all 0 0 (end_of ws) ws t (omega arith) (omega arith)) in
          part_is scn (end_of ws) p (length ws) ws t le p-is (sym all)
    ]
