-- Windows that a relay publishes one after the other.
use Rattle.std.proofs.Common.{◌≡◌, ℕ, suc, ◌<◌, ◌≤◌, List, [], ◌∷◌, ◌++◌, length, get_or, take, Some, refl, sym, ap, ◌∙◌, add-one, arith}
use Rattle.std.specs.List.{slice_get}
use Rattle.std.proofs.lemmas.List.{take_more, take-take, append_cancel_left}
use Rattle.std.proofs.lemmas.Option.{slice_get_read}
use Rattle.bus_types.specs.Window.{Span}
use Rattle.bus_types.specs.Timeline.{IsTimeline, IsTimelineFrom, end_from, end_of, windows_between}
use Rattle.bus_types.proofs.Stretches.{between_run, between-split, follows_at, end_at, run_rises}

-- of windows that stand next in a timeline behind its windows up to a tail, the one at a place stands alone between the end
-- of those before it and its own SCN
pub next_is : (ws : List Span) (tail i : ℕ) (windows : List Span) (w : Span) → IsTimeline ws → IsTimelineFrom tail windows → windows ≡ take (length windows) (windows_between tail (end_of ws) ws) → i < length windows → w ≡ get_or windows i w → windows_between (end_from tail (take i windows)) w.scn ws ≡ w ∷ []
next_is ws tail i windows w t c e lt is =
    let stretch : List Span = windows_between tail (end_of ws) ws in
    let front : (k : ℕ) → k ≤ length windows → take k windows ≡ take k stretch = λ k le. ap (λ (l : List Span). take k l) e ∙ take-take k (length windows) stretch le in
    let at : slice_get windows i ≡ Some w = slice_get_read windows (length windows) i w refl lt is in
    let follows = follows_at tail i windows w c at in
    let before = between_run 0 tail (end_of ws) i ws (take i windows) t (front i (omega arith)) in
    let upto = between_run 0 tail (end_of ws) (suc i) ws (take (suc i) windows) t (front (suc i) (omega arith)) in
    let last : end_from tail (take (suc i) windows) ≡ w.scn = end_at tail i windows w at in
    let low = run_rises 0 tail (end_of ws) i ws (take i windows) t (front i (omega arith)) in
    let chained = follows.chained in
    let above = follows.within.prev in
    let high : end_from tail (take i windows) ≤ w.scn = omega arith in
    let split = between-split 0 tail (end_from tail (take i windows)) w.scn ws t low high in
    let more : take (suc i) windows ≡ take i windows ++ w ∷ [] = ap (λ (n : ℕ). take n windows) (sym (add-one i)) ∙ take_more windows i w lt ∙ ap (λ (v : Span). take i windows ++ v ∷ []) (sym is) in
    let whole : windows_between tail w.scn ws ≡ take (suc i) windows = ap (λ (n : ℕ). windows_between tail n ws) (sym last) ∙ upto in
    append_cancel_left (take i windows) (windows_between (end_from tail (take i windows)) w.scn ws) (w ∷ [])
    (ap (λ (l : List Span). l ++ windows_between (end_from tail (take i windows)) w.scn ws) (sym before) ∙ sym split ∙ whole ∙ more)
