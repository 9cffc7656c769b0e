-- Windows that are made from a number and committed.
use Rattle.std.proofs.Common.{◌≡◌, ℕ, zero, suc, ◌+◌, ◌-◌, ◌*◌, ◌<◌, ◌≤◌, true, List, [], ◌∷◌, ◌++◌, append-nil, append_assoc, length, length-append, Some, refl, sym, ap, subst, ◌∙◌, arith}
use Rattle.std.proofs.lemmas.Bool.{le-ltb}
use Rattle.bus_types.specs.Window.{Span}
use Rattle.bus_types.specs.Timeline.{Follows, end_of}
use Rattle.bus_types.proofs.Stretches.{end_from-append}
use Rattle.generated_windows.specs.Generated.{above, generated_window, after_window, generated}
use Rattle.generated_windows.proofs.Generating.{generated_follows}
use Rattle.history_core.specs.Script.{State}
use Rattle.history_core.specs.Steps.{most_commits, last_generated, gen_step}
use Rattle.history_core.specs.Bus.{Parts, IsSound}
use Rattle.history_core.specs.Acting.{IsWorking}
use Rattle.history_core.proofs.Sound.{works_commit}

-- where windows end with one more that was made
end_more : (ws : List Span) (x : ℕ) → end_of (ws ++ generated_window x (end_of ws) ∷ []) ≡ end_of ws + above x
unfolding generated_window
end_more ws x = end_from-append 0 ws (generated_window x (end_of ws) ∷ [])

-- a window was committed, and the others are still to be
pub generated_more : (ws all : List Span) (x i count : ℕ) (w : Span) → i < count → w ≡ generated_window x (end_of ws) → ws ++ generated (count - i) x (end_of ws) ≡ all
    → (ws ++ w ∷ []) ++ generated (count - (i + 1)) (after_window x) (end_of (ws ++ w ∷ [])) ≡ all
generated_more ws all x i count w lt is e =
    let last = end_of ws in
    let n = count - (i + 1) in
    let more : count - i ≡ suc n = omega arith in
    let rest = generated n (after_window x) (last + above x) in
    ap (λ (v : Span). (ws ++ v ∷ []) ++ generated n (after_window x) (end_of (ws ++ v ∷ []))) is
    ∙ ap (λ m. (ws ++ generated_window x last ∷ []) ++ generated n (after_window x) m) (end_more ws x)
    ∙ append_assoc ws (generated_window x last ∷ []) rest
    ∙ ap (λ m. ws ++ generated m x last) (sym more)
    ∙ e

-- all were
pub generated_all : (ws all : List Span) (x i count : ℕ) → count ≤ i → ws ++ generated (count - i) x (end_of ws) ≡ all → ws ≡ all
generated_all ws all x i count past e =
    let none : count - i ≡ 0 = omega arith in
    sym (append-nil ws) ∙ ap (λ n. ws ++ generated n x (end_of ws)) (sym none) ∙ e

-- where they end then
pub end_near : (ws : List Span) (w : Span) (last : ℕ) → last ≡ end_of ws → w.scn ≤ last + 3 → end_of (ws ++ w ∷ []) ≤ end_of ws + 3
end_near ws w last is near = omega (arith, is, near, end_from-append 0 ws (w ∷ []))

-- a bus that works takes one more window
works_more : (b : Parts) (w : Span) → IsWorking b → length b.source < most_commits → Follows (end_of b.source) w → IsWorking (record b { source = b.source ++ w ∷ [] })
works_more b w h few f =
    let sound : IsSound (record b { begun = true }) = record { few = h.few; relay = h.relay; boot = h.boot; members = h.members; untouched = λ e. absurd cc } in
    let r = works_commit (record b { begun = true }) w (b.source ++ w ∷ []) sound few f refl in
    record { few = r.few; relay = r.relay; boot = r.boot; members = r.members }

-- and windows that are made
works_generated : (b : Parts) (n x : ℕ) → IsWorking b → length b.source + n ≤ most_commits → end_of b.source + 3 * n ≤ 9223372036854775807 → IsWorking (record b { source = b.source ++ generated n x (end_of b.source) })
works_generated b zero x h few low =
    subst (λ (ws : List Span). IsWorking (record b { source = ws })) (sym (append-nil b.source)) (record { few = h.few; relay = h.relay; boot = h.boot; members = h.members })
works_generated b (suc n) x h few low =
    let last = end_of b.source in
    let w = generated_window x last in
    let one = works_more b w h (omega (arith, few)) (generated_follows x last (omega (arith, low))) in
    let ends = end_more b.source x in
    let rest = works_generated (record b { source = b.source ++ w ∷ [] }) n (after_window x) one (omega (arith, few, length-append b.source (w ∷ []))) (omega (arith, low, ends)) in
    let same = ap (λ m. (b.source ++ w ∷ []) ++ generated n (after_window x) m) ends ∙ append_assoc b.source (w ∷ []) (generated n (after_window x) (last + above x)) in
    subst (λ (ws : List Span). IsWorking (record b { source = ws })) same rest

pub works_made : (b : Parts) (count seed : ℕ) (after : List Span) → IsSound b → end_of b.source ≤ last_generated → count ≤ 100000 → length b.source + count ≤ most_commits → after ≡ b.source ++ generated count seed (end_of b.source) → IsWorking (record b { source = after })
works_made b count seed after h low few room e =
    subst (λ (ws : List Span). IsWorking (record b { source = ws })) (sym e)
    (works_generated b count seed (record { few = h.few; relay = h.relay; boot = h.boot; members = h.members }) room (omega (arith, low, few)))

-- what the line does
pub made : (s : State) (seed count : ℕ) (after : List Span) (text : List ℕ) → end_of s.windows ≤ last_generated → length s.windows + count ≤ most_commits → after ≡ s.windows ++ generated count seed (end_of s.windows) → text ≡ []
    → gen_step s seed count ≡ Some (record s { windows = after }, text)
unfolding gen_step
made s seed count after text low room a t =
    rw (le-ltb last_generated (end_of s.windows) low, le-ltb most_commits (length s.windows + count) room) (λ i. Some (record s { windows = sym a i }, sym t i))
