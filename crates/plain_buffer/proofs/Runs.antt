-- The sizes of what a filter leaves, and a run of windows that is told one after the other.
use Rattle.std.proofs.Common.{◌≡◌, ℕ, ◌+◌, ◌-◌, ◌<◌, ◌≤◌, Bool, true, false, cond, List, [], ◌∷◌, length, get_or, drop, refl, sym, ap, subst, ◌∙◌, arith}
use Rattle.std.proofs.lemmas.List.{drop_more}
use Rattle.bus_types.specs.declared.change.Change.{Change}
use Rattle.bus_types.specs.Change.{Test, change_size, accepted, changes_size}
use Rattle.bus_types.specs.Window.{Span, span_size}
use Rattle.bus_types.specs.Cut.{cut, cuts, cut_size}
use Rattle.bus_types.specs.Relay.{longest_run, most_windows}
use Rattle.bus_types.proofs.Runs.{run_takes, run_full}
use Rattle.plain_buffer.specs.Run.{accepted_size, Tells}

-- ---- sizes

passed : (b : Bool) (c : Change) (cs : List Change) → changes_size (cond b (c ∷ cs) cs) ≡ cond b (change_size c) 0 + changes_size cs
passed true c cs = refl
passed false c cs = omega arith

-- the bytes of the first change and of the others
pub accepted_more : (test : Test) (c : Change) (cs : List Change) → changes_size (accepted test (c ∷ cs)) ≡ accepted_size test c + changes_size (accepted test cs)
accepted_more test c cs = passed (test c.source c.key) c (accepted test cs)

chosen_size : (b : Bool) (n : ℕ) → cond b n 0 ≤ n
chosen_size true n = omega arith
chosen_size false n = omega arith

-- accepted changes take no more bytes than all
pub accepted_fits : (test : Test) (cs : List Change) → changes_size (accepted test cs) ≤ changes_size cs
accepted_fits test [] = omega arith
accepted_fits test (c ∷ cs) =
    let first = chosen_size (test c.source c.key) (change_size c) in
    omega (arith, accepted_more test c cs, accepted_fits test cs)

-- a step of a sum over the changes
pub size_step : (test : Test) (cs : List Change) (i size total : ℕ) (c : Change) → i < length cs → c ≡ get_or cs i c → size + changes_size (accepted test (drop i cs)) ≡ total
    → (size + accepted_size test c) + changes_size (accepted test (drop (i + 1) cs)) ≡ total
size_step test cs i size total c lt is e =
    let first : drop i cs ≡ c ∷ drop (i + 1) cs = drop_more cs i c lt ∙ ap (λ (d : Change). d ∷ drop (i + 1) cs) (sym is) in
    let sizes = ap (λ (rest : List Change). changes_size (accepted test rest)) first ∙ accepted_more test c (drop (i + 1) cs) in
    omega arith

-- ---- a run

-- of no window of a run anything is told
pub tells_none : (run : List Span) → Tells 0 0 0 run run
tells_none run = record { count = omega arith; last = refl; bytes = omega arith }

-- a run of no windows
pub run_of_none : (count max : ℕ) (ws : List Span) → count ≤ 0 → longest_run count max ws ≡ []
run_of_none count max [] c = refl
run_of_none count max (w ∷ ws) c = run_full count max w ws c

-- all of a run is told
pub tells_all : (number scn size : ℕ) (rest run : List Span) → rest ≡ [] → Tells number scn size rest run → Tells number scn size [] run
tells_all number scn size rest run none t = subst (λ (left : List Span). Tells number scn size left run) none t

-- one more window is told
pub tells_more : (number scn size : ℕ) (w : Span) (rest run : List Span) → Tells number scn size (w ∷ rest) run → Tells (number + 1) w.scn (size + span_size w) rest run
tells_more number scn size w rest run t = record { count = omega (arith, t.count); last = t.last; bytes = omega (arith, t.bytes) }

-- one more window fits
pub run_step : (test : Test) (ws run : List Span) (from number scn size max more : ℕ) (w : Span) → number < most_windows → size ≤ max → from + number < length ws → w ≡ get_or ws (from + number) w → more ≡ cut_size test w → more ≤ max - size
    → Tells number scn size (longest_run (most_windows - number) (max - size) (cuts test (drop (from + number) ws))) run
    → Tells (number + 1) w.scn (size + more) (longest_run (most_windows - (number + 1)) (max - (size + more)) (cuts test (drop (from + (number + 1)) ws))) run
run_step test ws run from number scn size max more w few within lt is sized fits t =
    let next : (from + number) + 1 ≡ from + (number + 1) = omega arith in
    let rest = cuts test (drop (from + (number + 1)) ws) in
    let first : drop (from + number) ws ≡ w ∷ drop (from + (number + 1)) ws =
    drop_more ws (from + number) w lt ∙ (λ i. sym is i ∷ drop (next i) ws) in
    let count : (most_windows - number) - 1 ≡ most_windows - (number + 1) = omega arith in
    let room : (max - size) - cut_size test w ≡ max - (size + more) = omega arith in
    let taken : longest_run (most_windows - number) (max - size) (cuts test (drop (from + number) ws)) ≡ cut test w ∷ longest_run (most_windows - (number + 1)) (max - (size + more)) rest =
    ap (λ (left : List Span). longest_run (most_windows - number) (max - size) (cuts test left)) first
    ∙ run_takes (most_windows - number) (max - size) (cut test w) rest (omega arith) (omega arith)
    ∙ (λ i. cut test w ∷ longest_run (count i) (room i) rest) in
    let told = tells_more number scn size (cut test w) (longest_run (most_windows - (number + 1)) (max - (size + more)) rest) run (subst (λ (left : List Span). Tells number scn size left run) taken t) in
    subst (λ n. Tells (number + 1) w.scn (size + n) (longest_run (most_windows - (number + 1)) (max - (size + more)) rest) run) (sym sized) told
