-- Where a run of windows ends.
use Rattle.std.proofs.lemmas.Bool.{cases_lt}
use Rattle.std.proofs.Common.{◌≡◌, ℕ, inl, inr, suc, ◌+◌, ◌-◌, ◌<◌, ◌≤◌, List, [], ◌∷◌, length, get_or, take, drop, Some, refl, sym, ap, subst, ◌∙◌, arith}
use Rattle.std.specs.Prelude.{slice_get}
use Rattle.std.proofs.lemmas.List.{drop_more, drop_all}
use Rattle.std.proofs.lemmas.Option.{get_or_from_slice_get}
use Rattle.bus_types.specs.Change.{Test}
use Rattle.bus_types.specs.Window.{Span, span_size, IsSpan}
use Rattle.bus_types.specs.Timeline.{end_from}
use Rattle.bus_types.specs.Cut.{cut, cuts, cut_size}
use Rattle.bus_types.specs.Relay.{longest_run, most_windows}
use Rattle.bus_types.proofs.Runs.{run_ends, run_takes}
use Rattle.bus_types.proofs.Stretches.{end_at}
use Rattle.event_codec.proofs.Cuts.{cut_no_larger}
use Rattle.plain_buffer.specs.Run.{Tells}
use Rattle.plain_buffer.proofs.Runs.{tells_all, tells_none, run_of_none, run_step}
use Rattle.byte_ring.specs.Runs.{run_from, IsRun}

-- the next window doesn't fit
pub run_over : (test : Test) (ws run : List Span) (from number scn size max : ℕ) (w : Span) → from + number < length ws → w ≡ get_or ws (from + number) w → max - size < cut_size test w
    → Tells number scn size (longest_run (most_windows - number) (max - size) (cuts test (drop (from + number) ws))) run → Tells number scn size [] run
run_over test ws run from number scn size max w lt is large t =
    let first : drop (from + number) ws ≡ w ∷ drop ((from + number) + 1) ws = drop_more ws (from + number) w lt ∙ ap (λ (v : Span). v ∷ drop ((from + number) + 1) ws) (sym is) in
    let none = ap (λ (left : List Span). longest_run (most_windows - number) (max - size) (cuts test left)) first ∙ run_ends (most_windows - number) (max - size) (cut test w) (cuts test (drop ((from + number) + 1) ws)) large in
    tells_all number scn size _ run none t

-- a run that was told with its bytes
pub is_run : (test : Test) (ws : List Span) (from max count last size : ℕ) → Tells count last size [] (run_from test ws from max) → IsRun test ws from max count last
is_run test ws from max count last size t = record { count = t.count; last = t.last; bytes = omega arith }

-- the first window is too large where there is no run
pub none_fits : (test : Test) (ws : List Span) (from max count last : ℕ) (w : Span) → from < length ws → w ≡ get_or ws from w → count ≡ 0 → IsRun test ws from max count last → max < cut_size test w
none_fits test ws from max count last w lt is none run =
    let first : drop from ws ≡ w ∷ drop (from + 1) ws = drop_more ws from w lt ∙ ap (λ (v : Span). v ∷ drop (from + 1) ws) (sym is) in
    elim (cases_lt max (cut_size test w)) [
      | inl large ↦ large
      | inr fits ↦ (
          let taken = ap length (ap (λ (left : List Span). longest_run most_windows max (cuts test left)) first ∙ run_takes most_windows max (cut test w) (cuts test (drop (from + 1) ws)) (omega arith) fits) in
          let false : ⊥ = omega (arith, taken, run.count, none) in
          absurd false)
    ]

-- it fits where there is one
pub first_fits : (test : Test) (ws : List Span) (from max count last : ℕ) (w : Span) → from < length ws → w ≡ get_or ws from w → (count ≡ 0 → ⊥) → IsRun test ws from max count last → cut_size test w ≤ max
first_fits test ws from max count last w lt is some run =
    let first : drop from ws ≡ w ∷ drop (from + 1) ws = drop_more ws from w lt ∙ ap (λ (v : Span). v ∷ drop (from + 1) ws) (sym is) in
    elim (cases_lt max (cut_size test w)) [
      | inl large ↦ (
          let none = ap length (ap (λ (left : List Span). longest_run most_windows max (cuts test left)) first ∙ run_ends most_windows max (cut test w) (cuts test (drop (from + 1) ws)) large) in
          absurd (some (omega (arith, none, run.count))))
      | inr fits ↦ fits
    ]

-- ---- windows that fit in full

-- so many of them were told, and what a test leaves of them takes no more bytes than they do
pub record InFull (test : Test) (ws : List Span) (from count bytes max : ℕ) : Type 0 where
  pub scn : ℕ
  pub size : ℕ
  pub fits : size ≤ bytes
  pub last : (floor : ℕ) → 0 < count → end_from floor (take (from + count) ws) ≡ scn
  pub tells : Tells count scn size (longest_run (most_windows - count) (max - size) (cuts test (drop (from + count) ws))) (run_from test ws from max)

pub full_none : (test : Test) (ws : List Span) (from max : ℕ) → InFull test ws from 0 0 max
full_none test ws from max =
    let room : max - 0 ≡ max = omega arith in
    let place : from + 0 ≡ from = omega arith in
    let all : longest_run (most_windows - 0) (max - 0) (cuts test (drop (from + 0) ws)) ≡ run_from test ws from max = λ i. longest_run most_windows (room i) (cuts test (drop (place i) ws)) in
    record {
      scn = 0;
      size = 0;
      fits = omega arith;
      last = λ floor some. (let none : ⊥ = omega (arith, some) in absurd none);
      tells = subst (λ (rest : List Span). Tells 0 0 0 rest (run_from test ws from max)) (sym all) (tells_none (run_from test ws from max));
    }

-- one more window fits in full
pub full_more : (test : Test) (ws : List Span) (from count bytes max size : ℕ) (w : Span) → count < most_windows → from + count < length ws → slice_get ws (from + count) ≡ Some w → IsSpan w → size ≡ span_size w → bytes + size ≤ max
    → InFull test ws from count bytes max → InFull test ws from (count + 1) (bytes + size) max
full_more test ws from count bytes max size w few lt got is sized within f =
    let no_larger = cut_no_larger test w is in
    let next : from + (count + 1) ≡ suc (from + count) = omega arith in
    record {
      scn = w.scn;
      size = f.size + cut_size test w;
      fits = omega (arith, no_larger, sized, f.fits);
      last = λ floor some. ap (λ n. end_from floor (take n ws)) next ∙ end_at floor (from + count) ws w got;
      tells = run_step test ws (run_from test ws from max) from count f.scn f.size max (cut_size test w) w few (omega (arith, f.fits, within)) lt (sym (get_or_from_slice_get ws (from + count) w w got)) refl (omega (arith, no_larger, sized, f.fits, within)) f.tells;
    }

full_end : (test : Test) (ws : List Span) (from max count bytes n last floor : ℕ) (f : InFull test ws from count bytes max) → longest_run (most_windows - count) (max - f.size) (cuts test (drop (from + count) ws)) ≡ [] → 0 < count → n ≡ count → end_from floor (take (from + count) ws) ≡ last → IsRun test ws from max n last
full_end test ws from max count bytes n last floor f none some same end =
    let t = tells_all count f.scn f.size _ (run_from test ws from max) none f.tells in
    record { count = omega (arith, same, t.count); last = sym end ∙ f.last floor some ∙ t.last; bytes = omega arith }

-- there are no others
pub full_over : (test : Test) (ws : List Span) (from max count bytes n last floor : ℕ) → length ws ≤ from + count → 0 < count → n ≡ count → end_from floor (take (from + count) ws) ≡ last → InFull test ws from count bytes max → IsRun test ws from max n last
full_over test ws from max count bytes n last floor past some same end f =
    let none = ap (λ (left : List Span). longest_run (most_windows - count) (max - f.size) (cuts test left)) (drop_all (from + count) ws past) in
    full_end test ws from max count bytes n last floor f none some same end

-- a reply has no more
pub full_most : (test : Test) (ws : List Span) (from max count bytes n last floor : ℕ) → most_windows ≤ count → n ≡ count → end_from floor (take (from + count) ws) ≡ last → InFull test ws from count bytes max → IsRun test ws from max n last
full_most test ws from max count bytes n last floor past same end f =
    let none = run_of_none (most_windows - count) (max - f.size) (cuts test (drop (from + count) ws)) (omega (arith, past)) in
    full_end test ws from max count bytes n last floor f none (omega (arith, past)) same end
