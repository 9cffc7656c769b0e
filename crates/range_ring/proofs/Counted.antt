-- The accepted events of a window, counted as they are read.
use Rattle.std.proofs.Common.{◌≡◌, ℕ, ◌+◌, ◌-◌, ◌≤◌, List, [], ◌∷◌, length, take, map, Option, inl, inr, refl, ap, subst, ◌∙◌, arith}
use Rattle.std.proofs.lemmas.Bool.{cond-true, cond-false, cases_Bool}
use Rattle.bus_types.specs.declared.change.Change.{Change}
use Rattle.bus_types.specs.Change.{Test, accepted, changes_size}
use Rattle.bus_types.specs.Window.{Span, IsSpan, span_size}
use Rattle.bus_types.specs.Cut.{cut}
use Rattle.event_codec.specs.Bytes.{Event}
use Rattle.event_codec.specs.Parsing.{AreEvents, window_events}
use Rattle.event_codec.proofs.Lendings.{window_run}
use Rattle.ring_cells.specs.Entries.{Held, IsEntry}
use Rattle.range_ring.specs.Ranges.{changes_of}

-- what is counted, and what is still to count
pub record Counts (test : Test) (all : List Change) (left : List Event) (size : ℕ) : Type 0 where
  pub whole : size + changes_size (accepted test (changes_of left)) ≡ changes_size (accepted test all)
  pub small : changes_size (accepted test all) ≤ changes_size all
  pub bound : changes_size all + 17 ≤ 1048576

accepted_some : (test : Test) (cs : List Change) → changes_size (accepted test cs) ≤ changes_size cs
accepted_some test [] = omega arith
accepted_some test (c ∷ cs) =
    let rest = accepted_some test cs in
    elim (cases_Bool (test c.source c.key)) [
      | inl taken ↦ (let is = ap changes_size (cond-true (test c.source c.key) (c ∷ accepted test cs) (accepted test cs) taken) in omega arith)
      | inr left_out ↦ (let is = ap changes_size (cond-false (test c.source c.key) (c ∷ accepted test cs) (accepted test cs) left_out) in omega arith)
    ]

accepted_first : (test : Test) (c : Change) (cs : List Change) → changes_size (accepted test (c ∷ cs)) ≡ changes_size (accepted test (c ∷ [])) + changes_size (accepted test cs)
accepted_first test c cs =
    elim (cases_Bool (test c.source c.key)) [
      | inl taken ↦
          (let is = ap changes_size (cond-true (test c.source c.key) (c ∷ accepted test cs) (accepted test cs) taken) in
          let one = ap changes_size (cond-true (test c.source c.key) (c ∷ []) [] taken) in omega arith)
      | inr left_out ↦
          (let is = ap changes_size (cond-false (test c.source c.key) (c ∷ accepted test cs) (accepted test cs) left_out) in
          let one = ap changes_size (cond-false (test c.source c.key) (c ∷ []) [] left_out) in omega arith)
    ]

changes_back : (scn : ℕ) (cs : List Change) → changes_of (map (λ c. record { scn = scn; change = c }) cs) ≡ cs
changes_back scn [] = refl
changes_back scn (c ∷ cs) = ap (λ (ds : List Change). c ∷ ds) (changes_back scn cs)

pub counts_begin : (test : Test) (events left : List Event) → changes_size (changes_of events) + 17 ≤ 1048576 → left ≡ events → Counts test (changes_of events) left 0
counts_begin test events left bound is =
    let whole : changes_size (accepted test (changes_of left)) ≡ changes_size (accepted test (changes_of events)) = ap (λ (es : List Event). changes_size (accepted test (changes_of es))) is in
    record { whole = omega arith; small = accepted_some test (changes_of events); bound = bound }

pub counts_next : (test : Test) (all : List Change) (e : Event) (left events : List Event) (size more : ℕ) → events ≡ e ∷ left → Counts test all events size → more ≡ changes_size (accepted test (e.change ∷ [])) → Counts test all left (size + more)
counts_next test all e left events size more is h m =
    let first = accepted_first test e.change (changes_of left) in
    let whole : size + changes_size (accepted test (e.change ∷ changes_of left)) ≡ changes_size (accepted test all) = subst (λ (es : List Event). size + changes_size (accepted test (changes_of es)) ≡ changes_size (accepted test all)) is h.whole in
    record { whole = omega arith; small = h.small; bound = h.bound }

pub counts_end : (test : Test) (all : List Change) (events : List Event) (size : ℕ) → events ≡ [] → Counts test all events size → size ≡ changes_size (accepted test all)
counts_end test all events size is h =
    let whole : size + 0 ≡ changes_size (accepted test all) = subst (λ (es : List Event). size + changes_size (accepted test (changes_of es)) ≡ changes_size (accepted test all)) is h.whole in
    omega arith

-- ---- the window of an entry

-- an entry's bytes without the mark are the events of its window
pub entry_events : (told : Option (List Span)) (e : Held) (bytes events : List ℕ) (h : IsEntry told e) → bytes ≡ e.bytes → events ≡ take (length bytes - 17) bytes → AreEvents (window_events h.window) events
entry_events told e bytes events h same is = window_run h.window.scn h.window.prev bytes events (record { window = h.window; within = h.within; spelled = same ∙ h.spelled; scn = refl; prev = refl }) is

pub small_events : (w : Span) (events : List Event) → IsSpan w → events ≡ window_events w → changes_size (changes_of events) + 17 ≤ 1048576
small_events w events h is =
    let same : changes_size (changes_of events) ≡ changes_size w.changes = ap (λ (es : List Event). changes_size (changes_of es)) is ∙ ap changes_size (changes_back w.scn w.changes) in
    let size = h.size in
    omega arith

-- what is left of it is as large as what was counted, and a mark
pub cut_counts : (test : Test) (w : Span) (events : List Event) (size : ℕ) → events ≡ window_events w → size ≡ changes_size (accepted test (changes_of events)) → size + 17 ≡ span_size (cut test w)
cut_counts test w events size is counted =
    let same : changes_of events ≡ w.changes = ap changes_of is ∙ changes_back w.scn w.changes in
    ap (λ (n : ℕ). n + 17) (counted ∙ ap (λ (cs : List Change). changes_size (accepted test cs)) same)
