-- Events one after the other, as a loop appends them.
use Rattle.std.proofs.Common.{◌≡◌, ℕ, Bool, true, false, cond, List, [], ◌∷◌, ◌++◌, refl, sym, ap, ◌∙◌, append_assoc}
use Rattle.bus_types.specs.declared.change.Change.{Change}
use Rattle.bus_types.specs.Change.{Test, accepted}
use Rattle.bus_types.specs.Window.{Span}
use Rattle.bus_types.specs.Cut.{cut}
use Rattle.event_codec.specs.Bytes.{event_bytes, changes_bytes, mark_bytes, window_bytes}
use Rattle.event_codec.specs.Writing.{accepted_bytes}

passed : (b : Bool) (scn : ℕ) (c : Change) (cs : List Change) → changes_bytes scn (cond b (c ∷ cs) cs) ≡ cond b (event_bytes (record { scn = scn; change = c })) [] ++ changes_bytes scn cs
passed true scn c cs = refl
passed false scn c cs = refl

-- the bytes of the first change and of the others
pub accepted_more : (test : Test) (scn : ℕ) (c : Change) (cs : List Change) → changes_bytes scn (accepted test (c ∷ cs)) ≡ accepted_bytes test scn c ++ changes_bytes scn (accepted test cs)
accepted_more test scn c cs = passed (test c.source c.key) scn c (accepted test cs)

-- a step of the loop: what was appended, and what is still appended, are all
pub appended_more : (test : Test) (scn : ℕ) (out : List ℕ) (c : Change) (cs : List Change) (all : List ℕ) → out ++ changes_bytes scn (accepted test (c ∷ cs)) ≡ all
    → (out ++ accepted_bytes test scn c) ++ changes_bytes scn (accepted test cs) ≡ all
appended_more test scn out c cs all so_far =
    append_assoc out (accepted_bytes test scn c) (changes_bytes scn (accepted test cs)) ∙ ap (λ (x : List ℕ). out ++ x) (sym (accepted_more test scn c cs)) ∙ so_far

-- what a filter leaves of a window is appended: its events, and then its mark
pub appended_window : (test : Test) (w : Span) (out events all : List ℕ) (scn prev : ℕ) (cs : List Change) → scn ≡ w.scn → prev ≡ w.prev → cs ≡ w.changes
    → events ≡ out ++ changes_bytes scn (accepted test cs) → all ≡ events ++ mark_bytes scn prev → all ≡ out ++ window_bytes (cut test w)
appended_window test w out events all scn prev cs scn_is prev_is cs_is events_are all_is =
    all_is
    ∙ ap (λ (x : List ℕ). x ++ mark_bytes scn prev) events_are
    ∙ append_assoc out (changes_bytes scn (accepted test cs)) (mark_bytes scn prev)
    ∙ (λ i. out ++ (changes_bytes (scn_is i) (accepted test (cs_is i)) ++ mark_bytes (scn_is i) (prev_is i)))
