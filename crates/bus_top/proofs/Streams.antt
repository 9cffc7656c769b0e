-- Runs over lines that come one after the other.
use Rattle.std.proofs.Common.{◌≡◌, ℕ, ◌+◌, true, false, List, [], ◌∷◌, ◌++◌, Some, None, length, refl, sym, ap, ◌∙◌, subst, append_assoc, append-nil}
use Rattle.std.specs.Io.{StartsWith}
use Rattle.std.proofs.lemmas.List.{take_at}
use Rattle.trace_script.specs.Input.{RawLine, is_too_long}
use Rattle.history_core.specs.Script.{State}
use Rattle.history_core.specs.Run.{Ending, Played, before, ended, played, text_step}
use Rattle.history_core.specs.Run.Ending.{Finished, BadAt, TooLongAt}
use Rattle.history_core.specs.Bus.{Parts, state_of, IsSound}

-- text before text
pub before-before : (a b : List ℕ) (p : Played) → before a (before b p) ≡ before (a ++ b) p
before-before a b p = ap (λ (t : List ℕ). record p { text = t }) (sym (append_assoc a b p.text))

-- a line that is too long stops a run
pub long_line : (s : State) (count used : ℕ) (raw : RawLine) (ls : List RawLine) → is_too_long count used raw ≡ true → played s count used (raw ∷ ls) ≡ ended (TooLongAt (count + 1)) s
unfolding played
long_line s count used raw ls h = rw h refl

-- so does a line outside the grammar or against its rules
pub bad_line : (s : State) (count used : ℕ) (raw : RawLine) (ls : List RawLine) → is_too_long count used raw ≡ false → text_step s raw.text ≡ None → played s count used (raw ∷ ls) ≡ ended (BadAt (count + 1)) s
unfolding played
bad_line s count used raw ls h e = rw (h, e) refl

-- a good line prints its text
pub good_line : (s next : State) (count used : ℕ) (raw : RawLine) (printed : List ℕ) (ls : List RawLine) → is_too_long count used raw ≡ false → text_step s raw.text ≡ Some (next, printed) → played s count used (raw ∷ ls) ≡ before printed (played next (count + 1) (used + raw.size) ls)
unfolding played
good_line s next count used raw printed ls h e = rw (h, e) refl

-- no line is at its end
pub no_line : (s : State) (count used : ℕ) → played s count used [] ≡ ended Finished s
unfolding played
no_line s count used = refl

-- a text before an end
pub before-ended : (text : List ℕ) (ending : Ending) (s : State) → before text (ended ending s) ≡ record { text = text; ending = ending; state = s }
before-ended text ending s = ap (λ (t : List ℕ). record { text = t; ending = ending; state = s }) (append-nil text)

pub stops_long : (text : List ℕ) (s : State) (count used : ℕ) (raw : RawLine) → is_too_long count used raw ≡ true → (ls : List RawLine) → before text (played s count used (raw ∷ ls)) ≡ record { text = text; ending = TooLongAt (count + 1); state = s }
stops_long text s count used raw h ls = ap (before text) (long_line s count used raw ls h) ∙ before-ended text (TooLongAt (count + 1)) s

-- a line outside the grammar or against its rules stops a run, and leaves the bus and the text as they were
pub bad_stops : (text text' : List ℕ) (b b' : Parts) (count used : ℕ) (raw : RawLine) → IsSound b → is_too_long count used raw ≡ false → text_step (state_of b) raw.text ≡ None → b' ≡ b → text' ≡ text → IsSound b' × ((ls : List RawLine) → before text (played (state_of b) count used (raw ∷ ls)) ≡ record { text = text'; ending = BadAt (count + 1); state = state_of b' })
bad_stops text text' b b' count used raw sound h e same written = (
  subst IsSound (sym same) sound,
  λ ls. ap (before text) (bad_line (state_of b) count used raw ls h e) ∙ before-ended text (BadAt (count + 1)) (state_of b)
      ∙ (λ i. record { text = sym written i; ending = BadAt (count + 1); state = state_of (sym same i) }),
)

pub goes_on : (text more printed : List ℕ) (s next : State) (count used : ℕ) (raw : RawLine) → more ≡ text ++ printed → is_too_long count used raw ≡ false → text_step s raw.text ≡ Some (next, printed) → (ls : List RawLine) → before more (played next (count + 1) (used + raw.size) ls) ≡ before text (played s count used (raw ∷ ls))
goes_on text more printed s next count used raw m h e ls =
    ap (λ (t : List ℕ). before t (played next (count + 1) (used + raw.size) ls)) m
    ∙ sym (before-before text printed (played next (count + 1) (used + raw.size) ls))
    ∙ ap (before text) (sym (good_line s next count used raw printed ls h e))

-- a text begins with itself, whatever stands behind it
pub starts : (text more : List ℕ) → StartsWith (text ++ more) text
starts text more = take_at text more (length text) refl
