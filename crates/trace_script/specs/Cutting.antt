-- An input that is cut into lines as it comes in pieces.
use Rattle.std.specs.Prelude.{◌≡◌, ℕ, ◌+◌, ◌<◌, ◌≤◌, false, true, Bool, ◌==◌, ◌||◌, nat_lt, nat_le, if◌then◌else◌, List, [], ◌∷◌, ◌++◌, length}
use Rattle.trace_script.specs.Input.{RawLine, lines_of, IsPart, most_lines, longest_line, longest_input, is_too_long}

-- how far an input was cut: how many whole lines came, the bytes that they took with their LFs, and what has come of the
-- next line
pub record Cut : Type 0 where
  pub count : ℕ
  pub used : ℕ
  pub come : List ℕ

-- an input of which nothing has come
abbrev pub new_cut : Cut
new_cut = record { count = 0; used = 0; come = [] }

-- the last line, if no more comes
abbrev pub last_line : Cut → RawLine
last_line c = record { text = c.come; size = length c.come }

-- what was cut is within the limits, and what has come of the next line has no LF and isn't too long yet
pub record IsCut (c : Cut) : Type 0 where
  pub count : c.count ≤ most_lines
  pub used : c.used ≤ longest_input
  pub part : IsPart c.come
  pub within : 0 < length c.come → is_too_long c.count c.used (last_line c) ≡ false

-- the text of the line at hand, of which this is the end: what was held of it, where anything was, or the end
abbrev pub text_at : Cut → List ℕ → List ℕ
text_at c end = if length c.come == 0 then end else c.come

-- the line at hand, with its LF
abbrev pub line_at : Cut → List ℕ → RawLine
line_at c end = record { text = text_at c end; size = length (text_at c end) + 1 }

-- a line was cut off: the piece up to its first LF is its end, and however the input goes on, it is the next line and not too
-- long
pub record CutsOff (old : Cut) (piece : List ℕ) (new : Cut) (end rest : List ℕ) : Type 0 where
  pub count : new.count ≡ old.count
  pub used : new.used ≡ old.used
  pub parts : piece ≡ end ++ 10 ∷ rest
  pub part : IsPart end
  pub text : text_at new end ≡ old.come ++ end
  pub within : is_too_long new.count new.used (line_at new end) ≡ false
  pub next : (more : List ℕ) → lines_of (old.come ++ (piece ++ more)) ≡ line_at new end ∷ lines_of (rest ++ more)

-- a piece without a LF was held
pub record Holds (old : Cut) (piece : List ℕ) (new : Cut) : Type 0 where
  pub part : IsPart piece
  pub held : new ≡ record { count = old.count; used = old.used; come = old.come ++ piece }

-- however the input goes on, its next line, which has this number, is too long
pub record IsLong (old : Cut) (piece : List ℕ) (line : ℕ) : Type 0 where
  pub number : line ≡ old.count + 1
  pub next : (more : List ℕ) → (first : RawLine) × (others : List RawLine) × (lines_of (old.come ++ (piece ++ more)) ≡ first ∷ others)
      × (is_too_long old.count old.used first ≡ true)

-- ---- by sizes

-- whether a line is too long, by the bytes of its text and those that it takes
abbrev pub is_long : ℕ → ℕ → ℕ → ℕ → Bool
is_long count used text size = nat_le most_lines count || nat_lt longest_line text || nat_lt longest_input (used + size)
