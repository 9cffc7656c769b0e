-- The lines of an input, and which of them are too long.
use Rattle.std.specs.Prelude.{◌≡◌, ℕ, ◌+◌, ◌==◌, ◌||◌, nat_lt, nat_le, if◌then◌else◌, Bool, false, true, List, [], ◌∷◌, ◌++◌, length}
use Rattle.std.specs.List.{list_any, AllByRecursion}

-- ---- lines

-- a line as it stands in an input: its text, and the bytes that it takes with its LF, which the last line may lack
pub record RawLine : Type 0 where
  pub text : List ℕ
  pub size : ℕ

-- the lines of an input, where this text of the first one came before: each ends at a LF, and what stands after the
-- last LF is a line where it has at least one byte
abbrev pub lines_from : List ℕ → List ℕ → List RawLine
lines_from line [] = if length line == 0 then [] else (record { text = line; size = length line }) ∷ []
lines_from line (b ∷ bs) = if b == 10 then (record { text = line; size = length line + 1 }) ∷ lines_from [] bs else lines_from (line ++ b ∷ []) bs

abbrev pub lines_of : List ℕ → List RawLine
lines_of bytes = lines_from [] bytes

-- bytes without a LF
abbrev pub IsPart : List ℕ → Type 0
IsPart bytes = AllByRecursion (λ b. (b == 10) ≡ false) bytes

abbrev pub has_end : List ℕ → Bool
has_end bytes = list_any (λ b. b == 10) bytes

-- bytes that end with a LF, or none
abbrev pub IsWhole : List ℕ → Type 0
IsWhole [] = Unit {0}
IsWhole (b ∷ bs) = (has_end (b ∷ bs) ≡ true) × IsWhole bs

-- the whole lines of an input of which this much has come: the bytes up to the last LF
abbrev pub whole_part : List ℕ → List ℕ
whole_part [] = []
whole_part (b ∷ bs) = if has_end (b ∷ bs) then b ∷ whole_part bs else []

-- ---- the limits of an input

abbrev pub most_lines : ℕ
most_lines = 1000000

abbrev pub longest_line : ℕ
longest_line = 4194304

abbrev pub longest_input : ℕ
longest_input = 16777216

-- a line is too long where so many lines came before it that it is one too many, where its text is, or where the input
-- up to its end is, of which so many bytes came before it
abbrev pub is_too_long : ℕ → ℕ → RawLine → Bool
is_too_long count used line = nat_le most_lines count || nat_lt longest_line (length line.text) || nat_lt longest_input (used + line.size)
