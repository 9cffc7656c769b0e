-- The lines of an input that comes in pieces.
use Rattle.std.proofs.Common.{◌≡◌, ℕ, ◌+◌, ◌<◌, ◌≤◌, ◌↔◌, Bool, true, false, cond, ◌||◌, nat_lt, nat_le, eqb, List, [], ◌∷◌, ◌++◌, length, refl, sym, ap, ◌∙◌, append_assoc, append-nil, arith}
use Rattle.std.proofs.lemmas.Bool.{ltb-true, ltb-false, leb-false, lt-ltb, le-ltb, lt-leb, or_parts, or_from, ne_eqb}
use Rattle.std.proofs.lemmas.List.{length-append}
use Rattle.trace_script.specs.Input.{RawLine, lines_from, lines_of, IsPart, IsWhole, has_end, whole_part, most_lines, longest_line, longest_input, is_too_long}

-- what stands before the line so far, and behind it
pub lines_from-append : (line part rest : List ℕ) → IsPart part → lines_from line (part ++ rest) ≡ lines_from (line ++ part) rest
lines_from-append line [] rest p = ap (λ (l : List ℕ). lines_from l rest) (sym (append-nil line))
lines_from-append line (b ∷ bs) rest p =
    ap (λ (t : Bool). cond t (record { text = line; size = length line + 1 } ∷ lines_from [] (bs ++ rest)) (lines_from (line ++ b ∷ []) (bs ++ rest))) p.0
    ∙ lines_from-append (line ++ b ∷ []) bs rest p.1
    ∙ ap (λ (l : List ℕ). lines_from l rest) (append_assoc line (b ∷ []) bs)

-- a line and its LF are the first line
pub lines_of-line : (line rest : List ℕ) → IsPart line → lines_of (line ++ 10 ∷ rest) ≡ (record { text = line; size = length line + 1 }) ∷ lines_of rest
lines_of-line line rest p = lines_from-append [] line (10 ∷ rest) p

last_line : (line : List ℕ) → 0 < length line → lines_from line [] ≡ (record { text = line; size = length line }) ∷ []
last_line [] some = absurd (omega arith)
last_line (b ∷ bs) some = ap (λ (t : Bool). cond t [] ((record { text = b ∷ bs; size = length (b ∷ bs) }) ∷ [])) (ne_eqb (length (b ∷ bs)) 0 (λ e. omega arith))

-- a last line without a LF
pub lines_of-last : (line : List ℕ) → IsPart line → 0 < length line → lines_of line ≡ (record { text = line; size = length line }) ∷ []
lines_of-last line p some = ap lines_of (sym (append-nil line)) ∙ lines_from-append [] line [] p ∙ last_line line some

-- the first line begins with what has come of it
pub record Begins (line : List ℕ) (lines : List RawLine) : Type 0 where
  pub first : RawLine
  pub others : List RawLine
  pub parts : lines ≡ first ∷ others
  pub text : length line ≤ length first.text
  pub size : length line ≤ first.size

pub begins : (line rest : List ℕ) → 0 < length line → Begins line (lines_from line rest)
begins [] [] some = absurd (omega arith)
begins (b ∷ bs) [] some = record { first = record { text = b ∷ bs; size = length (b ∷ bs) }; others = []; parts = last_line (b ∷ bs) some; text = omega arith; size = omega arith }
begins line (b ∷ bs) some =
    let longer = length-append line (b ∷ []) in
    let rest = begins (line ++ b ∷ []) bs (omega arith) in
    elim (eqb b 10) as (λ (t : Bool). Begins line (cond t (record { text = line; size = length line + 1 } ∷ lines_from [] bs) (lines_from (line ++ b ∷ []) bs))) [
      | true ↦ record { first = record { text = line; size = length line + 1 }; others = lines_from [] bs; parts = refl; text = omega arith; size = omega arith }
      | false ↦ record { first = rest.first; others = rest.others; parts = rest.parts; text = omega (arith, rest.text); size = omega (arith, rest.size) }
    ]

-- a part that is too long already makes the line too long, however it goes on
abbrev pub is_long_part : ℕ → ℕ → List ℕ → Bool
is_long_part count used part = nat_le most_lines count || nat_lt longest_line (length part) || nat_lt longest_input (used + length part)

-- tests of which the later two carry over
one_holds : (a b c d e : Bool) → (b ≡ true → d ≡ true) → (c ≡ true → e ≡ true) → (a || b || c) ≡ true → (a || d || e) ≡ true
one_holds true b c d e f g h = refl
one_holds false true c d e f g h = ap (λ (x : Bool). x || e) (f refl)
one_holds false false true true e f g h = refl
one_holds false false true false e f g h = g refl
one_holds false false false d e f g h = absurd cc

still_long : (count used : ℕ) (part : List ℕ) (first : RawLine) → length part ≤ length first.text → length part ≤ first.size → is_long_part count used part ≡ true → is_too_long count used first ≡ true
still_long count used part first text size long =
    one_holds (nat_le most_lines count) (nat_lt longest_line (length part)) (nat_lt longest_input (used + length part)) (nat_lt longest_line (length first.text)) (nat_lt longest_input (used + first.size))
    (λ h. let lt = ltb-true longest_line (length part) h in lt-ltb longest_line (length first.text) (omega arith))
    (λ h. let lt = ltb-true longest_input (used + length part) h in lt-ltb longest_input (used + first.size) (omega arith))
    long

-- the first line is too long
pub record BeginsLong (count used : ℕ) (lines : List RawLine) : Type 0 where
  pub first : RawLine
  pub others : List RawLine
  pub parts : lines ≡ first ∷ others
  pub long : is_too_long count used first ≡ true

pub long_part : (count used : ℕ) (part rest : List ℕ) → IsPart part → 0 < length part → is_long_part count used part ≡ true → BeginsLong count used (lines_of (part ++ rest))
long_part count used part rest p some long =
    let b = begins part rest some in
    record {
      first = b.first;
      others = b.others;
      parts = lines_from-append [] part rest p ∙ b.parts;
      long = still_long count used part b.first b.text b.size long;
    }

-- ---- whole lines

right_holds : (a b : Bool) → b ≡ true → (a || b) ≡ true
right_holds true b h = refl
right_holds false b h = h

has_end-append : (xs ys : List ℕ) → has_end ys ≡ true → has_end (xs ++ ys) ≡ true
has_end-append [] ys h = h
has_end-append (x ∷ xs) ys h = right_holds (eqb x 10) (has_end (xs ++ ys)) (has_end-append xs ys h)

has_end-front : (xs ys : List ℕ) → has_end xs ≡ true → has_end (xs ++ ys) ≡ true
has_end-front [] ys h = absurd cc
has_end-front (x ∷ xs) ys h = elim (eqb x 10) as (λ (t : Bool). (t || has_end xs) ≡ true → (t || has_end (xs ++ ys)) ≡ true) [ true ↦ λ k. refl | false ↦ λ k. has_end-front xs ys k ] h

-- a line with its LF is whole
pub IsWhole-line : (line : List ℕ) → IsWhole (line ++ 10 ∷ [])
IsWhole-line [] = (refl, tt)
IsWhole-line (b ∷ bs) = (has_end-append (b ∷ bs) (10 ∷ []) refl, IsWhole-line bs)

-- whole lines before whole lines
pub IsWhole-append : (xs ys : List ℕ) → IsWhole xs → IsWhole ys → IsWhole (xs ++ ys)
IsWhole-append [] ys p q = q
IsWhole-append (x ∷ xs) ys p q = (has_end-front (x ∷ xs) ys p.0, IsWhole-append xs ys p.1 q)

no_end : (part : List ℕ) → IsPart part → has_end part ≡ false
no_end [] p = refl
no_end (b ∷ bs) p = ap (λ (t : Bool). t || has_end bs) p.0 ∙ no_end bs p.1

-- a part of a line has no whole line
part_none : (part : List ℕ) → IsPart part → whole_part part ≡ []
part_none [] p = refl
part_none (b ∷ bs) p = ap (λ (t : Bool). cond t (b ∷ whole_part bs) []) (no_end (b ∷ bs) p)

-- the whole lines of whole lines and a part of the next
pub whole_part-append : (whole part : List ℕ) → IsWhole whole → IsPart part → whole_part (whole ++ part) ≡ whole
whole_part-append [] part w p = part_none part p
whole_part-append (b ∷ bs) part w p =
    ap (λ (t : Bool). cond t (b ∷ whole_part (bs ++ part)) []) (has_end-front (b ∷ bs) part w.0) ∙ ap (λ (l : List ℕ). b ∷ l) (whole_part-append bs part w.1 p)

-- parts of a line join
pub IsPart-append : (xs ys : List ℕ) → IsPart xs → IsPart ys → IsPart (xs ++ ys)
IsPart-append [] ys p q = q
IsPart-append (x ∷ xs) ys p q = (p.0, IsPart-append xs ys p.1 q)

-- ---- the limits

-- a line is within the limits of an input exactly so
pub within_limits : (count used : ℕ) (line : RawLine) → (is_too_long count used line ≡ false) ↔ ((count < 1000000) × (length line.text ≤ 4194304) × (used + line.size ≤ 16777216))
within_limits count used line =
    let lines = nat_le most_lines count in
    let text = nat_lt longest_line (length line.text) in
    let input = nat_lt longest_input (used + line.size) in (
      λ within.
          let last = or_parts (lines || text) input within in
          let first = or_parts lines text last.0 in
          (leb-false most_lines count first.0, ltb-false longest_line (length line.text) first.1, ltb-false longest_input (used + line.size) last.1),
      λ within.
          or_from (lines || text) input
          (or_from lines text (lt-leb most_lines count within.0) (le-ltb longest_line (length line.text) within.1))
          (le-ltb longest_input (used + line.size) within.2),
    )
