-- Lines that are cut off an input.
use Rattle.std.proofs.Common.{◌≡◌, ℕ, suc, eqb, get_or, ◌+◌, ◌-◌, ◌<◌, ◌≤◌, Bool, true, false, cond, ◌==◌, ◌||◌, nat_lt, nat_le, List, [], ◌∷◌, ◌++◌, Some, None, Err, length, take, drop, refl, sym, ap, ◌∙◌, subst, append_assoc, arith}
use Rattle.std.specs.Prelude.{IsErrOf}
use Rattle.std.proofs.lemmas.Bool.{eqb-true, eqb-false, ne_eqb, or_parts, or_from, leb-false, ltb-false, le-ltb}
use Rattle.std.proofs.lemmas.List.{length-append, length-take, get_or-take, drop_more, take_rest, take-append-drop}
use Rattle.memchr.specs.Find.{IsFirstByte, is_byte}
use Rattle.trace_script.specs.Input.{RawLine, lines_of, IsPart, most_lines, longest_line, longest_input, is_too_long}
use Rattle.trace_script.specs.Cutting.{Cut, IsCut, CutsOff, IsLong, is_long}
use Rattle.trace_script.proofs.LineLaws.{lines_of-line, IsPart-append, long_part}

-- ---- the first LF

not_true : (b : Bool) → (b ≡ true → ⊥) → b ≡ false
not_true true h = absurd (h refl)
not_true false h = refl

-- bytes in which no place has a LF
part_from_places : (bytes : List ℕ) → ((k : ℕ) → k < length bytes → eqb (get_or bytes k 0) 10 ≡ true → ⊥) → IsPart bytes
part_from_places [] h = tt
part_from_places (b ∷ bs) h = (not_true (eqb b 10) (h 0 (omega arith)), part_from_places bs (λ k lt e. h (suc k) (omega arith) e))

-- the front of bytes before the first LF, and what stands behind it
pub first_some : (bytes front end : List ℕ) (at : ℕ) → IsFirstByte (is_byte 10) bytes (Some at) → front ≡ take at bytes → end ≡ drop at bytes → IsPart front × (bytes ≡ front ++ 10 ∷ take (length end - 1) (drop 1 end))
first_some bytes front end at h f e =
    let within = h.0.high in
    let lf : get_or bytes at 0 ≡ 10 = eqb-true (get_or bytes at 0) 10 h.1 in
    let shorter = length-take at bytes in
    let part : IsPart (take at bytes) = part_from_places (take at bytes) (λ k lt t.
    let low : k < at = omega (arith, shorter) in
    h.0.before k (omega arith) low (subst (λ (b : ℕ). eqb b 10 ≡ true) (get_or-take at bytes k 0 low) t)) in
    let behind : end ≡ 10 ∷ drop (at + 1) bytes = e ∙ drop_more bytes at 0 within ∙ ap (λ (b : ℕ). b ∷ drop (at + 1) bytes) lf in
    let rest : take (length end - 1) (drop 1 end) ≡ drop (at + 1) bytes = take_rest end 1 ∙ ap (drop 1) behind in
    (subst IsPart (sym f) part, sym (take-append-drop at bytes) ∙ (λ i. sym f i ++ (sym e ∙ behind ∙ ap (λ (l : List ℕ). 10 ∷ l) (sym rest)) i))

pub first_none : (bytes : List ℕ) → IsFirstByte (is_byte 10) bytes None → IsPart bytes
first_none bytes h = part_from_places bytes (λ k lt t. h k (omega arith) lt t)

-- ---- lines that are cut off

-- what has come, a line's end with its LF, and what follows
regroup : (come end rest more : List ℕ) → come ++ ((end ++ 10 ∷ rest) ++ more) ≡ (come ++ end) ++ 10 ∷ (rest ++ more)
regroup come end rest more =
    ap (λ (l : List ℕ). come ++ l) (append_assoc end (10 ∷ rest) more) ∙ sym (append_assoc come end (10 ∷ (rest ++ more)))

-- what is held of the line at hand
abbrev pub held_by : List ℕ → List ℕ → List ℕ
held_by come end = cond (length come == 0) [] (come ++ end)

text_is : (come end : List ℕ) → cond (length (held_by come end) == 0) end (held_by come end) ≡ come ++ end
text_is [] end = refl
text_is (b ∷ bs) end =
    let some = ne_eqb (length (b ∷ bs)) 0 (λ e. omega arith) in
    let more = ne_eqb (length ((b ∷ bs) ++ end)) 0 (λ e. omega (arith, length-append (b ∷ bs) end)) in
    rw (some, more) refl

next_line : (come piece end rest : List ℕ) → IsPart come → IsPart end → piece ≡ end ++ 10 ∷ rest → (more : List ℕ)
    → lines_of (come ++ (piece ++ more)) ≡ (record { text = come ++ end; size = length (come ++ end) + 1 }) ∷ lines_of (rest ++ more)
next_line come piece end rest p q e more =
    ap (λ (l : List ℕ). lines_of (come ++ (l ++ more))) e ∙ ap lines_of (regroup come end rest more)
    ∙ lines_of-line (come ++ end) (rest ++ more) (IsPart-append come end p q)

pub cut_off : (c : Cut) (piece end rest held : List ℕ) → IsCut c → IsPart end → piece ≡ end ++ 10 ∷ rest → held ≡ held_by c.come end
    → is_long c.count c.used (length (c.come ++ end)) (length (c.come ++ end) + 1) ≡ false
    → CutsOff c piece (record { count = c.count; used = c.used; come = held }) end rest
cut_off c piece end rest held is part e h within =
    let text : cond (length held == 0) end held ≡ c.come ++ end = ap (λ (l : List ℕ). cond (length l == 0) end l) h ∙ text_is c.come end in
    record {
      count = refl;
      used = refl;
      parts = e;
      part = part;
      text = text;
      within = ap (λ (l : List ℕ). is_long c.count c.used (length l) (length l + 1)) text ∙ within;
      next = λ more. next_line c.come piece end rest is.part part e more ∙ ap (λ (l : List ℕ). (record { text = l; size = length l + 1 }) ∷ lines_of (rest ++ more)) (sym text);
    }

-- a line that is too long with its LF
pub long_line : (c : Cut) (piece end rest : List ℕ) (line : ℕ) → IsCut c → IsPart end → piece ≡ end ++ 10 ∷ rest → line ≡ c.count + 1
    → is_long c.count c.used (length (c.come ++ end)) (length (c.come ++ end) + 1) ≡ true → IsLong c piece line
long_line c piece end rest line is part e number long = record {
  number = number;
  next = λ more. (record { text = c.come ++ end; size = length (c.come ++ end) + 1 }, lines_of (rest ++ more), next_line c.come piece end rest is.part part e more, long);
}

-- a part of a line that is too long already
pub long_already : (c : Cut) (piece : List ℕ) (line : ℕ) → IsCut c → IsPart piece → line ≡ c.count + 1 → 0 < length (c.come ++ piece)
    → is_long c.count c.used (length (c.come ++ piece)) (length (c.come ++ piece)) ≡ true → IsLong c piece line
long_already c piece line is part number some long = record {
  number = number;
  next = λ more.
      let begins = long_part c.count c.used (c.come ++ piece) more (IsPart-append c.come piece is.part part) some long in
      (begins.first, begins.others, ap lines_of (sym (append_assoc c.come piece more)) ∙ begins.parts, begins.long);
}

-- ---- what holds of a cutter

-- tests that fail for more fail for less
long_less : (count used text size less : ℕ) → less ≤ size → is_long count used text size ≡ false → is_long count used text less ≡ false
long_less count used text size less le h =
    let last = or_parts (nat_le most_lines count || nat_lt longest_line text) (nat_lt longest_input (used + size)) h in
    let room = ltb-false longest_input (used + size) last.1 in
    or_from (nat_le most_lines count || nat_lt longest_line text) (nat_lt longest_input (used + less)) last.0 (le-ltb longest_input (used + less) (omega arith))

held_part : (come end : List ℕ) → IsPart come → IsPart end → IsPart (held_by come end)
held_part [] end p q = tt
held_part (b ∷ bs) end p q =
    subst (λ (t : Bool). IsPart (cond t [] ((b ∷ bs) ++ end))) (sym (ne_eqb (length (b ∷ bs)) 0 (λ e. omega arith))) (IsPart-append (b ∷ bs) end p q)

held_within : (count used : ℕ) (come end : List ℕ) → is_long count used (length (come ++ end)) (length (come ++ end) + 1) ≡ false
    → 0 < length (held_by come end) → is_long count used (length (held_by come end)) (length (held_by come end)) ≡ false
held_within count used [] end within some = absurd (omega arith)
held_within count used (b ∷ bs) end within some =
    subst (λ (t : Bool). is_long count used (length (cond t [] ((b ∷ bs) ++ end))) (length (cond t [] ((b ∷ bs) ++ end))) ≡ false) (sym (ne_eqb (length (b ∷ bs)) 0 (λ e. omega arith)))
    (long_less count used (length ((b ∷ bs) ++ end)) (length ((b ∷ bs) ++ end) + 1) (length ((b ∷ bs) ++ end)) (omega arith) within)

pub is_cut_off : (c : Cut) (end held : List ℕ) → IsCut c → IsPart end → held ≡ held_by c.come end
    → is_long c.count c.used (length (c.come ++ end)) (length (c.come ++ end) + 1) ≡ false → IsCut (record { count = c.count; used = c.used; come = held })
is_cut_off c end held is part h within = record {
  count = is.count;
  used = is.used;
  part = subst IsPart (sym h) (held_part c.come end is.part part);
  within = subst (λ (l : List ℕ). 0 < length l → is_long c.count c.used (length l) (length l) ≡ false) (sym h) (held_within c.count c.used c.come end within);
}

pub is_held : (c : Cut) (piece held : List ℕ) → IsCut c → IsPart piece → held ≡ c.come ++ piece
    → (0 < length (c.come ++ piece) → is_long c.count c.used (length (c.come ++ piece)) (length (c.come ++ piece)) ≡ false) → IsCut (record { count = c.count; used = c.used; come = held })
is_held c piece held is part h within = record {
  count = is.count;
  used = is.used;
  part = subst IsPart (sym h) (IsPart-append c.come piece is.part part);
  within = subst (λ (l : List ℕ). 0 < length l → is_long c.count c.used (length l) (length l) ≡ false) (sym h) within;
}

-- what a line within the limits shows
pub within_parts : (count used : ℕ) (line : RawLine) → is_too_long count used line ≡ false → (count < most_lines) × (used + line.size ≤ longest_input)
within_parts count used line h =
    let last = or_parts (nat_le most_lines count || nat_lt longest_line (length line.text)) (nat_lt longest_input (used + line.size)) h in
    let first = or_parts (nat_le most_lines count) (nat_lt longest_line (length line.text)) last.0 in
    (leb-false most_lines count first.0, ltb-false longest_input (used + line.size) last.1)

-- ---- the last line

no_items : (xs : List ℕ) → length xs ≡ 0 → xs ≡ []
no_items [] e = refl
no_items (x ∷ xs) e = absurd (omega arith)

-- a list whose length is tested against 0
pub empty_items : (xs : List ℕ) (n : ℕ) → n ≡ length xs → eqb n 0 ≡ true → xs ≡ []
empty_items xs n len h = no_items xs (sym len ∙ eqb-true n 0 h)

pub some_items : (xs : List ℕ) (n : ℕ) → n ≡ length xs → eqb n 0 ≡ false → 0 < length xs
some_items [] n len h = absurd (eqb-false n 0 h len)
some_items (x ∷ xs) n len h = omega arith

-- ---- faults that are handed on

pub same_fault : {A B E : Type 0} (x y : E) → IsErrOf {T = A} (Err x) y → IsErrOf {T = B} (Err x) y
same_fault x y h =
    let same : x ≡ y = cc (h) in
    ap Err same
