-- Texts that are appended, and the text of a line.
use Rattle.std.proofs.Common.{◌≡◌, ℕ, ◌≤◌, true, ◌&&◌, nat_le, List, [], ◌∷◌, ◌++◌, length, take, drop, map, codes, Some, None, Result, Ok, Err, refl, sym, ap, ◌∙◌, append_assoc, append-nil, arith}
use Rattle.std.specs.Prelude.{decimal, flat_map, IfOk}
use Rattle.std.specs.List.{join_with_byte}
use Rattle.std.proofs.lemmas.Bool.{and_parts, leb-true, le-leb, ltb-true, lt-ltb}
use Rattle.std.proofs.lemmas.Bool.Decides.{nat_tests}
use Rattle.std.proofs.lemmas.List.{take-append-drop, take_at}
use Rattle.bus_types.specs.declared.change.Change.{Change}
use Rattle.bus_types.specs.declared.limits.TheConstants.{MAX_SCN}
use Rattle.trace_script.specs.declared.fault.LineFault.{LineFault}
use Rattle.trace_script.specs.declared.line.Line.{Line}
use Rattle.trace_script.specs.declared.line.Line.TheVariants.{Blank, Relay, Commit, Gen, Feed, Poll, Stream, Log, Apply, Trim}
use Rattle.trace_script.specs.Lines.{line_of}
use Rattle.trace_script.specs.Spelling.{IsLine, IsInRange, IsRoom, IsCount, IsMost, IsGenerated, Spells, change_text, line_text, is_room, is_count, is_most, is_generated, is_in_range}
use Rattle.trace_script.specs.Reading.{Reads}
use Rattle.bus_types.specs.Text.{Appends}
use Rattle.trace_script.proofs.LineTexts.{line_again, line_taken}

-- ---- texts that are appended

-- what stands, where a longer text stands
pub stands : (old text mid new : List ℕ) → mid ≡ old ++ text → take (length mid) new ≡ mid → take (length old) new ≡ old
stands old text mid new longer h =
    let whole : (old ++ text) ++ drop (length mid) new ≡ new = ap (λ (l : List ℕ). l ++ drop (length mid) new) (sym longer ∙ sym h) ∙ take-append-drop (length mid) new in
    rw (← whole, append_assoc) (take_at old (text ++ drop (length mid) new) (length old) refl)

-- a text behind one that was appended
pub Appends-after : {T E : Type 0} (r : Result T E) (front text old mid new : List ℕ) → mid ≡ old ++ front → Appends r text mid new → Appends r (front ++ text) old new
Appends-after (Ok done) front text old mid new first h = h ∙ ap (λ (l : List ℕ). l ++ text) first ∙ append_assoc old front text
Appends-after (Err fault) front text old mid new first h = stands old front mid new first h

pub ruleset appending = (Appends-after, append_assoc)

-- ---- the text of a line

-- each change, a space before it
abbrev pub spaced : List Change → List ℕ
spaced changes = flat_map (λ c. 32 ∷ change_text c) changes

join-spaced : (word : List ℕ) (changes : List Change) → join_with_byte 32 (word ∷ map change_text changes) ≡ word ++ spaced changes
join-spaced word [] = sym (append-nil word)
join-spaced word (c ∷ cs) = ap (λ (l : List ℕ). word ++ 32 ∷ l) (join-spaced (change_text c) cs)

pub commit_text : (scn : ℕ) (changes : List Change) → line_text (Commit scn changes) ≡ codes "commit " ++ decimal scn ++ spaced changes
commit_text scn changes = ap (λ (l : List ℕ). codes "commit " ++ l) (join-spaced (decimal scn) changes)

pub spelled : (line : Line) → IsLine line → Spells (line_text line) line
spelled Blank h = (refl, refl)
spelled line h = (h, refl)

pub read_back : (line : Line) → IsLine line → line_of (line_text line) ≡ Some line
read_back line h = line_again (line_text line) line (spelled line h)

-- what a text spells is in range
in_range : (text : List ℕ) (line : Line) → Spells text line → IsInRange line
in_range text (Relay bytes windows) h = h.0
in_range text (Commit scn changes) h = h.0.1
in_range text (Gen seed count) h = h.0
in_range text (Feed count) h = h.0
in_range text (Poll name max) h = h.0.1
in_range text (Stream scn filter max) h = (h.0.0, h.0.2)
in_range text (Log count) h = h.0
in_range text (Apply count) h = h.0
in_range text (Trim scn) h = h.0
in_range text line h = tt

-- ---- the ranges as tests

count_tested : (count : ℕ) → is_count count ≡ true → IsCount count
count_tested count h = let p = and_parts (nat_le 1 count) (nat_le count 1000000) h in (leb-true 1 count p.0, leb-true count 1000000 p.1)

most_tested : (max : ℕ) → is_most max ≡ true → IsMost max
most_tested max h = let p = and_parts (nat_le 1 max) (nat_le max 16777216) h in (leb-true 1 max p.0, leb-true max 16777216 p.1)

room_tested : (bytes windows : ℕ) → is_room bytes windows ≡ true → IsRoom bytes windows
room_tested bytes windows h = grind (arith, nat_tests)

stream_tested : (scn max : ℕ) → (nat_le scn MAX_SCN && is_most max) ≡ true → (scn ≤ MAX_SCN) × IsMost max
stream_tested scn max h = let p = and_parts (nat_le scn MAX_SCN) (is_most max) h in (leb-true scn MAX_SCN p.0, most_tested max p.1)

generated_tested : (seed count : ℕ) → is_generated seed count ≡ true → IsGenerated seed count
generated_tested seed count h = grind (arith, nat_tests)

pub range_tested : (line : Line) → is_in_range line ≡ true → IsInRange line
range_tested (Relay bytes windows) h = room_tested bytes windows h
range_tested (Commit scn changes) h = ltb-true 0 (length changes) h
range_tested (Gen seed count) h = generated_tested seed count h
range_tested (Feed count) h = count_tested count h
range_tested (Poll name max) h = most_tested max h
range_tested (Stream scn filter max) h = stream_tested scn max h
range_tested (Log count) h = count_tested count h
range_tested (Apply count) h = count_tested count h
range_tested (Trim scn) h = leb-true scn MAX_SCN h
range_tested line h = tt

count_test : (count : ℕ) → IsCount count → is_count count ≡ true
count_test count h = rw (le-leb 1 count h.0, le-leb count 1000000 h.1) refl

most_test : (max : ℕ) → IsMost max → is_most max ≡ true
most_test max h = rw (le-leb 1 max h.0, le-leb max 16777216 h.1) refl

room_test : (bytes windows : ℕ) → IsRoom bytes windows → is_room bytes windows ≡ true
room_test bytes windows h = rw (le-leb 1048576 bytes h.0, le-leb bytes 268435456 h.1, le-leb 1 windows h.2, le-leb windows 65536 h.3) refl

generated_test : (seed count : ℕ) → IsGenerated seed count → is_generated seed count ≡ true
generated_test seed count h = rw (le-leb seed 2147483647 h.0, le-leb 1 count h.1, le-leb count 100000 h.2) refl

range_test : (line : Line) → IsInRange line → is_in_range line ≡ true
range_test (Relay bytes windows) h = room_test bytes windows h
range_test (Commit scn changes) h = lt-ltb 0 (length changes) h
range_test (Gen seed count) h = generated_test seed count h
range_test (Feed count) h = count_test count h
range_test (Poll name max) h = most_test max h
range_test (Stream scn filter max) h = rw (le-leb scn MAX_SCN h.0) (most_test max h.1)
range_test (Log count) h = count_test count h
range_test (Apply count) h = count_test count h
range_test (Trim scn) h = le-leb scn MAX_SCN h
range_test line h = refl

pub all_in_range : (result : Result Line LineFault) (text : List ℕ) → Reads (λ line. line) result (line_of text) → IfOk result (λ line. is_in_range line ≡ true)
all_in_range (Ok line) text h = range_test line (in_range text line (line_taken text line h))
all_in_range (Err fault) text h = tt
