-- Lines and pieces that are taken, against what the whole input means.
use Rattle.std.proofs.Common.{◌≡◌, ℕ, suc, ◌+◌, ◌<◌, ◌≤◌, true, false, Bool, cond, List, [], ◌∷◌, ◌++◌, Option, Some, None, Result, Ok, Err, length, refl, sym, ap, ◌∙◌, subst, append_assoc, append-nil, arith}
use Rattle.std.specs.Prelude.{IfSome, IfNone, IfErr, OnOk}
use Rattle.std.proofs.lemmas.List.{length-append}
use Rattle.bus_types.specs.Window.{Span}
use Rattle.bus_types.specs.Timeline.{end_from, end_of}
use Rattle.bus_types.proofs.Stretches.{end_from-append}
use Rattle.trace_script.specs.Input.{RawLine, lines_of, is_too_long, longest_input}
use Rattle.trace_script.specs.Cutting.{Cut, text_at, line_at, last_line, CutsOff, Holds, IsLong}
use Rattle.trace_script.specs.declared.fault.CutFault.{CutFault}
use Rattle.trace_script.specs.declared.fault.CutFault.TheVariants as cuts
use Rattle.trace_script.proofs.CutLines.{within_parts}
use Rattle.relay_node.specs.declared.feed.Stop.{Stop}
use Rattle.relay_node.specs.declared.feed.Stop.TheVariants.{BadLine, TooLong, WrongWord, ReadFault, NoMemory}
use Rattle.relay_node.specs.Feeding.{Given, Ending, Fed, text_gives, ended, feed_on, fed_from}
use Rattle.relay_node.specs.Feeding.Given.{Windows, Bad, Wrong}
use Rattle.relay_node.specs.Feeding.Ending.{Finished, BadAt, TooLongAt, WrongAt}
use Rattle.relay_node.specs.Pieces.{Sent, sent_after, next_gives, StandNext, Publishes, TakesLine, cut_stop, At, Final, final, runs_lines, runs, LeadsTo, EndsIn, StopsAt, IsWithin, TakesPart}
use Rattle.relay_node.proofs.Published.{sent_after-append, sent_after-none}

-- ---- one line

-- no line is at its end
pub no_line : (s : Sent) (count used : ℕ) → final s (fed_from (end_of s.windows) (length s.windows) count used []) ≡ record { sent = s; ending = Finished }
unfolding fed_from
no_line s count used = ap (λ (q : Sent). record { sent = q; ending = Finished }) (sent_after-none s)

-- a line that is too long
long_line : (last n count used : ℕ) (line : RawLine) (ls : List RawLine) → is_too_long count used line ≡ true → (fed_from last n count used (line ∷ ls)).ending ≡ TooLongAt (count + 1)
unfolding fed_from
long_line last n count used line ls h = rw h refl

bad_line : (last n count used : ℕ) (line : RawLine) (ls : List RawLine) → is_too_long count used line ≡ false → text_gives last n line.text ≡ Bad → (fed_from last n count used (line ∷ ls)).ending ≡ BadAt (count + 1)
unfolding fed_from
bad_line last n count used line ls h e = rw (h, e) refl

wrong_line : (last n count used : ℕ) (line : RawLine) (ls : List RawLine) → is_too_long count used line ≡ false → text_gives last n line.text ≡ Wrong → (fed_from last n count used (line ∷ ls)).ending ≡ WrongAt (count + 1)
unfolding fed_from
wrong_line last n count used line ls h e = rw (h, e) refl

-- where lines lead behind what was published
abbrev pub lines_run : Sent → ℕ → ℕ → List RawLine → Final
lines_run s count used ls = final s (fed_from (end_of s.windows) (length s.windows) count used ls)

-- a line that gives windows
good_line : (s : Sent) (count used : ℕ) (line : RawLine) (ls : List RawLine) (ws : List Span) → is_too_long count used line ≡ false → next_gives s line.text ≡ Windows ws
    → lines_run s count used (line ∷ ls) ≡ final (sent_after s ws) (fed_from (end_from (end_of s.windows) ws) (length s.windows + length ws) (count + 1) (used + line.size) ls)
unfolding fed_from
good_line s count used line ls ws h e =
    let rest : Fed = fed_from (end_from (end_of s.windows) ws) (length s.windows + length ws) (count + 1) (used + line.size) ls in
    rw (h, e) (ap (λ (q : Sent). record { sent = q; ending = rest.ending }) (sent_after-append s ws rest.windows))

-- a line that was taken
pub one_line : (s s' : Sent) (count used : ℕ) (line : RawLine) (ls : List RawLine) → is_too_long count used line ≡ false → Publishes (next_gives s line.text) s s'
    → lines_run s' (count + 1) (used + line.size) ls ≡ lines_run s count used (line ∷ ls)
one_line s s' count used line ls h p =
    let ws : List Span = p.windows in
    ap (λ (q : Sent). lines_run q (count + 1) (used + line.size) ls) p.sent
    ∙ ap (λ (last : ℕ). final (sent_after s ws) (fed_from last (length (s.windows ++ ws)) (count + 1) (used + line.size) ls)) (end_from-append 0 s.windows ws)
    ∙ ap (λ (n : ℕ). final (sent_after s ws) (fed_from (end_from (end_of s.windows) ws) n (count + 1) (used + line.size) ls)) (length-append s.windows ws)
    ∙ sym (good_line s count used line ls ws h p.is)

-- ---- where windows are told

-- those that a line gives stand next
given_next : (s : Sent) (given : Given) (line : ℕ) (rest : List Span → Fed) (all : List Span) → s.windows ++ (feed_on given line rest).windows ≡ all → StandNext (Some all) s given
given_next s (Windows ws) line rest all e = ((rest ws).windows, sym e ∙ sym (append_assoc s.windows ws (rest ws).windows))
given_next s Bad line rest all e = tt
given_next s Wrong line rest all e = tt

line_told : (s : Sent) (count used : ℕ) (line : RawLine) (ls : List RawLine) (all : List Span) → is_too_long count used line ≡ false → (lines_run s count used (line ∷ ls)).sent.windows ≡ all → StandNext (Some all) s (next_gives s line.text)
unfolding fed_from
line_told s count used line ls all h e =
    let rest : List Span → Fed = λ ws. fed_from (end_from (end_of s.windows) ws) (length s.windows + length ws) (count + 1) (used + line.size) ls in
    given_next s (next_gives s line.text) (count + 1) rest all
    (ap (λ (b : Bool). s.windows ++ (cond b (ended (TooLongAt (count + 1))) (feed_on (next_gives s line.text) (count + 1) rest)).windows) (sym h) ∙ e)

none_next : (s : Sent) (given : Given) → StandNext None s given
none_next s (Windows ws) = tt
none_next s Bad = tt
none_next s Wrong = tt

-- the line that was cut off
pub cut_next : (told : Option (List Span)) (a : At) (c : Cut) (piece end rest : List ℕ) → CutsOff a.lines piece c end rest → LeadsTo told a piece → StandNext told a.sent (next_gives a.sent (text_at c end))
cut_next None a c piece end rest cut h = none_next a.sent (next_gives a.sent (text_at c end))
cut_next (Some all) a c piece end rest cut h =
    let within = (λ i. is_too_long (sym cut.count i) (sym cut.used i) (line_at c end)) ∙ cut.within in
    line_told a.sent a.lines.count a.lines.used (line_at c end) (lines_of (rest ++ h.0)) all within
    (ap (λ (ls : List RawLine). (runs_lines a ls).sent.windows) (sym (cut.next h.0)) ∙ h.1)

-- the last line
pub last_next : (told : Option (List Span)) (a : At) (seen : List ℕ) → seen ≡ a.lines.come → lines_of a.lines.come ≡ last_line a.lines ∷ [] → is_too_long a.lines.count a.lines.used (last_line a.lines) ≡ false
    → IfSome told (λ all. (runs a []).sent.windows ≡ all) → StandNext told a.sent (next_gives a.sent seen)
last_next None a seen same whole within h = none_next a.sent (next_gives a.sent seen)
last_next (Some all) a seen same whole within h =
    subst (λ (l : List ℕ). StandNext (Some all) a.sent (next_gives a.sent l)) (sym same)
    (line_told a.sent a.lines.count a.lines.used (last_line a.lines) [] all within
    (ap (λ (ls : List RawLine). (runs_lines a ls).sent.windows) (sym (ap lines_of (append-nil a.lines.come) ∙ whole)) ∙ h))

-- what is left of a piece
pub leads_on : (told : Option (List Span)) (a b : At) (piece rest : List ℕ) → TakesPart a piece b rest → LeadsTo told a piece → LeadsTo told b rest
leads_on None a b piece rest t h = tt
leads_on (Some all) a b piece rest t h = (h.0, ap (λ (f : Final). f.sent.windows) (t.same h.0) ∙ h.1)

-- ---- the next line

-- where an input leads whose next line is this
abbrev pub next_ending : At → List RawLine → Ending
next_ending a ls = (runs_lines a ls).ending

-- a line that is too long, or want of memory
pub stops_cut : (fault : CutFault) (a : At) (piece : List ℕ) → ((n : ℕ) → fault ≡ cuts.TooLong n → IsLong a.lines piece n) → StopsAt (cut_stop fault) (EndsIn a piece)
stops_cut (cuts.TooLong n) a piece long =
    let h = long n refl in
    λ more. (let next = h.next more in
    ap (next_ending a) next.2 ∙ long_line (end_of a.sent.windows) (length a.sent.windows) a.lines.count a.lines.used next.0 next.1 next.3
    ∙ ap (λ (m : ℕ). TooLongAt m) (sym h.number))
stops_cut cuts.NoMemory a piece long = tt

-- a line that was cut off is at fault
pub stops_line : (stop : Stop) (number : ℕ) (a : At) (c : Cut) (r : Sent) (piece end rest : List ℕ) → CutsOff a.lines piece c end rest → number ≡ c.count + 1
    → TakesLine (Err stop) number (next_gives a.sent (text_at c end)) a.sent r → StopsAt stop (EndsIn a piece)
stops_line (BadLine n) number a c r piece end rest cut is bad =
    let within = (λ i. is_too_long (sym cut.count i) (sym cut.used i) (line_at c end)) ∙ cut.within in
    let numbered : a.lines.count + 1 ≡ n = ap (λ (m : ℕ). m + 1) (sym cut.count) ∙ sym is ∙ sym bad.0 in
    λ more. ap (next_ending a) (cut.next more) ∙ bad_line (end_of a.sent.windows) (length a.sent.windows) a.lines.count a.lines.used (line_at c end) (lines_of (rest ++ more)) within bad.1
    ∙ ap (λ (m : ℕ). BadAt m) numbered
stops_line (TooLong n) number a c r piece end rest cut is bad = absurd bad
stops_line (WrongWord n) number a c r piece end rest cut is bad =
    let within = (λ i. is_too_long (sym cut.count i) (sym cut.used i) (line_at c end)) ∙ cut.within in
    let numbered : a.lines.count + 1 ≡ n = ap (λ (m : ℕ). m + 1) (sym cut.count) ∙ sym is ∙ sym bad.0 in
    λ more. ap (next_ending a) (cut.next more) ∙ wrong_line (end_of a.sent.windows) (length a.sent.windows) a.lines.count a.lines.used (line_at c end) (lines_of (rest ++ more)) within bad.1
    ∙ ap (λ (m : ℕ). WrongAt m) numbered
stops_line ReadFault number a c r piece end rest cut is bad = absurd bad
stops_line NoMemory number a c r piece end rest cut is bad = tt

suc_is : (n : ℕ) → suc n ≡ 1 + n
suc_is n = omega arith

-- or it was taken
pub took_line : (a : At) (c c2 : Cut) (r : Sent) (piece end rest : List ℕ) → CutsOff a.lines piece c end rest → Publishes (next_gives a.sent (text_at c end)) a.sent r
    → c2 ≡ record { count = c.count + 1; used = c.used + length (text_at c end) + 1; come = [] } → TakesPart a piece (record { sent = r; lines = c2 }) rest
took_line a c c2 r piece end rest cut took is =
    let within = within_parts c.count c.used (line_at c end) cut.within in
    let same_within = (λ i. is_too_long (sym cut.count i) (sym cut.used i) (line_at c end)) ∙ cut.within in
    let text : length (text_at c end) ≡ length a.lines.come + length end = ap (λ (l : List ℕ). length l) cut.text ∙ length-append a.lines.come end in
    let parts : length piece ≡ length end + (1 + length rest) = ap (λ (l : List ℕ). length l) cut.parts ∙ length-append end (10 ∷ rest) ∙ ap (λ (n : ℕ). length end + n) (suc_is (length rest)) in
    let used : c.used + length (text_at c end) + 1 ≡ a.lines.used + (length (text_at c end) + 1) = omega (arith, cut.used) in
    let counted : c.count + 1 ≡ a.lines.count + 1 = ap (λ (n : ℕ). n + 1) cut.count in
    subst (λ (x : Cut). TakesPart a piece (record { sent = r; lines = x }) rest) (sym is) (record {
      within = omega (arith, within.1);
      size = omega (arith, text, parts, cut.used);
      same = λ more.
          (λ i. lines_run r (counted i) (used i) (lines_of (rest ++ more)))
          ∙ one_line a.sent r a.lines.count a.lines.used (line_at c end) (lines_of (rest ++ more)) same_within took
          ∙ ap (runs_lines a) (sym (cut.next more));
    })

-- what stands behind it is shorter
pub cut_shorter : (a c : Cut) (piece end rest : List ℕ) → CutsOff a piece c end rest → length rest < length piece
cut_shorter a c piece end rest cut =
    let parts : length piece ≡ length end + (1 + length rest) = ap (λ (l : List ℕ). length l) cut.parts ∙ length-append end (10 ∷ rest) ∙ ap (λ (n : ℕ). length end + n) (suc_is (length rest)) in
    omega (arith, parts)

-- what is held is within the limits of an input
last_within : {X : Type 0} (last : Option X) (c : Cut) → IfNone last (c.come ≡ []) → IfSome last (λ (x : X). is_too_long c.count c.used (last_line c) ≡ false) → c.used ≤ longest_input → c.used + length c.come ≤ longest_input
last_within None c none some used = subst (λ (l : List ℕ). c.used + length l ≤ longest_input) (sym none) (omega arith)
last_within (Some x) c none some used = (within_parts c.count c.used (last_line c) some).1

-- a piece that ends no line
pub held_piece : {X : Type 0} (last : Option X) (a : At) (c : Cut) (piece : List ℕ) → IsWithin a → Holds a.lines piece c → IfNone last (c.come ≡ []) → IfSome last (λ (x : X). is_too_long c.count c.used (last_line c) ≡ false)
    → TakesPart a piece (record { sent = a.sent; lines = c }) []
held_piece last a c piece h held none some =
    let used : c.used ≡ a.lines.used = ap (λ (x : Cut). x.used) held.held in
    let come : length c.come ≡ length a.lines.come + length piece = ap (λ (x : Cut). length x.come) held.held ∙ length-append a.lines.come piece in
    record {
      within = last_within last c none some (omega (arith, h, used));
      size = omega (arith, used, come);
      same = λ more.
          (λ i. runs (record { sent = a.sent; lines = held.held i }) more)
          ∙ ap (λ (l : List ℕ). runs_lines a (lines_of l)) (append_assoc a.lines.come piece more);
    }

-- ---- lines of a piece

-- before the first line
pub takes_none : (a : At) (piece : List ℕ) → IsWithin a → TakesPart a piece a piece
takes_none a piece h = record { within = h; size = refl; same = λ more. refl }

-- behind those that were taken
pub takes_more : (a b c : At) (piece rest more : List ℕ) → TakesPart a piece b rest → TakesPart b rest c more → TakesPart a piece c more
takes_more a b c piece rest more h t = record {
  within = t.within;
  size = t.size ∙ h.size;
  same = λ x. t.same x ∙ h.same x;
}

-- an ending that more bytes lead to
ends_behind : (a b : At) (piece rest : List ℕ) (ending : Ending) → TakesPart a piece b rest → EndsIn b rest ending → EndsIn a piece ending
ends_behind a b piece rest ending h t = λ more. ap (λ (f : Final). f.ending) (sym (h.same more)) ∙ t more

pub stops_behind : (stop : Stop) (a b : At) (piece rest : List ℕ) → TakesPart a piece b rest → StopsAt stop (EndsIn b rest) → StopsAt stop (EndsIn a piece)
stops_behind (BadLine n) a b piece rest h t = ends_behind a b piece rest (BadAt n) h t
stops_behind (TooLong n) a b piece rest h t = ends_behind a b piece rest (TooLongAt n) h t
stops_behind (WrongWord n) a b piece rest h t = ends_behind a b piece rest (WrongAt n) h t
stops_behind ReadFault a b piece rest h t = absurd t
stops_behind NoMemory a b piece rest h t = tt

-- ---- the last line

pub finish_none : (a : At) → a.lines.come ≡ [] → runs a [] ≡ record { sent = a.sent; ending = Finished }
finish_none a none =
    ap (λ (l : List ℕ). runs_lines a (lines_of (l ++ []))) none
    ∙ no_line a.sent a.lines.count a.lines.used

-- the line that is left
last_lines : (a : At) → lines_of a.lines.come ≡ last_line a.lines ∷ [] → lines_of (a.lines.come ++ []) ≡ last_line a.lines ∷ []
last_lines a all = ap lines_of (append-nil a.lines.come) ∙ all

pub finish_line : (a : At) (seen : List ℕ) (r : Sent) → seen ≡ a.lines.come → lines_of a.lines.come ≡ last_line a.lines ∷ [] → is_too_long a.lines.count a.lines.used (last_line a.lines) ≡ false
    → Publishes (next_gives a.sent seen) a.sent r → runs a [] ≡ record { sent = r; ending = Finished }
finish_line a seen r same all within took =
    let here = subst (λ (l : List ℕ). Publishes (next_gives a.sent l) a.sent r) same took in
    ap (runs_lines a) (last_lines a all)
    ∙ sym (one_line a.sent r a.lines.count a.lines.used (last_line a.lines) [] within here)
    ∙ no_line r (a.lines.count + 1) (a.lines.used + length a.lines.come)

pub finish_stops : (stop : Stop) (number : ℕ) (a : At) (seen : List ℕ) (r : Sent) → number ≡ a.lines.count + 1 → seen ≡ a.lines.come → lines_of a.lines.come ≡ last_line a.lines ∷ []
    → is_too_long a.lines.count a.lines.used (last_line a.lines) ≡ false → TakesLine (Err stop) number (next_gives a.sent seen) a.sent r
    → StopsAt stop (λ ending. (runs a []).ending ≡ ending)
finish_stops (BadLine n) number a seen r is same all within bad =
    ap (next_ending a) (last_lines a all)
    ∙ bad_line (end_of a.sent.windows) (length a.sent.windows) a.lines.count a.lines.used (last_line a.lines) [] within (ap (next_gives a.sent) (sym same) ∙ bad.1)
    ∙ ap (λ (m : ℕ). BadAt m) (sym is ∙ sym bad.0)
finish_stops (TooLong n) number a seen r is same all within bad = absurd bad
finish_stops (WrongWord n) number a seen r is same all within bad =
    ap (next_ending a) (last_lines a all)
    ∙ wrong_line (end_of a.sent.windows) (length a.sent.windows) a.lines.count a.lines.used (last_line a.lines) [] within (ap (next_gives a.sent) (sym same) ∙ bad.1)
    ∙ ap (λ (m : ℕ). WrongAt m) (sym is ∙ sym bad.0)
finish_stops ReadFault number a seen r is same all within bad = absurd bad
finish_stops NoMemory number a seen r is same all within bad = tt

-- what the last line says of the whole
pub finishes : (result : Result Unit Stop) (number : ℕ) (a : At) (seen : List ℕ) (r : Sent) → seen ≡ a.lines.come → lines_of a.lines.come ≡ last_line a.lines ∷ []
    → is_too_long a.lines.count a.lines.used (last_line a.lines) ≡ false → TakesLine result number (next_gives a.sent seen) a.sent r
    → OnOk result (runs a [] ≡ record { sent = r; ending = Finished })
finishes (Ok u) number a seen r same all within took = finish_line a seen r same all within took
finishes (Err stop) number a seen r same all within took = tt

pub finishes_at_fault : (result : Result Unit Stop) (number : ℕ) (a : At) (seen : List ℕ) (r : Sent) → number ≡ a.lines.count + 1 → seen ≡ a.lines.come → lines_of a.lines.come ≡ last_line a.lines ∷ []
    → is_too_long a.lines.count a.lines.used (last_line a.lines) ≡ false → TakesLine result number (next_gives a.sent seen) a.sent r
    → IfErr result (λ stop. StopsAt stop (λ ending. (runs a []).ending ≡ ending))
finishes_at_fault (Ok u) number a seen r is same all within took = tt
finishes_at_fault (Err stop) number a seen r is same all within took = finish_stops stop number a seen r is same all within took
