-- Sessions: lines and pieces that are taken.
use Rattle.std.proofs.Common.{◌≡◌, ℕ, suc, ◌+◌, ◌≤◌, false, List, [], ◌∷◌, ◌++◌, Option, Some, None, Result, Ok, Err, length, take, drop, refl, sym, ap, ◌∙◌, subst, append_assoc, append-nil, arith}
use Rattle.std.specs.Prelude.{IfSome, IfNone}
use Rattle.std.specs.Io.{StartsWith}
use Rattle.std.specs.Io.KnownBytes.{Appends}
use Rattle.std.proofs.KnownBytes.{Appends-nil, Appends-trans}
use Rattle.std.proofs.lemmas.List.{length-append, take-append-drop}
use Rattle.trace_script.specs.Input.{RawLine, lines_of, IsPart, is_too_long, longest_input}
use Rattle.trace_script.specs.Cutting.{Cut, text_at, line_at, last_line, CutsOff, Holds, IsLong}
use Rattle.trace_script.specs.declared.fault.CutFault.{CutFault}
use Rattle.trace_script.specs.declared.fault.CutFault.TheVariants.{TooLong as LongLine, NoMemory as NoRoomForLine}
use Rattle.trace_script.proofs.LineLaws.{lines_of-line, IsWhole-line, IsWhole-append, IsPart-append}
use Rattle.trace_script.proofs.CutLines.{within_parts}
use Rattle.history_core.specs.Run.{Played, before, played, text_step}
use Rattle.history_core.specs.Run.Ending.{BadAt, TooLongAt}
use Rattle.history_core.specs.Bus.{Parts, state_of, IsSound, TookLine}
use Rattle.bus_top.specs.declared.session.Session.{Session}
use Rattle.bus_top.specs.declared.session.Stop.{Stop}
use Rattle.bus_top.specs.declared.session.Stop.TheVariants.{BadLine, TooLong, WriteFault, NoMemory}
use Rattle.bus_top.specs.Session.{Stops, run_bytes, TakesLine, IsSession, TakesNext, HoldsPiece, TookSome, TookLines, StopsIn, Feeds, Sends, SendsFront, Finishes, cut_stop}
use Rattle.bus_top.proofs.Streams.{before-before, no_line, stops_long, bad_stops, goes_on, starts}

-- what a piece does that comes next, whatever follows it
abbrev pub runs_on : Session → List ℕ → List ℕ → List ℕ → Played
runs_on s text piece more = before text (run_bytes s.bus s.lines (s.lines.come ++ (piece ++ more)))

-- ---- the next line

-- a line that is too long stops the run
stops_too_long : (n : ℕ) (s : Session) (piece text : List ℕ) → IsSound s.bus → IsLong s.lines piece n → Stops (TooLong n) text text s.bus (runs_on s text piece)
stops_too_long n s piece text sound h =
    let count : ℕ = s.lines.count in
    let used : ℕ = s.lines.used in (
      sound,
      λ more. (let next = h.next more in
          ap (λ (ls : List RawLine). before text (played (state_of s.bus) count used ls)) next.2 ∙ stops_long text (state_of s.bus) count used next.0 next.3 next.1
          ∙ ap (λ (m : ℕ). record { text = text; ending = TooLongAt m; state = state_of s.bus }) (sym h.number)),
    )

-- so does want of memory
pub stops_cut : (fault : CutFault) (s : Session) (piece text : List ℕ) → IsSession s → ((n : ℕ) → fault ≡ LongLine n → IsLong s.lines piece n) → Stops (cut_stop fault) text text s.bus (runs_on s text piece)
stops_cut (LongLine n) s piece text h long = stops_too_long n s piece text h.sound (long n refl)
stops_cut NoRoomForLine s piece text h long = refl

-- a line that was cut off stops the run
pub stops_line : (stop : Stop) (number : ℕ) (s : Session) (c : Cut) (b : Parts) (piece end rest text text' : List ℕ) → IsSession s → CutsOff s.lines piece c end rest → number ≡ c.count + 1 → TakesLine (Err stop) number (text_step (state_of s.bus) (text_at c end)) s.bus b text text' → Stops stop text text' b (runs_on s text piece)
stops_line (BadLine n) number s c b piece end rest text text' h cut is bad =
    let count : ℕ = s.lines.count in
    let used : ℕ = s.lines.used in
    let within = (λ i. is_too_long (sym cut.count i) (sym cut.used i) (line_at c end)) ∙ cut.within in
    let stop = bad_stops text text' s.bus b count used (line_at c end) h.sound within bad.1 bad.2 bad.3 in
    let numbered : count + 1 ≡ n = ap (λ (m : ℕ). m + 1) (sym cut.count) ∙ sym is ∙ sym bad.0 in (
      stop.0,
      λ more. ap (λ (ls : List RawLine). before text (played (state_of s.bus) count used ls)) (cut.next more) ∙ stop.1 (lines_of (rest ++ more))
          ∙ ap (λ (m : ℕ). record { text = text'; ending = BadAt m; state = state_of b }) numbered,
    )
stops_line (TooLong n) number s c b piece end rest text text' h cut is bad = absurd bad
stops_line WriteFault number s c b piece end rest text text' h cut is bad = absurd bad
stops_line NoMemory number s c b piece end rest text text' h cut is bad = bad

-- or it was taken
pub took_next : (s : Session) (c c2 : Cut) (b : Parts) (piece end rest text text' : List ℕ) → IsSession s → CutsOff s.lines piece c end rest → TookLine (text_step (state_of s.bus) (text_at c end)) b (Some text) (Some text') → c2 ≡ record { count = c.count + 1; used = c.used + length (text_at c end) + 1; come = [] } → TakesNext s piece (record { bus = b; lines = c2 }) rest text text'
took_next s c c2 b piece end rest text text' h cut took is =
    let within = within_parts c.count c.used (line_at c end) cut.within in
    let sized : c.used + length (text_at c end) + 1 ≡ c.used + (length (text_at c end) + 1) = omega arith in
    let lines-are : (more : List ℕ) → line_at c end ∷ lines_of more ≡ lines_of ((s.lines.come ++ end) ++ 10 ∷ more) = λ more.
    (λ i. (record { text = cut.text i; size = length (cut.text i) + 1 }) ∷ lines_of more) ∙ sym (lines_of-line (s.lines.come ++ end) more (IsPart-append s.lines.come end h.part cut.part)) in
    subst (λ (x : Cut). TakesNext s piece (record { bus = b; lines = x }) rest text text') (sym is) (record {
      end = end;
      parts = cut.parts;
      session = record { sound = took.sound; part = tt; within = omega (arith, within.1) };
      none = refl;
      used = (λ i. cut.used i + length (cut.text i) + 1);
      same = λ more.
          ap (λ (n : ℕ). before text' (played (state_of b) (c.count + 1) n (lines_of more))) sized
          ∙ goes_on text text' took.text (state_of s.bus) (state_of b) c.count c.used (line_at c end) took.wrote cut.within took.is (lines_of more)
          ∙ (λ i. before text (played (state_of s.bus) (cut.count i) (cut.used i) (lines-are more i)));
    })

-- what is held is within the limits of an input
last_within : {X : Type 0} (last : Option X) (c : Cut) → IfNone last (c.come ≡ []) → IfSome last (λ (x : X). is_too_long c.count c.used (last_line c) ≡ false) → c.used ≤ longest_input → c.used + length c.come ≤ longest_input
last_within None c none some used = subst (λ (l : List ℕ). c.used + length l ≤ longest_input) (sym none) (omega arith)
last_within (Some x) c none some used = (within_parts c.count c.used (last_line c) some).1

-- a piece that ends no line
pub held_piece : {X : Type 0} (last : Option X) (s : Session) (c : Cut) (piece : List ℕ) → IsSession s → Holds s.lines piece c → IfNone last (c.come ≡ []) → IfSome last (λ (x : X). is_too_long c.count c.used (last_line c) ≡ false) → HoldsPiece s piece (record { bus = s.bus; lines = c })
held_piece last s c piece h held none some =
    let used : c.used ≡ s.lines.used = ap (λ (x : Cut). x.used) held.held in
    let low = h.within in
    record {
      session = record {
        sound = h.sound;
        part = subst (λ (x : Cut). IsPart x.come) (sym held.held) (IsPart-append s.lines.come piece h.part held.part);
        within = last_within last c none some (omega arith);
      };
      bus = refl;
      held = held;
    }

-- ---- lines of a piece

suc_is : (n : ℕ) → suc n ≡ 1 + n
suc_is n = omega arith

-- before the first line
took_none : (s : Session) (piece text : List ℕ) → IsSession s → TookSome (s.lines.come ++ piece) piece s text s text
took_none s piece text h =
    let both = length-append s.lines.come piece in
    record { whole = []; parts = refl; lines = tt; session = h; size = omega arith; same = λ x. refl }

-- after one more line
took_more : (come rest more : List ℕ) (s : Session) (text : List ℕ) (s1 : Session) (text1 : List ℕ) (s2 : Session) (text2 : List ℕ) → TookSome come rest s text s1 text1 → TakesNext s1 rest s2 more text1 text2 → TookSome come more s text s2 text2
took_more come rest more s text s1 text1 s2 text2 h t =
    let line : List ℕ = t.end in
    let ended : List ℕ = (s1.lines.come ++ line) ++ 10 ∷ [] in
    let regroup : (x : List ℕ) → ended ++ x ≡ (s1.lines.come ++ line) ++ 10 ∷ x = λ x. append_assoc (s1.lines.come ++ line) (10 ∷ []) x in
    let rest-is : s1.lines.come ++ rest ≡ ended ++ more = ap (λ (l : List ℕ). s1.lines.come ++ l) t.parts ∙ sym (append_assoc s1.lines.come line (10 ∷ more)) ∙ sym (regroup more) in
    let used = t.used in
    let size = h.size in
    let one = length-append s1.lines.come line in
    let two : length rest ≡ length line + (1 + length more) = ap (λ (l : List ℕ). length l) t.parts ∙ length-append line (10 ∷ more) ∙ ap (λ (n : ℕ). length line + n) (suc_is (length more)) in
    let none : length s2.lines.come ≡ 0 = ap (λ (l : List ℕ). length l) t.none in
    record {
      whole = h.whole ++ ended;
      parts = h.parts ∙ ap (λ (l : List ℕ). h.whole ++ l) rest-is ∙ sym (append_assoc h.whole ended more) ∙ ap (λ (l : List ℕ). (h.whole ++ ended) ++ (l ++ more)) (sym t.none);
      lines = IsWhole-append h.whole ended h.lines (IsWhole-line (s1.lines.come ++ line));
      session = t.session;
      size = omega arith;
      same = λ x. t.same x ∙ h.same ((s1.lines.come ++ line) ++ 10 ∷ x) ∙ ap (λ (l : List ℕ). before text (run_bytes s.bus s.lines l)) (ap (λ (l : List ℕ). h.whole ++ l) (sym (regroup x)) ∙ sym (append_assoc h.whole ended x));
    }

-- whole lines were taken, and the next one found no memory
took_lines : (come rest : List ℕ) (s s1 : Session) (text1 text2 : List ℕ) → TookSome come rest s [] s1 text1 → text2 ≡ text1 → TookLines come s [] text2
took_lines come rest s s1 text1 text2 h e = record {
  whole = h.whole;
  rest = s1.lines.come ++ rest;
  parts = h.parts;
  lines = h.lines;
  state = state_of s1.bus;
  count = s1.lines.count;
  used = s1.lines.used;
  same = λ more. ap (λ (t : List ℕ). before t (run_bytes s1.bus s1.lines more)) e ∙ h.same more;
}

-- what the run is behind the lines that were taken
took_on : (come rest : List ℕ) (s s1 : Session) (text1 : List ℕ) → TookSome come rest s [] s1 text1 → (r : List ℕ) → run_bytes s.bus s.lines (come ++ r) ≡ runs_on s1 text1 rest r
took_on come rest s s1 text1 h r =
    ap (run_bytes s.bus s.lines) (ap (λ (l : List ℕ). l ++ r) h.parts ∙ append_assoc h.whole (s1.lines.come ++ rest) r ∙ ap (λ (l : List ℕ). h.whole ++ l) (append_assoc s1.lines.come rest r)) ∙ sym (h.same (s1.lines.come ++ (rest ++ r)))

-- the run stops behind lines that were taken
took_err : (stop : Stop) (come rest : List ℕ) (s s1 : Session) (text1 text2 : List ℕ) (b : Parts) → TookSome come rest s [] s1 text1 → Stops stop text1 text2 b (runs_on s1 text1 rest) → StopsIn stop come s text2 b
took_err (BadLine n) come rest s s1 text1 text2 b h t = (t.0, λ r. took_on come rest s s1 text1 h r ∙ t.1 r)
took_err (TooLong n) come rest s s1 text1 text2 b h t = (t.0, λ r. took_on come rest s s1 text1 h r ∙ t.1 r)
took_err WriteFault come rest s s1 text1 text2 b h t = absurd t
took_err NoMemory come rest s s1 text1 text2 b h t = took_lines come rest s s1 text1 text2 h t

-- what is left of a piece was held
took_rest : (come rest : List ℕ) (s s1 s2 : Session) (text1 : List ℕ) → TookSome come rest s [] s1 text1 → HoldsPiece s1 rest s2 → TookSome come [] s [] s2 text1
took_rest come rest s s1 s2 text1 h p =
    let held = p.held.held in
    let kept : s2.lines.come ≡ s1.lines.come ++ rest = ap (λ (c : Cut). c.come) held in
    let used : s2.lines.used ≡ s1.lines.used = ap (λ (c : Cut). c.used) held in
    let size = h.size in
    let both = ap (λ (l : List ℕ). length l) kept ∙ length-append s1.lines.come rest in
    record {
      whole = h.whole;
      parts = h.parts ∙ ap (λ (l : List ℕ). h.whole ++ l) (sym kept ∙ sym (append-nil s2.lines.come));
      lines = h.lines;
      session = p.session;
      size = omega arith;
      same = λ x. (λ i. before text1 (played (state_of (p.bus i)) (held i).count (held i).used (lines_of x))) ∙ h.same x;
    }

-- ---- text that is sent before the rest is gathered

-- a line, with text before what was gathered
behind : (sent : List ℕ) (s : Session) (piece : List ℕ) (s' : Session) (rest text text' : List ℕ) → TakesNext s piece s' rest text text' → TakesNext s piece s' rest (sent ++ text) (sent ++ text')
behind sent s piece s' rest text text' h = record {
  end = h.end;
  parts = h.parts;
  session = h.session;
  none = h.none;
  used = h.used;
  same = λ more. sym (before-before sent text' (run_bytes s'.bus s'.lines more)) ∙ ap (before sent) (h.same more) ∙ before-before sent text (run_bytes s.bus s.lines ((s.lines.come ++ h.end) ++ 10 ∷ more));
}

-- a stop likewise
stops_behind : (stop : Stop) (sent : List ℕ) (s : Session) (piece text text' : List ℕ) (b : Parts) → Stops stop text text' b (runs_on s text piece) → Stops stop (sent ++ text) (sent ++ text') b (runs_on s (sent ++ text) piece)
stops_behind (BadLine n) sent s piece text text' b h = (h.0, λ more. sym (before-before sent text (run_bytes s.bus s.lines (s.lines.come ++ (piece ++ more)))) ∙ ap (before sent) (h.1 more))
stops_behind (TooLong n) sent s piece text text' b h = (h.0, λ more. sym (before-before sent text (run_bytes s.bus s.lines (s.lines.come ++ (piece ++ more)))) ∙ ap (before sent) (h.1 more))
stops_behind WriteFault sent s piece text text' b h = absurd h
stops_behind NoMemory sent s piece text text' b h = ap (λ (t : List ℕ). sent ++ t) h

-- so far lines of a piece were taken; what they print was written in part, and the rest is gathered
pub record Fed (come rest : List ℕ) (s s' : Session) (written written' : Option (List ℕ)) (gathered : List ℕ) : Type 0 where
  pub sent : List ℕ
  pub wrote : Appends written written' sent
  pub took : TookSome come rest s [] s' (sent ++ gathered)

-- before the first line
pub fed_none : (s : Session) (piece text : List ℕ) (written : Option (List ℕ)) → IsSession s → text ≡ [] → Fed (s.lines.come ++ piece) piece s s written written text
fed_none s piece text written h none = record { sent = []; wrote = Appends-nil written; took = subst (λ (t : List ℕ). TookSome (s.lines.come ++ piece) piece s [] s t) (sym none) (took_none s piece [] h) }

-- after one more line, of whose text and what was gathered some was sent
pub fed_more : (come rest more : List ℕ) (s s1 s2 : Session) (written written1 written2 : Option (List ℕ)) (text1 text2 text3 : List ℕ) → Fed come rest s s1 written written1 text1 → TakesNext s1 rest s2 more text1 text2 → Sends written1 written2 text2 text3 → Fed come more s s2 written written2 text3
fed_more come rest more s s1 s2 written written1 written2 text1 text2 text3 h t sends =
    let took = took_more come rest more s [] s1 (h.sent ++ text1) s2 (h.sent ++ text2) h.took (behind h.sent s1 rest s2 more text1 text2 t) in
    record {
      sent = h.sent ++ sends.0;
      wrote = Appends-trans written written1 written2 h.sent sends.0 h.wrote sends.1;
      took = subst (TookSome come more s [] s2) (ap (λ (l : List ℕ). h.sent ++ l) sends.2 ∙ sym (append_assoc h.sent sends.0 text3)) took;
    }

-- a line stops the run
pub fed_err : (stop : Stop) (come rest : List ℕ) (s s1 s2 : Session) (written written1 : Option (List ℕ)) (text1 text2 : List ℕ) → Fed come rest s s1 written written1 text1 → Stops stop text1 text2 s2.bus (runs_on s1 text1 rest) → Feeds (Err stop) come s s2 written written1 text2
fed_err stop come rest s s1 s2 written written1 text1 text2 h t = record {
  sent = h.sent;
  wrote = h.wrote;
  takes = took_err stop come rest s s1 (h.sent ++ text1) (h.sent ++ text2) s2.bus h.took (stops_behind stop h.sent s1 rest text1 text2 s2.bus t);
}

-- a front of a text, and the whole of it
front_starts : (sent text more full : List ℕ) (n : ℕ) → full ≡ (sent ++ text) ++ more → StartsWith full ((sent ++ take n text) ++ [])
front_starts sent text more full n e =
    let front : List ℕ = (sent ++ take n text) ++ [] in
    let parts : full ≡ front ++ (drop n text ++ more) =
    e ∙ ap (λ (l : List ℕ). (sent ++ l) ++ more) (sym (take-append-drop n text)) ∙ ap (λ (l : List ℕ). l ++ more) (sym (append_assoc sent (take n text) (drop n text)))
    ∙ append_assoc (sent ++ take n text) (drop n text) more ∙ ap (λ (l : List ℕ). l ++ (drop n text ++ more)) (sym (append-nil (sent ++ take n text))) in
    subst (λ (l : List ℕ). StartsWith l front) (sym parts) (starts front (drop n text ++ more))

-- the output failed behind a line
pub fed_breaks : (stop : Stop) (come rest more : List ℕ) (s s1 s2 : Session) (written written1 written2 : Option (List ℕ)) (text1 text2 text3 : List ℕ) → Fed come rest s s1 written written1 text1 → TakesNext s1 rest s2 more text1 text2 → (text3 ≡ []) × SendsFront written1 written2 text2 → stop ≡ WriteFault → Feeds (Err stop) come s s2 written written2 text3
fed_breaks stop come rest more s s1 s2 written written1 written2 text1 text2 text3 h t breaks is =
    let n : ℕ = breaks.1.0 in
    let took = took_more come rest more s [] s1 (h.sent ++ text1) s2 (h.sent ++ text2) h.took (behind h.sent s1 rest s2 more text1 text2 t) in
    let starts-so : (r : List ℕ) → StartsWith (run_bytes s.bus s.lines (come ++ r)).text ((h.sent ++ take n text2) ++ []) = λ r.
    front_starts h.sent text2 (run_bytes s2.bus s2.lines (s2.lines.come ++ (more ++ r))).text (run_bytes s.bus s.lines (come ++ r)).text n (ap (λ (p : Played). p.text) (took_on come more s s2 (h.sent ++ text2) took r)) in
    subst (λ (x : Stop). Feeds (Err x) come s s2 written written2 text3) (sym is) (subst (Feeds (Err WriteFault) come s s2 written written2) (sym breaks.0) (record {
      sent = h.sent ++ take n text2;
      wrote = Appends-trans written written1 written2 h.sent (take n text2) h.wrote breaks.1.1;
      takes = starts-so;
    }))

-- what is left of a piece was held
pub fed_rest : (come rest : List ℕ) (s s1 s2 : Session) (written written1 : Option (List ℕ)) (text1 text2 : List ℕ) → Fed come rest s s1 written written1 text1 → HoldsPiece s1 rest s2 → text2 ≡ text1 → Feeds (Ok tt) come s s2 written written1 text2
fed_rest come rest s s1 s2 written written1 text1 text2 h held same =
    subst (Feeds (Ok tt) come s s2 written written1) (sym same) (record { sent = h.sent; wrote = h.wrote; takes = took_rest come rest s s1 s2 (h.sent ++ text1) h.took held })

-- ---- the last line

pub finish_none : (s : Session) (text : List ℕ) → IsSession s → s.lines.come ≡ [] → Finishes (Ok tt) s text s.bus text
finish_none s text h none = (h.sound, ap (λ (l : List ℕ). before text (run_bytes s.bus s.lines l)) none ∙ ap (before text) (no_line (state_of s.bus) s.lines.count s.lines.used))

pub finishes : (result : Result Unit Stop) (number : ℕ) (seen : List ℕ) (s : Session) (text : List ℕ) (b : Parts) (text' : List ℕ) → IsSession s → number ≡ s.lines.count + 1 → seen ≡ s.lines.come → lines_of s.lines.come ≡ last_line s.lines ∷ [] → is_too_long s.lines.count s.lines.used (last_line s.lines) ≡ false → TakesLine result number (text_step (state_of s.bus) seen) s.bus b text text' → Finishes result s text b text'
finishes (Ok u) number seen s text b text' h is same all within took =
    let count : ℕ = s.lines.count in
    let used : ℕ = s.lines.used in (
      took.sound,
      ap (λ (ls : List RawLine). before text (played (state_of s.bus) count used ls)) all
          ∙ sym (goes_on text text' took.text (state_of s.bus) (state_of b) count used (last_line s.lines) took.wrote within (ap (text_step (state_of s.bus)) (sym same) ∙ took.is) [])
          ∙ ap (before text') (no_line (state_of b) (count + 1) (used + length s.lines.come)),
    )
finishes (Err (BadLine n)) number seen s text b text' h is same all within bad =
    let count : ℕ = s.lines.count in
    let used : ℕ = s.lines.used in
    let stop = bad_stops text text' s.bus b count used (last_line s.lines) h.sound within (ap (text_step (state_of s.bus)) (sym same) ∙ bad.1) bad.2 bad.3 in (
      stop.0,
      λ v. ap (λ (ls : List RawLine). before text (played (state_of s.bus) count used ls)) all ∙ stop.1 []
          ∙ ap (λ (m : ℕ). record { text = text'; ending = BadAt m; state = state_of b }) (sym is ∙ sym bad.0),
    )
finishes (Err (TooLong n)) number seen s text b text' h is same all within bad = absurd bad
finishes (Err WriteFault) number seen s text b text' h is same all within bad = absurd bad
finishes (Err NoMemory) number seen s text b text' h is same all within bad = bad
