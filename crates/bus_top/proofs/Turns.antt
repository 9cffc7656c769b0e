-- Turns of a run: what was read and written so far, and what a status then says of the whole script.
use Rattle.std.proofs.Common.{◌≡◌, ℕ, List, [], ◌++◌, Option, Some, None, Result, Ok, Err, length, take, drop, refl, sym, ap, ◌∙◌, subst, append_assoc, append-nil, arith}
use Rattle.std.specs.Io.{StartsWith}
use Rattle.std.specs.Io.KnownBytes.{Appends, Consumes, Keeps, IsAtEnd}
use Rattle.std.proofs.KnownBytes.{Appends-nil, Appends-trans, Consumes-nil, Consumes-trans, Consumes-kept, starts_with_rest}
use Rattle.std.proofs.lemmas.List.{take-append-drop, take_at, take_all}
use Rattle.trace_script.specs.Input.{IsWhole, lines_of, whole_part}
use Rattle.trace_script.proofs.LineLaws.{whole_part-append, IsWhole-append}
use Rattle.history_core.specs.Script.{State, start}
use Rattle.history_core.specs.Run.{Played, Ending, before, played, script}
use Rattle.history_core.specs.Run.Ending.{Finished, BadAt, TooLongAt}
use Rattle.history_core.specs.Bus.{Parts, state_of, IsSound}
use Rattle.bus_top.specs.declared.session.Session.{Session}
use Rattle.bus_top.specs.declared.session.Stop.{Stop}
use Rattle.bus_top.specs.declared.session.Stop.TheVariants.{BadLine, TooLong, WriteFault as NoWrite, NoMemory}
use Rattle.bus_top.specs.Session.{run_bytes, IsSession, TookLines, Takes, Feeds, Finishes, Reached}
use Rattle.bus_top.specs.declared.status.Status.{Status}
use Rattle.bus_top.specs.declared.status.Status.TheVariants.{Done, Usage, ReadFault, WriteFault, BadLine as StatusBadLine, NoMemory as StatusNoMemory, TooLong as StatusTooLong}
use Rattle.trace_script.specs.Cutting.{Cut, new_cut}
use Rattle.bus_top.specs.Trace.{EndsAt, StopsWriting, StopsShort, LeavesBus}
use Rattle.bus_top.specs.Turns.{EndedWith, Ends, EndsWith, BreaksOff, stop_status}
use Rattle.bus_top.proofs.Streams.{before-before, before-ended, no_line, starts}

-- before the first read
pub reached_none : (input output : Option (List ℕ)) (s : Session) → state_of s.bus ≡ start → s.lines ≡ new_cut → IsSession s → Reached input input output output s
reached_none input output s state cut h = record {
  whole = [];
  text = [];
  read = subst (λ (c : Cut). Consumes input input c.come) (sym cut) (Consumes-nil input);
  lines = tt;
  wrote = Appends-nil output;
  session = h;
  same = λ more. (λ i. played (state i) (cut i).count (cut i).used (lines_of more));
}

-- the input that is told is what was read and what is left
pub whole_input : (bytes : List ℕ) (left : Option (List ℕ)) (front : List ℕ) → Consumes (Some bytes) left front → (rest : List ℕ) × (bytes ≡ front ++ rest)
whole_input bytes None front c = absurd c
whole_input bytes (Some rest) front c = (rest, c)

-- what the run was before a piece, with the piece and what follows it
pub with_piece : {input left output written : Option (List ℕ)} (s : Session) (h : Reached input left output written s) (come rest : List ℕ) → before h.text (run_bytes s.bus s.lines (come ++ rest)) ≡ script (h.whole ++ (come ++ rest))
with_piece s h come rest = h.same (come ++ rest)

-- after a piece of which everything was taken
pub reached_more : (u : Unit {0}) (input left1 left2 output written1 written2 : Option (List ℕ)) (s1 s2 : Session) (piece text2 : List ℕ) → Reached input left1 output written1 s1 → Consumes left1 left2 piece → Takes (Ok u) (s1.lines.come ++ piece) s1 s2 text2 → Appends written1 written2 text2 → Reached input left2 output written2 s2
reached_more u input left1 left2 output written1 written2 s1 s2 piece text2 h c t a =
    let parts : (h.whole ++ s1.lines.come) ++ piece ≡ (h.whole ++ t.whole) ++ s2.lines.come =
    append_assoc h.whole s1.lines.come piece ∙ ap (λ (l : List ℕ). h.whole ++ l) (t.parts ∙ ap (λ (l : List ℕ). t.whole ++ l) (append-nil s2.lines.come)) ∙ sym (append_assoc h.whole t.whole s2.lines.come) in
    record {
      whole = h.whole ++ t.whole;
      text = h.text ++ text2;
      read = subst (Consumes input left2) parts (Consumes-trans input left1 left2 (h.whole ++ s1.lines.come) piece h.read c);
      lines = IsWhole-append h.whole t.whole h.lines t.lines;
      wrote = Appends-trans output written1 written2 h.text text2 h.wrote a;
      session = t.session;
      same = λ more. sym (before-before h.text text2 (run_bytes s2.bus s2.lines more)) ∙ ap (before h.text) (t.same more) ∙ h.same (t.whole ++ more) ∙ ap script (sym (append_assoc h.whole t.whole more));
    }

-- the script in a told input, once a piece was read
pub piece_script : (bytes : List ℕ) (left1 left2 output written1 : Option (List ℕ)) (s1 : Session) (piece : List ℕ) → (h : Reached (Some bytes) left1 output written1 s1) → Consumes left1 left2 piece → (rest : List ℕ) × (script bytes ≡ before h.text (run_bytes s1.bus s1.lines ((s1.lines.come ++ piece) ++ rest)))
piece_script bytes left1 left2 output written1 s1 piece h c =
    let all = whole_input bytes left2 ((h.whole ++ s1.lines.come) ++ piece) (Consumes-trans (Some bytes) left1 left2 (h.whole ++ s1.lines.come) piece h.read c) in
    let regroup : ((h.whole ++ s1.lines.come) ++ piece) ++ all.0 ≡ h.whole ++ ((s1.lines.come ++ piece) ++ all.0) =
    ap (λ (l : List ℕ). l ++ all.0) (append_assoc h.whole s1.lines.come piece) ∙ append_assoc h.whole (s1.lines.come ++ piece) all.0 in
    (all.0, ap script (all.1 ∙ regroup) ∙ sym (h.same ((s1.lines.come ++ piece) ++ all.0)))

-- a run that stopped in a piece, whose text was written
stopped_at : (ending : Ending) (input left1 left2 output written1 written2 : Option (List ℕ)) (s1 : Session) (piece text2 : List ℕ) (b : Parts) → Reached input left1 output written1 s1 → Consumes left1 left2 piece → Appends written1 written2 text2 → IsSound b → ((rest : List ℕ) → run_bytes s1.bus s1.lines ((s1.lines.come ++ piece) ++ rest) ≡ record { text = text2; ending = ending; state = state_of b }) → EndsAt ending input output written2 × LeavesBus input (Some b)
stopped_at ending None left1 left2 output written1 written2 s1 piece text2 b h c a sound stop = (tt, record { bus = b; is = refl; sound = sound; state = tt })
stopped_at ending (Some bytes) left1 left2 output written1 written2 s1 piece text2 b h c a sound stop =
    let p = piece_script bytes left1 left2 output written1 s1 piece h c in
    let played-is = p.1 ∙ ap (before h.text) (stop p.0) in (
      (ap (λ (p : Played). p.ending) played-is, subst (Appends output written2) (sym (ap (λ (p : Played). p.text) played-is)) (Appends-trans output written1 written2 h.text text2 h.wrote a)),
      record { bus = b; is = refl; sound = sound; state = ap (λ (p : Played). p.state) played-is },
    )

-- a text and a front of what is printed behind it are a front of all that is printed
pub broken : (text text2 more part full : List ℕ) (n : ℕ) → part ≡ take n text2 → full ≡ text ++ (text2 ++ more) → text ++ part ≡ take (length (text ++ part)) full
broken text text2 more part full n e f =
    let behind : List ℕ = drop n text2 ++ more in
    let whole-is : full ≡ (text ++ part) ++ behind =
    f ∙ ap (λ (l : List ℕ). text ++ (l ++ more)) (sym (take-append-drop n text2))
    ∙ ap (λ (l : List ℕ). text ++ l) (append_assoc (take n text2) (drop n text2) more)
    ∙ sym (append_assoc text (take n text2) behind)
    ∙ ap (λ (l : List ℕ). (text ++ l) ++ behind) (sym e) in
    sym (ap (take (length (text ++ part))) whole-is ∙ take_at (text ++ part) behind (length (text ++ part)) refl)

-- what was gathered went out behind what was sent
pub sent_all : (written1 written2 written3 : Option (List ℕ)) (result : Result Unit Stop) (come : List ℕ) (s1 s2 : Session) (gathered : List ℕ) (f : Feeds result come s1 s2 written1 written2 gathered) → Appends written2 written3 gathered → Appends written1 written3 (f.sent ++ gathered)
sent_all written1 written2 written3 result come s1 s2 gathered f a = Appends-trans written1 written2 written3 f.sent gathered f.wrote a

-- or a front of it
pub sent_part : (written1 written2 written3 : Option (List ℕ)) (result : Result Unit Stop) (come : List ℕ) (s1 s2 : Session) (gathered : List ℕ) (n : ℕ) (f : Feeds result come s1 s2 written1 written2 gathered) → Appends written2 written3 (take n gathered) → Appends written1 written3 (take (length (f.sent ++ take n gathered)) (f.sent ++ gathered))
sent_part written1 written2 written3 result come s1 s2 gathered n f a =
    subst (Appends written1 written3) (broken f.sent gathered [] (take n gathered) (f.sent ++ gathered) n refl (ap (λ (l : List ℕ). f.sent ++ l) (sym (append-nil gathered)))) (Appends-trans written1 written2 written3 f.sent (take n gathered) f.wrote a)

-- a front of the text of a script that was written
pub breaks_off : (bytes : List ℕ) (output written1 written2 : Option (List ℕ)) (text text2 part : List ℕ) (p : Played) (n : ℕ) → Appends output written1 text → Appends written1 written2 part → part ≡ take n text2 → script bytes ≡ before text p → StartsWith p.text text2 → (m : ℕ) × Appends output written2 (take m (script bytes).text)
breaks_off bytes output written1 written2 text text2 part p n a b e s starts =
    let more : List ℕ = drop (length text2) p.text in
    let full : (script bytes).text ≡ text ++ (text2 ++ more) = ap (λ (q : Played). q.text) s ∙ ap (λ (l : List ℕ). text ++ l) (starts_with_rest p.text text2 starts) in
    (length (text ++ part), subst (Appends output written2) (broken text text2 more part (script bytes).text n e full) (Appends-trans output written1 written2 text part a b))

starts_itself : (text full : List ℕ) → full ≡ text → StartsWith full text
starts_itself text full e = subst (λ (l : List ℕ). take (length text) l ≡ text) (sym e) (take_all (length text) text (omega arith))

-- the text that a piece printed begins what its run prints
pub takes_start : (result : Result Unit Stop) (come : List ℕ) (s1 : Session) (s2 : Session) (text2 : List ℕ) → Takes result come s1 s2 text2 → (rest : List ℕ) → StartsWith (run_bytes s1.bus s1.lines (come ++ rest)).text text2
takes_start (Ok u) come s1 s2 text2 t rest =
    let regroup : come ++ rest ≡ t.whole ++ (s2.lines.come ++ rest) = ap (λ (l : List ℕ). l ++ rest) (t.parts ∙ ap (λ (l : List ℕ). t.whole ++ l) (append-nil s2.lines.come)) ∙ append_assoc t.whole s2.lines.come rest in
    let run-is : run_bytes s1.bus s1.lines (come ++ rest) ≡ before text2 (run_bytes s2.bus s2.lines (s2.lines.come ++ rest)) = ap (run_bytes s1.bus s1.lines) regroup ∙ sym (t.same (s2.lines.come ++ rest)) in
    subst (λ (p : Played). StartsWith p.text text2) (sym run-is) (starts text2 _)
takes_start (Err (BadLine n)) come s1 s2 text2 t rest = starts_itself text2 _ (ap (λ (p : Played). p.text) (t.1 rest))
takes_start (Err (TooLong n)) come s1 s2 text2 t rest = starts_itself text2 _ (ap (λ (p : Played). p.text) (t.1 rest))
takes_start (Err NoWrite) come s1 s2 text2 t rest = t rest
takes_start (Err NoMemory) come s1 s2 text2 t rest =
    let regroup : come ++ rest ≡ t.whole ++ (t.rest ++ rest) = ap (λ (l : List ℕ). l ++ rest) t.parts ∙ append_assoc t.whole t.rest rest in
    let run-is : run_bytes s1.bus s1.lines (come ++ rest) ≡ before text2 (played t.state t.count t.used (lines_of (t.rest ++ rest))) = ap (run_bytes s1.bus s1.lines) regroup ∙ sym (t.same (t.rest ++ rest)) in
    subst (λ (p : Played). StartsWith p.text text2) (sym run-is) (starts text2 _)

-- a run that stopped writing the text of a piece
pub stopped_writing : (input left1 left2 output written1 written2 : Option (List ℕ)) (result : Result Unit Stop) (s1 s2 : Session) (piece text2 : List ℕ) (n : ℕ) → Reached input left1 output written1 s1 → Consumes left1 left2 piece → Appends written1 written2 (take n text2) → Takes result (s1.lines.come ++ piece) s1 s2 text2 → StopsWriting input output written2
stopped_writing None left1 left2 output written1 written2 result s1 s2 piece text2 n h c a t = tt
stopped_writing (Some bytes) left1 left2 output written1 written2 result s1 s2 piece text2 n h c a t =
    let p = piece_script bytes left1 left2 output written1 s1 piece h c in
    breaks_off bytes output written1 written2 h.text text2 (take n text2) _ n h.wrote a refl p.1 (takes_start result (s1.lines.come ++ piece) s1 s2 text2 t p.0)

-- a run that whole lines of a told input lead to, and no memory behind them
short_at : (bytes front rest : List ℕ) (output written : Option (List ℕ)) (text : List ℕ) (s : State) → bytes ≡ front ++ rest → IsWhole front → script front ≡ record { text = text; ending = Finished; state = s } → Appends output written text → StopsShort (Some bytes) output written
short_at bytes front rest output written text s e lines is a =
    let whole-is : script (whole_part front) ≡ record { text = text; ending = Finished; state = s } =
    ap script (ap whole_part (sym (append-nil front)) ∙ whole_part-append front [] lines tt) ∙ is in
    (front, rest, e, ap (λ (p : Played). p.ending) whole-is, subst (Appends output written) (sym (ap (λ (p : Played). p.text) whole-is)) a)

-- nothing was read
pub short_none : (input output : Option (List ℕ)) → StopsShort input output output
short_none None output = tt
short_none (Some bytes) output = short_at bytes [] bytes output output [] start refl tt (no_line start 0 0) (Appends-nil output)

-- a run that found no memory in a piece
stopped_short : (input left1 left2 output written1 written2 : Option (List ℕ)) (s1 : Session) (piece text2 : List ℕ) → Reached input left1 output written1 s1 → Consumes left1 left2 piece → Appends written1 written2 text2 → TookLines (s1.lines.come ++ piece) s1 [] text2 → StopsShort input output written2
stopped_short None left1 left2 output written1 written2 s1 piece text2 h c a t = tt
stopped_short (Some bytes) left1 left2 output written1 written2 s1 piece text2 h c a t =
    let all = whole_input bytes left2 ((h.whole ++ s1.lines.come) ++ piece) (Consumes-trans (Some bytes) left1 left2 (h.whole ++ s1.lines.come) piece h.read c) in
    let parts : bytes ≡ (h.whole ++ t.whole) ++ (t.rest ++ all.0) =
    all.1 ∙ ap (λ (l : List ℕ). l ++ all.0) (append_assoc h.whole s1.lines.come piece ∙ ap (λ (l : List ℕ). h.whole ++ l) t.parts ∙ sym (append_assoc h.whole t.whole t.rest)) ∙ append_assoc (h.whole ++ t.whole) t.rest all.0 in
    let ran : run_bytes s1.bus s1.lines t.whole ≡ record { text = text2; ending = Finished; state = t.state } =
    ap (run_bytes s1.bus s1.lines) (sym (append-nil t.whole)) ∙ sym (t.same []) ∙ ap (before text2) (no_line t.state t.count t.used) ∙ before-ended text2 Finished t.state in
    short_at bytes (h.whole ++ t.whole) (t.rest ++ all.0) output written2 (h.text ++ text2) t.state parts (IsWhole-append h.whole t.whole h.lines t.lines)
    (sym (h.same t.whole) ∙ ap (before h.text) ran) (Appends-trans output written1 written2 h.text text2 h.wrote a)

-- a run that a piece stopped, whose text was written
pub stopped : (stop : Stop) (input left1 left2 output written1 written2 : Option (List ℕ)) (s1 s2 : Session) (piece text2 : List ℕ) → Reached input left1 output written1 s1 → Consumes left1 left2 piece → Appends written1 written2 text2 → Takes (Err stop) (s1.lines.come ++ piece) s1 s2 text2 → EndedWith (stop_status stop) input left2 output written2 s2.bus
stopped (BadLine n) input left1 left2 output written1 written2 s1 s2 piece text2 h c a t =
    let e = stopped_at (BadAt n) input left1 left2 output written1 written2 s1 piece text2 s2.bus h c a t.0 t.1 in
    record { ended = e.0; back = e.1 }
stopped (TooLong n) input left1 left2 output written1 written2 s1 s2 piece text2 h c a t =
    let e = stopped_at (TooLongAt n) input left1 left2 output written1 written2 s1 piece text2 s2.bus h c a t.0 t.1 in
    record { ended = e.0; back = e.1 }
stopped NoWrite input left1 left2 output written1 written2 s1 s2 piece text2 h c a t =
    let wrote = subst (Appends written1 written2) (sym (take_all (length text2) text2 (omega arith))) a in
    record { ended = stopped_writing input left1 left2 output written1 written2 (Err NoWrite) s1 s2 piece text2 (length text2) h c wrote t; back = refl }
stopped NoMemory input left1 left2 output written1 written2 s1 s2 piece text2 h c a t =
    record { ended = stopped_short input left1 left2 output written1 written2 s1 piece text2 h c a t; back = refl }

-- ---- the end of the input

finish_is : (s : Session) (b : Parts) (text : List ℕ) → Finishes (Ok tt) s [] b text → run_bytes s.bus s.lines s.lines.come ≡ record { text = text; ending = Finished; state = state_of b }
finish_is s b text f = f.1 ∙ before-ended text Finished (state_of b)

finishes_start : (result : Result Unit Stop) (s : Session) (b : Parts) (text : List ℕ) → Finishes result s [] b text → StartsWith (run_bytes s.bus s.lines s.lines.come).text text
finishes_start (Ok u) s b text f = starts_itself text _ (ap (λ (p : Played). p.text) (finish_is s b text f))
finishes_start (Err (BadLine n)) s b text f = starts_itself text _ (ap (λ (p : Played). p.text) (f.1 tt))
finishes_start (Err (TooLong n)) s b text f = starts_itself text _ (ap (λ (p : Played). p.text) (f.1 tt))
finishes_start (Err NoWrite) s b text f = absurd f
finishes_start (Err NoMemory) s b text f = subst (StartsWith (run_bytes s.bus s.lines s.lines.come).text) (sym f) refl

-- the end broke off while it was written
pub end_broken : (result : Result Unit Stop) (written written' : Option (List ℕ)) (s : Session) (b : Parts) (text : List ℕ) (n : ℕ) → Finishes result s [] b text → Appends written written' (take n text) → BreaksOff written written' s
end_broken result written written' s b text n f a =
    let full : List ℕ = (run_bytes s.bus s.lines s.lines.come).text in
    let front = broken [] text (drop (length text) full) (take n text) full n refl (starts_with_rest full text (finishes_start result s b text f)) in
    (length (take n text), subst (Appends written written') front a)

-- the last line ends the run, and its text was written
end_with : (ending : Ending) (written written' : Option (List ℕ)) (s : Session) (b : Parts) (text : List ℕ) → IsSound b → run_bytes s.bus s.lines s.lines.come ≡ record { text = text; ending = ending; state = state_of b } → Appends written written' text → EndsWith ending written written' s b
end_with ending written written' s b text sound run-is a = record {
  ends = ap (λ (p : Played). p.ending) run-is;
  wrote = subst (Appends written written') (sym (ap (λ (p : Played). p.text) run-is)) a;
  sound = sound;
  state = ap (λ (p : Played). p.state) run-is;
}

pub end_done : (written written' : Option (List ℕ)) (s : Session) (b : Parts) (text : List ℕ) → Finishes (Ok tt) s [] b text → Appends written written' text → EndsWith Finished written written' s b
end_done written written' s b text f a = end_with Finished written written' s b text f.0 (finish_is s b text f) a

pub end_stopped : (stop : Stop) (written written' : Option (List ℕ)) (s : Session) (b : Parts) (text : List ℕ) → Finishes (Err stop) s [] b text → Appends written written' text → Ends (stop_status stop) written written' s b
end_stopped (BadLine n) written written' s b text f a = end_with (BadAt n) written written' s b text f.0 (f.1 tt) a
end_stopped (TooLong n) written written' s b text f a = end_with (TooLongAt n) written written' s b text f.0 (f.1 tt) a
end_stopped NoWrite written written' s b text f a = absurd f
end_stopped NoMemory written written' s b text f a = subst (Appends written written') f a

-- the script in a told input of which everything was read
pub end_script : (bytes : List ℕ) (left1 left2 output written1 : Option (List ℕ)) (s1 : Session) → (h : Reached (Some bytes) left1 output written1 s1) → Consumes left1 left2 [] → IsAtEnd left2 → script bytes ≡ before h.text (run_bytes s1.bus s1.lines s1.lines.come)
end_script bytes left1 None output written1 s1 h c e = absurd (Consumes-trans (Some bytes) left1 None (h.whole ++ s1.lines.come) [] h.read c)
end_script bytes left1 (Some rest) output written1 s1 h c e =
    let all = Consumes-trans (Some bytes) left1 (Some rest) (h.whole ++ s1.lines.come) [] h.read c in
    ap script (all ∙ (λ i. append-nil (h.whole ++ s1.lines.come) i ++ e i) ∙ append-nil (h.whole ++ s1.lines.come)) ∙ sym (h.same s1.lines.come)

end_at : (ending : Ending) (input left1 left2 output written1 written2 : Option (List ℕ)) (s1 : Session) (b : Parts) → Reached input left1 output written1 s1 → Consumes left1 left2 [] → IsAtEnd left2 → EndsWith ending written1 written2 s1 b → EndsAt ending input output written2 × LeavesBus input (Some b)
end_at ending None left1 left2 output written1 written2 s1 b h c e w = (tt, record { bus = b; is = refl; sound = w.sound; state = tt })
end_at ending (Some bytes) left1 left2 output written1 written2 s1 b h c e w =
    let script-is = end_script bytes left1 left2 output written1 s1 h c e in (
      (ap (λ (p : Played). p.ending) script-is ∙ w.ends, subst (Appends output written2) (sym (ap (λ (p : Played). p.text) script-is)) (Appends-trans output written1 written2 h.text _ h.wrote w.wrote)),
      record { bus = b; is = refl; sound = w.sound; state = ap (λ (p : Played). p.state) script-is ∙ w.state },
    )

end_breaks : (input left1 left2 output written1 written2 : Option (List ℕ)) (s1 : Session) → Reached input left1 output written1 s1 → Consumes left1 left2 [] → IsAtEnd left2 → BreaksOff written1 written2 s1 → StopsWriting input output written2
end_breaks None left1 left2 output written1 written2 s1 h c e w = tt
end_breaks (Some bytes) left1 left2 output written1 written2 s1 h c e w =
    let run : Played = run_bytes s1.bus s1.lines s1.lines.come in
    breaks_off bytes output written1 written2 h.text run.text (take w.0 run.text) run w.0 h.wrote w.1 refl (end_script bytes left1 left2 output written1 s1 h c e) (starts_itself run.text run.text refl)

-- the last line found no memory
end_short : (input left1 left2 output written1 written2 : Option (List ℕ)) (s1 : Session) → Reached input left1 output written1 s1 → Consumes left1 left2 [] → Appends written1 written2 [] → StopsShort input output written2
end_short input left1 left2 output written1 written2 s1 h c a =
    stopped_short input left1 left2 output written1 written2 s1 [] [] h c a (record {
      whole = [];
      rest = s1.lines.come ++ [];
      parts = refl;
      lines = tt;
      state = state_of s1.bus;
      count = s1.lines.count;
      used = s1.lines.used;
      same = λ more. refl;
    })

-- what the end of the input says of the whole script
pub ended_by : (status : Status) (input left1 left2 output written1 written2 : Option (List ℕ)) (s1 : Session) (b : Parts) → Reached input left1 output written1 s1 → Consumes left1 left2 [] → IsAtEnd left2 → Ends status written1 written2 s1 b → EndedWith status input left2 output written2 b
ended_by Done input left1 left2 output written1 written2 s1 b h c e w =
    let all = end_at Finished input left1 left2 output written1 written2 s1 b h c e w in
    record { ended = (all.0, e); back = all.1 }
ended_by Usage input left1 left2 output written1 written2 s1 b h c e w = absurd w
ended_by (StatusBadLine line) input left1 left2 output written1 written2 s1 b h c e w =
    let all = end_at (BadAt line) input left1 left2 output written1 written2 s1 b h c e w in
    record { ended = all.0; back = all.1 }
ended_by ReadFault input left1 left2 output written1 written2 s1 b h c e w = absurd w
ended_by WriteFault input left1 left2 output written1 written2 s1 b h c e w = record { ended = end_breaks input left1 left2 output written1 written2 s1 h c e w; back = refl }
ended_by StatusNoMemory input left1 left2 output written1 written2 s1 b h c e w = record { ended = end_short input left1 left2 output written1 written2 s1 h c w; back = refl }
ended_by (StatusTooLong line) input left1 left2 output written1 written2 s1 b h c e w =
    let all = end_at (TooLongAt line) input left1 left2 output written1 written2 s1 b h c e w in
    record { ended = all.0; back = all.1 }

-- a run whose input failed
pub stopped_reading : (input left1 left2 output written1 : Option (List ℕ)) (s1 : Session) → Reached input left1 output written1 s1 → Keeps left1 left2 → EndedWith ReadFault input left2 output written1 s1.bus
stopped_reading None left1 left2 output written1 s1 h k = record { ended = tt; back = record { bus = s1.bus; is = refl; sound = h.session.sound; state = tt } }
stopped_reading (Some bytes) left1 left2 output written1 s1 h k =
    let front : List ℕ = h.whole ++ s1.lines.come in
    let read = Consumes-kept (Some bytes) left1 left2 front h.read k in
    let whole-is : whole_part front ≡ h.whole = whole_part-append h.whole s1.lines.come h.lines h.session.part in
    let played-is : script (whole_part front) ≡ record { text = h.text; ending = Finished; state = state_of s1.bus } =
    ap script (whole-is ∙ sym (append-nil h.whole)) ∙ sym (h.same []) ∙ ap (before h.text) (no_line (state_of s1.bus) s1.lines.count s1.lines.used) ∙ before-ended h.text Finished (state_of s1.bus) in
    record {
      ended = (front, read, ap (λ (p : Played). p.ending) played-is, subst (Appends output written1) (sym (ap (λ (p : Played). p.text) played-is)) h.wrote);
      back = record { bus = s1.bus; is = refl; sound = h.session.sound; state = (front, read, ap (λ (p : Played). p.state) played-is) };
    }
