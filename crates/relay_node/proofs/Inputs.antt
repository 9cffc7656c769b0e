-- An input that is read to its end, or on behind a line at fault.
use Rattle.std.proofs.Common.{◌≡◌, ℕ, ◌+◌, ◌<◌, ◌≤◌, inl, inr, List, [], ◌++◌, Option, Some, None, length, refl, sym, ap, ◌∙◌, subst, append_assoc, append-nil, arith}
use Rattle.std.specs.Prelude.{option_map, IfSome}
use Rattle.std.specs.Io.KnownBytes.{Consumes, IsAtEnd}
use Rattle.std.proofs.KnownBytes.{Consumes-nil, Consumes-trans}
use Rattle.std.proofs.lemmas.List.{length-append}
use Rattle.bus_types.specs.Window.{Span}
use Rattle.bus_types.specs.Relay.{Relay, new_relay}
use Rattle.range_ring.specs.Words.{room_of}
use Rattle.range_ring.specs.Belonging.{RingIs}
use Rattle.trace_script.specs.Input.{longest_input}
use Rattle.trace_script.specs.Cutting.{new_cut}
use Rattle.relay_node.specs.declared.feed.Stop.{Stop}
use Rattle.relay_node.specs.declared.feed.Stop.TheVariants.{BadLine, TooLong, WrongWord, ReadFault, NoMemory}
use Rattle.relay_node.specs.Feeding.{Ending, fed, windows_of, relay_after}
use Rattle.relay_node.specs.Feeding.Ending.{Finished, BadAt, TooLongAt, WrongAt}
use Rattle.relay_node.specs.Node.{IsFed, EndsAt}
use Rattle.relay_node.specs.Pieces.{Sent, new_sent, At, Final, final, runs, LeadsTo, EndsIn, StopsAt, TakesPart}
use Rattle.relay_node.specs.Reading.{Reached, ReadsAll, ReadsOn, EndsSo, HaltsAt, Settles}
use Rattle.relay_node.proofs.Timelines.{fed_stands, fed_tail}

-- ---- reading on

-- behind so many bytes more came, at least so many in all
pub record CameOn (input left : Option (List ℕ)) (read come : ℕ) : Type 0 where
  pub got : List ℕ
  pub consumed : Consumes input left got
  pub long : come ≤ read + length got

pub came_none : (input : Option (List ℕ)) (read : ℕ) → CameOn input input read read
came_none input read = record { got = []; consumed = Consumes-nil input; long = omega arith }

pub came_more : (input left left' : Option (List ℕ)) (read come now count : ℕ) (piece : List ℕ) → CameOn input left read come → Consumes left left' piece → count ≡ length piece → now ≤ come + count → CameOn input left' read now
came_more input left left' read come now count piece h c is le = record {
  got = h.got ++ piece;
  consumed = Consumes-trans input left left' h.got piece h.consumed c;
  long = omega (arith, length-append h.got piece, h.long, is, le);
}

-- the end came
pub came_all : (input left left' : Option (List ℕ)) (read come : ℕ) → CameOn input left read come → Consumes left left' [] → IsAtEnd left' → ReadsOn input left' read
came_all input left left' read come h c e = record { got = h.got ++ []; consumed = Consumes-trans input left left' h.got [] h.consumed c; enough = inl e }

-- or enough came
pub came_enough : (input left : Option (List ℕ)) (read come : ℕ) → CameOn input left read come → longest_input < come → ReadsOn input left read
came_enough input left read come h lt = record { got = h.got; consumed = h.consumed; enough = inr (omega (arith, lt, h.long)) }

-- ---- pieces

-- before the first piece
pub reached_none : (input : Option (List ℕ)) (start : At) → start.lines.used + length start.lines.come ≡ 0 → Reached input input start start 0
reached_none input start empty = record {
  got = [];
  consumed = Consumes-nil input;
  size = refl;
  within = omega arith;
  used = omega arith;
  same = λ more. refl;
}

-- behind a piece of which all was taken
pub reached_more : (input left left' : Option (List ℕ)) (start a b : At) (read count : ℕ) (piece : List ℕ) → Reached input left start a read → Consumes left left' piece → count ≡ length piece → TakesPart a piece b []
    → Reached input left' start b (read + count)
reached_more input left left' start a b read count piece h c is t = record {
  got = h.got ++ piece;
  consumed = Consumes-trans input left left' h.got piece h.consumed c;
  size = omega (arith, length-append h.got piece, h.size, is);
  within = t.within;
  used = omega (arith, t.size, h.used, is);
  same = λ more. t.same more ∙ h.same (piece ++ more) ∙ ap (runs start) (sym (append_assoc h.got piece more));
}

-- at the end of the input
pub reads_all : (input left left' : Option (List ℕ)) (start a : At) (read : ℕ) → Reached input left start a read → Consumes left left' [] → IsAtEnd left' → ReadsAll input left' start a
reads_all input left left' start a read h c e = record {
  got = h.got;
  consumed = subst (Consumes input left') (append-nil h.got) (Consumes-trans input left left' h.got [] h.consumed c);
  end = e;
  within = h.within;
  same = h.same;
}

-- ---- a line at fault

ends_so : (ending : Ending) (input left left' left'' : Option (List ℕ)) (start a : At) (read count : ℕ) (piece : List ℕ) → Reached input left start a read → Consumes left left' piece → count ≡ length piece → EndsIn a piece ending
    → ReadsOn left' left'' (read + count) → EndsSo input left'' start ending
ends_so ending input left left' left'' start a read count piece h c is t on =
    let front : List ℕ = h.got ++ piece in
    let got : List ℕ = front ++ on.got in
    record {
      got = got;
      consumed = Consumes-trans input left' left'' front on.got (Consumes-trans input left left' h.got piece h.consumed c) on.consumed;
      ends = λ more.
          ap (λ (l : List ℕ). (runs start l).ending) (append_assoc front on.got more ∙ append_assoc h.got piece (on.got ++ more))
          ∙ ap (λ (f : Final). f.ending) (sym (h.same (piece ++ (on.got ++ more))))
          ∙ t (on.got ++ more);
      enough = elim on.enough [
        | inl e ↦ inl e
        | inr lt ↦ inr (omega (arith, lt, length-append front on.got, length-append h.got piece, h.size, is))
      ];
    }

-- the stop is the line's still
settles_line : (stop : Stop) (input left left' left'' : Option (List ℕ)) (start a : At) (read count : ℕ) (piece : List ℕ) → Reached input left start a read → Consumes left left' piece → count ≡ length piece → StopsAt stop (EndsIn a piece)
    → StopsAt stop (λ ending. ReadsOn left' left'' (read + count)) → HaltsAt stop (EndsSo input left'' start)
settles_line (BadLine n) input left left' left'' start a read count piece h c is t on = ends_so (BadAt n) input left left' left'' start a read count piece h c is t on
settles_line (TooLong n) input left left' left'' start a read count piece h c is t on = ends_so (TooLongAt n) input left left' left'' start a read count piece h c is t on
settles_line (WrongWord n) input left left' left'' start a read count piece h c is t on = ends_so (WrongAt n) input left left' left'' start a read count piece h c is t on
settles_line ReadFault input left left' left'' start a read count piece h c is t on = tt
settles_line NoMemory input left left' left'' start a read count piece h c is t on = tt

pub settles : (stop result : Stop) (input left left' left'' : Option (List ℕ)) (start a : At) (read count : ℕ) (piece : List ℕ) → Reached input left start a read → Consumes left left' piece → count ≡ length piece → StopsAt stop (EndsIn a piece)
    → Settles stop result (ReadsOn left' left'' (read + count)) → HaltsAt result (EndsSo input left'' start)
settles stop result input left left' left'' start a read count piece h c is t s =
    elim s [
      | inl e ↦ subst (λ (r : Stop). HaltsAt r (EndsSo input left'' start)) (sym e) tt
      | inr on ↦ subst (λ (r : Stop). HaltsAt r (EndsSo input left'' start)) (sym on.0) (settles_line stop input left left' left'' start a read count piece h c is t on.1)
    ]

-- a line makes no fault of the input
pub no_read_fault : (stop : Stop) (Holds : Ending → Type 0) → StopsAt stop Holds → stop ≡ ReadFault → ⊥
no_read_fault stop Holds h e = subst (λ (s : Stop). StopsAt s Holds) e h

-- what stops is a line at fault, behind which nothing is due where memory ran out
pub settles_so : (stop : Stop) (On : Type 0) → (stop ≡ ReadFault → ⊥) → On → Settles stop stop On
settles_so (BadLine n) On h on = inr (refl, on)
settles_so (TooLong n) On h on = inr (refl, on)
settles_so (WrongWord n) On h on = inr (refl, on)
settles_so ReadFault On h on = absurd (h refl)
settles_so NoMemory On h on = inr (refl, tt)

-- ---- the whole input

-- where nothing has come
abbrev pub start_at : RingIs → At
start_at home = record { sent = new_sent home; lines = new_cut }

-- what is told of an input was got, and is left
told_is : (bytes : List ℕ) (left : Option (List ℕ)) (got : List ℕ) → Consumes (Some bytes) left got → (rest : List ℕ) × (bytes ≡ got ++ rest)
told_is bytes None got c = absurd c
told_is bytes (Some rest) got c = (rest, c)

told_all : (bytes : List ℕ) (left : Option (List ℕ)) (got : List ℕ) → Consumes (Some bytes) left got → IsAtEnd left → bytes ≡ got ++ []
told_all bytes None got c e = absurd c
told_all bytes (Some rest) got c e = c ∙ ap (λ (l : List ℕ). got ++ l) e

-- where windows are told, the next piece leads to them
pub leads_piece : (told : Option (List Span)) (input left left' : Option (List ℕ)) (start a : At) (read : ℕ) (piece : List ℕ) → told ≡ option_map (λ bytes. (runs start bytes).sent.windows) input → Reached input left start a read
    → Consumes left left' piece → LeadsTo told a piece
leads_piece told None left left' start a read piece is h c = subst (λ (t : Option (List Span)). LeadsTo t a piece) (sym is) tt
leads_piece told (Some bytes) left left' start a read piece is h c =
    let front : List ℕ = h.got ++ piece in
    let rest = told_is bytes left' front (Consumes-trans (Some bytes) left left' h.got piece h.consumed c) in
    subst (λ (t : Option (List Span)). LeadsTo t a piece) (sym is)
    ((rest.0, ap (λ (f : Final). f.sent.windows) (h.same (piece ++ rest.0)) ∙ ap (λ (l : List ℕ). (runs start l).sent.windows) (sym (rest.1 ∙ append_assoc h.got piece rest.0))))

-- a line ended it
ends_at : (home : RingIs) (start : At) (ending : Ending) (input left : Option (List ℕ)) → start ≡ start_at home → EndsSo input left start ending → EndsAt ending input left
ends_at home start ending None left s h = record { ends = tt; read = elim h.enough [ inl e ↦ inl e | inr lt ↦ inr (h.got, h.consumed, lt) ] }
ends_at home start ending (Some bytes) left s h =
    let told = told_is bytes left h.got h.consumed in
    record {
      ends = ap (λ (l : List ℕ). (fed l).ending) told.1 ∙ ap (λ (a : At). (runs a (h.got ++ told.0)).ending) (sym s) ∙ h.ends told.0;
      read = elim h.enough [ inl e ↦ inl e | inr lt ↦ inr (h.got, h.consumed, lt) ];
    }

pub halts_at : (stop : Stop) (home : RingIs) (start : At) (input left : Option (List ℕ)) → start ≡ start_at home → HaltsAt stop (EndsSo input left start) → HaltsAt stop (λ ending. EndsAt ending input left)
halts_at (BadLine n) home start input left s h = ends_at home start (BadAt n) input left s h
halts_at (TooLong n) home start input left s h = ends_at home start (TooLongAt n) input left s h
halts_at (WrongWord n) home start input left s h = ends_at home start (WrongAt n) input left s h
halts_at ReadFault home start input left s h = tt
halts_at NoMemory home start input left s h = tt

-- where an input leads that was read to its end
whole_run : (home : RingIs) (start now : At) (bytes : List ℕ) (left : Option (List ℕ)) → start ≡ start_at home → (h : ReadsAll (Some bytes) left start now) → final (new_sent home) (fed bytes) ≡ runs now []
whole_run home start now bytes left s h =
    ap (λ (l : List ℕ). final (new_sent home) (fed l)) (told_all bytes left h.got h.consumed h.end)
    ∙ ap (λ (a : At). runs a (h.got ++ [])) (sym s)
    ∙ sym (h.same [])

-- the last line ended it
finish_at : (home : RingIs) (start now : At) (ending : Ending) (input left : Option (List ℕ)) → start ≡ start_at home → ReadsAll input left start now → (runs now []).ending ≡ ending → EndsAt ending input left
finish_at home start now ending None left s h e = record { ends = tt; read = inl h.end }
finish_at home start now ending (Some bytes) left s h e = record { ends = ap (λ (f : Final). f.ending) (whole_run home start now bytes left s h) ∙ e; read = inl h.end }

pub finish_halts : (stop : Stop) (home : RingIs) (start now : At) (input left : Option (List ℕ)) → start ≡ start_at home → ReadsAll input left start now → StopsAt stop (λ ending. (runs now []).ending ≡ ending)
    → HaltsAt stop (λ ending. EndsAt ending input left)
finish_halts (BadLine n) home start now input left s h e = finish_at home start now (BadAt n) input left s h e
finish_halts (TooLong n) home start now input left s h e = finish_at home start now (TooLongAt n) input left s h e
finish_halts (WrongWord n) home start now input left s h e = finish_at home start now (WrongAt n) input left s h e
finish_halts ReadFault home start now input left s h e = tt
finish_halts NoMemory home start now input left s h e = tt

-- ---- all was published

-- where windows are told, a new start leads to them
pub leads_all : (told : Option (List Span)) (input : Option (List ℕ)) (home : RingIs) (start : At) → start ≡ start_at home → told ≡ windows_of input → told ≡ option_map (λ bytes. (runs start bytes).sent.windows) input
leads_all told input home start s is = is ∙ ap (λ (a : At). option_map (λ bytes. (runs a bytes).sent.windows) input) (sym s)

-- and so does what was read
pub ends_told : (told : Option (List Span)) (input left : Option (List ℕ)) (home : RingIs) (start now : At) → start ≡ start_at home → told ≡ windows_of input → ReadsAll input left start now
    → IfSome told (λ windows. (runs now []).sent.windows ≡ windows)
ends_told told None left home start now s is h = subst (λ (t : Option (List Span)). IfSome t (λ windows. (runs now []).sent.windows ≡ windows)) (sym is) tt
ends_told told (Some bytes) left home start now s is h =
    subst (λ (t : Option (List Span)). IfSome t (λ windows. (runs now []).sent.windows ≡ windows)) (sym is)
    (sym (ap (λ (f : Final). f.sent.windows) (whole_run home start now bytes left s h)))

-- it was published on the ring
pub sent_home : (input left : Option (List ℕ)) (home : RingIs) (start now : At) (sent : Sent) → start ≡ start_at home → ReadsAll input left start now → runs now [] ≡ record { sent = sent; ending = Finished } → sent.home ≡ home
sent_home input left home start now sent s h e =
    sym (ap (λ (f : Final). f.sent.home) e) ∙ ap (λ (f : Final). f.sent.home) (h.same []) ∙ ap (λ (a : At). a.sent.home) s

pub sent_told : (told : Option (List Span)) (now : At) (sent : Sent) → IfSome told (λ windows. (runs now []).sent.windows ≡ windows) → runs now [] ≡ record { sent = sent; ending = Finished } → IfSome told (λ windows. sent.windows ≡ windows)
sent_told None now sent h e = tt
sent_told (Some windows) now sent h e = sym (ap (λ (f : Final). f.sent.windows) e) ∙ h

-- and this is the relay
pub finish_fed : (told : Option (List Span)) (input left : Option (List ℕ)) (home : RingIs) (start now : At) (sent : Sent) (r : Relay) → start ≡ start_at home → told ≡ windows_of input → ReadsAll input left start now
    → runs now [] ≡ record { sent = sent; ending = Finished } → IfSome told (λ windows. r ≡ relay_after (new_relay (room_of sent.home.limits)) windows) → IsFed (room_of home.limits) input r
finish_fed told None left home start now sent r s is h e p = tt
finish_fed told (Some bytes) left home start now sent r s is h e p =
    let here = subst (λ (t : Option (List Span)). IfSome t (λ windows. r ≡ relay_after (new_relay (room_of sent.home.limits)) windows)) is p in
    let same = sent_home (Some bytes) left home start now sent s h e in
    let published : r ≡ relay_after (new_relay (room_of home.limits)) (fed bytes).windows =
    here ∙ ap (λ (q : RingIs). relay_after (new_relay (room_of q.limits)) (fed bytes).windows) same in
    record {
      finished = ap (λ (f : Final). f.ending) (whole_run home start now bytes left s h ∙ e);
      published = published;
      stands = fed_stands (room_of home.limits) bytes r published;
      end = fed_tail (room_of home.limits) bytes r published;
    }
