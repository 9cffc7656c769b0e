-- Parts of a ring's bytes that await sending, one after the other.
use Rattle.std.proofs.Common.{◌≡◌, ℕ, ◌+◌, ◌-◌, ◌≤◌, List, [], ◌++◌, append-nil, append_assoc, length, length-append, length-take, length-drop, take, drop, Result, Ok, Err, refl, sym, ap, subst, ◌∙◌, arith}
use Rattle.std.proofs.Math.Seq.{take-add}
use Rattle.std.proofs.lemmas.List.{drop-drop}
use Rattle.bus_io.specs.declared.write.WriteFault.{WriteFault}
use Rattle.plain_buffer.specs.Send.{Told, Sends}
use Rattle.plain_buffer.proofs.Sending.{sends_none, sends_stop, sends_then}
use Rattle.byte_ring.specs.declared.send.Pending.{Pending}
use Rattle.byte_ring.specs.Parts.{between, Awaiting, Moves}

-- ---- the bytes from one place to another

pub between_long : (bytes : List ℕ) (from to : ℕ) → to ≤ length bytes → length (between bytes from to) ≡ to - from
between_long bytes from to within = omega (arith, within, length-take (to - from) (drop from bytes), length-drop from bytes)

-- none
pub between_none : (bytes : List ℕ) (at : ℕ) → between bytes at at ≡ []
between_none bytes at =
    let none : at - at ≡ 0 = omega arith in
    ap (λ n. take n (drop at bytes)) none

-- those behind others join them
pub joined_to : (bytes : List ℕ) (from to size : ℕ) → from ≤ to → between bytes from (to + size) ≡ between bytes from to ++ between bytes to (to + size)
joined_to bytes from to size le =
    let long : (to + size) - from ≡ (to - from) + size = omega arith in
    let left : (to + size) - to ≡ size = omega arith in
    let at : from + (to - from) ≡ to = omega arith in
    ap (λ n. take n (drop from bytes)) long
    ∙ take-add (to - from) size (drop from bytes)
    ∙ ap (λ (x : List ℕ). between bytes from to ++ take size x) (drop-drop (to - from) from bytes ∙ ap (λ n. drop n bytes) at)
    ∙ ap (λ n. between bytes from to ++ take n (drop to bytes)) (sym left)

-- ---- texts that are added

-- nothing is added at once
pub moves_none : (bytes : List ℕ) (a : Told) (p : Pending) → Awaiting bytes p → Moves bytes a a p (Ok p) []
moves_none bytes a p w = record {
  sent = [];
  sends = sends_none a p.done;
  joined = sym (append-nil (between bytes p.from p.to));
  awaiting = w;
  count = omega arith;
}

-- bytes behind those that await sending are added
pub moves_joined : (bytes : List ℕ) (a : Told) (p : Pending) (at size : ℕ) → Awaiting bytes p → p.to ≡ at → at + size ≤ length bytes → Moves bytes a a p (Ok (record { done = p.done; from = p.from; to = at + size })) (between bytes at (at + size))
moves_joined bytes a p at size w is within =
    let added = joined_to bytes p.from p.to size w.order in
    record {
      sent = [];
      sends = sends_none a p.done;
      joined = subst (λ n. between bytes p.from (n + size) ≡ between bytes p.from p.to ++ between bytes n (n + size)) is added;
      awaiting = record { order = omega (arith, w.order, is); within = within };
      count = omega (arith, w.order, is, between_long bytes at (at + size) within);
    }

-- those that awaited sending were sent, and others await it
pub moves_sent : (bytes : List ℕ) (a b : Told) (p : Pending) (done at size : ℕ) → Awaiting bytes p → at + size ≤ length bytes → Sends a b p.done (Ok done) (between bytes p.from p.to) → Moves bytes a b p (Ok (record { done = done; from = at; to = at + size })) (between bytes at (at + size))
moves_sent bytes a b p done at size w within sends = record {
  sent = between bytes p.from p.to;
  sends = sends;
  joined = refl;
  awaiting = record { order = omega arith; within = within };
  count = omega (arith, sends.0, between_long bytes p.from p.to w.within, between_long bytes at (at + size) within);
}

-- a fault came before they were
pub moves_failed : (bytes : List ℕ) (a b : Told) (p : Pending) (fault : WriteFault) (text : List ℕ) → Sends a b p.done (Err fault) (between bytes p.from p.to) → Moves bytes a b p (Err fault) text
moves_failed bytes a b p fault text sends = sends_stop a b p.done fault (between bytes p.from p.to) text sends

-- a fault in the first of two texts
pub moves_stop : (bytes : List ℕ) (a b : Told) (p : Pending) (fault : WriteFault) (first second : List ℕ) → Moves bytes a b p (Err fault) first → Moves bytes a b p (Err fault) (first ++ second)
moves_stop bytes a b p fault first second m =
    subst (Sends a b p.done (Err fault)) (append_assoc (between bytes p.from p.to) first second) (sends_stop a b p.done fault (between bytes p.from p.to ++ first) second m)

-- two texts, of which the first was added
pub moves_then : (bytes : List ℕ) (a b c : Told) (p q : Pending) (result : Result Pending WriteFault) (first second : List ℕ) → Moves bytes a b p (Ok q) first → Moves bytes b c q result second → Moves bytes a c p result (first ++ second)
moves_then bytes a b c p q (Ok r) first second m n = record {
  sent = m.sent ++ n.sent;
  sends = sends_then a b c p.done q.done (Ok r.done) m.sent n.sent m.sends n.sends;
  joined =
      append_assoc m.sent n.sent (between bytes r.from r.to)
      ∙ ap (λ (x : List ℕ). m.sent ++ x) n.joined
      ∙ sym (append_assoc m.sent (between bytes q.from q.to) second)
      ∙ ap (λ (x : List ℕ). x ++ second) m.joined
      ∙ append_assoc (between bytes p.from p.to) first second;
  awaiting = n.awaiting;
  count = omega (arith, m.count, n.count, length-append first second);
}
moves_then bytes a b c p q (Err fault) first second m n =
    let whole = sends_then a b c p.done q.done (Err fault) m.sent (between bytes q.from q.to ++ second) m.sends n in
    let regrouped = sym (append_assoc m.sent (between bytes q.from q.to) second) ∙ ap (λ (x : List ℕ). x ++ second) m.joined ∙ append_assoc (between bytes p.from p.to) first second in
    subst (Sends a c p.done (Err fault)) regrouped whole

-- ---- a text of which a part is still to be added

-- what is left to add, added from here on, is all, added from the start on
abbrev pub MovesOn : List ℕ → Told → Pending → List ℕ → Told → Pending → List ℕ → Type 0
MovesOn bytes start first all now q left = (new : Told) (result : Result Pending WriteFault) → Moves bytes now new q result left → Moves bytes start new first result all

-- a part of it was added
pub moves_more : (bytes : List ℕ) (start : Told) (first : Pending) (all : List ℕ) (a b : Told) (p q : Pending) (left part rest : List ℕ) → left ≡ part ++ rest → MovesOn bytes start first all a p left → Moves bytes a b p (Ok q) part → MovesOn bytes start first all b q rest
moves_more bytes start first all a b p q left part rest e on moved new result last =
    on new result (subst (Moves bytes a new p result) (sym e) (moves_then bytes a b new p q result part rest moved last))

-- a part of it was begun
pub moves_broken : (bytes : List ℕ) (start : Told) (first : Pending) (all : List ℕ) (a b : Told) (p : Pending) (fault : WriteFault) (left part rest : List ℕ) → left ≡ part ++ rest → MovesOn bytes start first all a p left → Moves bytes a b p (Err fault) part → Moves bytes start b first (Err fault) all
moves_broken bytes start first all a b p fault left part rest e on moved =
    on b (Err fault) (subst (Moves bytes a b p (Err fault)) (sym e) (moves_stop bytes a b p fault part rest moved))

-- nothing is left
pub moves_end : (bytes : List ℕ) (start : Told) (first : Pending) (all : List ℕ) (now : Told) (q : Pending) (left : List ℕ) → left ≡ [] → Awaiting bytes q → MovesOn bytes start first all now q left → Moves bytes start now first (Ok q) all
moves_end bytes start first all now q left none w on = on now (Ok q) (subst (Moves bytes now now q (Ok q)) (sym none) (moves_none bytes now q w))

-- ---- a whole reply

-- a fault before the end of a text that was added to nothing
pub moves_fault : (bytes : List ℕ) (a b : Told) (fault : WriteFault) (all : List ℕ) → Moves bytes a b (record { done = 0; from = 0; to = 0 }) (Err fault) all → Sends a b 0 (Err fault) all
moves_fault bytes a b fault all m = subst (λ (x : List ℕ). Sends a b 0 (Err fault) (x ++ all)) (between_none bytes 0) m

-- a text was added to nothing, and what awaits sending is sent
pub moves_sends : (bytes : List ℕ) (a b c : Told) (q : Pending) (result : Result ℕ WriteFault) (all : List ℕ) → Moves bytes a b (record { done = 0; from = 0; to = 0 }) (Ok q) all → Sends b c q.done result (between bytes q.from q.to) → Sends a c 0 result all
moves_sends bytes a b c q result all m s =
    let whole : m.sent ++ between bytes q.from q.to ≡ all = m.joined ∙ ap (λ (x : List ℕ). x ++ all) (between_none bytes 0) in
    subst (Sends a c 0 result) whole (sends_then a b c 0 q.done result m.sent (between bytes q.from q.to) m.sends s)
