-- The headline, from the bus that is handed back and from the meaning of scripts.
use Rattle.std.proofs.Common.{◌≡◌, ℕ, ◌≤◌, List, [], ◌∷◌, ◌++◌, Option, Some, None, take, drop, refl, sym, ap, ◌∙◌, subst}
use Rattle.std.specs.Prelude.{IfSome}
use Rattle.std.specs.List.{AllByRecursion}
use Rattle.std.proofs.lemmas.List.{take-take, take-append-drop}
use Rattle.bus_types.specs.Window.{Span}
use Rattle.partition_filter.specs.Selection.{test_of}
use Rattle.checkpoint.specs.declared.mark.Mark.{Mark}
use Rattle.checkpoint.specs.declared.mark.Mark.TheVariants.{Online}
use Rattle.bus_stores.specs.Memory.{last_mark}
use Rattle.client_switch.specs.Good.{AreRight}
use Rattle.trace_script.specs.Input.{RawLine, lines_of}
use Rattle.history_core.specs.Script.{start}
use Rattle.history_core.specs.Run.{played, GoOn}
use Rattle.history_core.specs.Bus.{MemberState, Parts, IsMember, IsSound}
use Rattle.history_core.proofs.Members.{one_stored}
use Rattle.history_core.proofs.Forward.{go_on_behind}
use Rattle.bus_top.specs.declared.status.Status.{Status}
use Rattle.bus_top.specs.declared.status.Status.TheVariants.{Done, Usage, BadLine, ReadFault, WriteFault, NoMemory, TooLong}
use Rattle.bus_top.specs.Trace.{HandsBack}
use Rattle.bus_top.specs.Headline.{HoldsTable, state_after, Headline}
use Rattle.bus_top.proofs.Placed.{placed}
use Rattle.bus_top.proofs.Answering.{line_answered}

-- ---- consumers of a sound bus

member_holds : (ws : List Span) (m : MemberState) → IsMember ws m → HoldsTable ws m
member_holds ws m h = λ scn stored.
    let mark-is : m.client.mark ≡ Online scn = one_stored (last_mark m.store.marks) m.client.mark (Online scn) h.stored stored in
    subst (λ (mark : Mark). AreRight ws (test_of m.client.filter) mark m.store.rows) mark-is h.good.right

members_hold : (ws : List Span) (ms : List MemberState) → AllByRecursion (IsMember ws) ms → AllByRecursion (HoldsTable ws) ms
members_hold ws [] h = tt
members_hold ws (m ∷ ms) h = (member_holds ws m h.0, members_hold ws ms h.1)

-- ---- states of a script

-- the front of a front
fronts : (n m : ℕ) (ls : List RawLine) → n ≤ m → take m ls ≡ take n ls ++ drop n (take m ls)
fronts n m ls le = sym (take-append-drop n (take m ls)) ∙ ap (λ (l : List RawLine). l ++ drop n (take m ls)) (take-take n m ls le)

goes_on : (bytes : List ℕ) (n m : ℕ) → n ≤ m → GoOn (state_after n bytes).consumers (state_after m bytes).consumers
goes_on bytes n m le =
    let ls : List RawLine = lines_of bytes in
    subst (λ (l : List RawLine). GoOn (state_after n bytes).consumers (played start 0 0 l).state.consumers) (sym (fronts n m ls le)) (go_on_behind start 0 0 (take n ls) (drop n (take m ls)) tt).0

-- ---- the promise

-- where the consumers that are handed back hold their tables
promised : (input : Option (List ℕ)) (kept : Option Parts) → IfSome kept (λ bus. AllByRecursion (HoldsTable bus.source) bus.members) → Headline input kept
promised None kept h = record { tables = h; onward = tt; answers = tt }
promised (Some bytes) kept h = record {
  tables = h;
  onward = goes_on bytes;
  answers = λ n line next text e. line_answered (state_after n bytes) line next text (placed start 0 0 (take n (lines_of bytes)) refl) e;
}

-- a sound bus is handed back, or none
sound_kept : (input : Option (List ℕ)) (kept : Option Parts) (bus : Parts) → kept ≡ Some bus → IsSound bus → Headline input kept
sound_kept input kept bus is sound = subst (Headline input) (sym is) (promised input (Some bus) (members_hold bus.source bus.members sound.members))

none_kept : (input : Option (List ℕ)) (kept : Option Parts) → kept ≡ None → Headline input kept
none_kept input kept is = subst (Headline input) (sym is) (promised input None tt)

pub headline : (status : Status) (input left : Option (List ℕ)) (kept : Option Parts) → HandsBack status input left kept → Headline input kept
headline Done input left kept h = sound_kept input kept h.bus h.is h.sound
headline Usage input left kept h = none_kept input kept h
headline (BadLine line) input left kept h = sound_kept input kept h.bus h.is h.sound
headline ReadFault input left kept h = sound_kept input kept h.bus h.is h.sound
headline WriteFault input left kept h = none_kept input kept h
headline NoMemory input left kept h = none_kept input kept h
headline (TooLong line) input left kept h = sound_kept input kept h.bus h.is h.sound
