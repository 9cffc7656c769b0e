use Rattle.std.proofs.Common.{◌≡◌, ℕ, ◌+◌, ◌<◌, ◌≤◌, ◌++◌, List, length, drop}
use Rattle.bus_types.specs.Change.{accepted, changes_size}
use Rattle.event_codec.specs.Bytes.{Event, IsEvent, event_bytes, changes_bytes}
use Rattle.plain_buffer.specs.Send.{told}
use Rattle.byte_ring.specs.Parts.{Stands, Awaiting, passed}
use Rattle.byte_ring.proofs.Moving.{MovesOn}
use Rattle.byte_ring.proofs.send.pass_events.Given as goal

abbrev pub invariant-loop-i : goal.invariant-loop-i
invariant-loop-i g l =
    let w = l.slot.window.value in
    let test = g.F.Accepts.test l.filter in
    record {
      size : l.i < l.slot.count → (e : Event) (rest : List ℕ) → drop l.place l.bytes ≡ event_bytes e ++ rest → IsEvent e → l.size ≡ length (event_bytes e);
      there : Stands l.bytes l.place (changes_bytes w.scn (drop l.i w.changes));
      moves : MovesOn l.bytes (told (g.W.Sink.written l.fn.out) (g.W.Sink.room l.fn.out)) l.fn.pending (changes_bytes w.scn (accepted test w.changes))
          (told (g.W.Sink.written l.out) (g.W.Sink.room l.out)) l.pending (changes_bytes w.scn (accepted test (drop l.i w.changes)));
      awaiting : Awaiting l.bytes l.pending;
      few : passed l.pending + changes_size (drop l.i w.changes) ≤ passed l.fn.pending + changes_size w.changes;
      beside : g.W.Sink.beside l.out ≡ g.W.Sink.beside l.fn.out;
      later : g.W.Sink.faults l.fn.out ≤ g.W.Sink.faults l.out;
    }
