use Rattle.std.proofs.Common.{◌≡◌, ◌+◌, ◌≤◌, drop}
use Rattle.bus_types.specs.Change.{accepted, changes_size}
use Rattle.event_codec.specs.Bytes.{changes_bytes}
use Rattle.plain_buffer.specs.Send.{told}
use Rattle.plain_buffer.proofs.Sending.{Awaits}
use Rattle.plain_buffer.proofs.send.send_changes.Given as goal

abbrev pub invariant-loop-change : goal.invariant-loop-change
invariant-loop-change g l = record {
  sends : Awaits (told (g.W.Sink.written l.fn.out) (g.W.Sink.room l.fn.out)) l.fn.done (changes_bytes l.scn (accepted (g.F.Accepts.test l.filter) l.changes))
      (told (g.W.Sink.written l.out) (g.W.Sink.room l.out)) l.done (changes_bytes l.scn (accepted (g.F.Accepts.test l.filter) (drop l.change-index l.changes)));
  room : l.done + changes_size (drop l.change-index l.changes) ≤ l.fn.done + changes_size l.changes;
  beside : g.W.Sink.beside l.out ≡ g.W.Sink.beside l.fn.out;
  later : g.W.Sink.faults l.fn.out ≤ g.W.Sink.faults l.out;
}
