use Rattle.std.proofs.Common.{◌≡◌, ◌+◌, ◌-◌, ◌*◌, ◌≤◌, drop, take}
use Rattle.bus_types.specs.Cut.{cuts}
use Rattle.event_codec.specs.Streams.{windows_bytes}
use Rattle.plain_buffer.specs.Send.{told}
use Rattle.byte_ring.specs.Parts.{Awaiting, passed}
use Rattle.byte_ring.proofs.Moving.{MovesOn}
use Rattle.byte_ring.proofs.send.send_windows.Given as goal

abbrev pub invariant-loop-i : goal.invariant-loop-i
invariant-loop-i g l =
    let test = g.F.Accepts.test l.filter in
    let bytes = l.bytes in
    record {
      moves : MovesOn bytes (told (g.W.Sink.written l.fn.out) (g.W.Sink.room l.fn.out)) (record { done = 0; from = 0; to = 0 }) (windows_bytes (cuts test (take l.count (drop l.from l.kept.windows))))
          (told (g.W.Sink.written l.out) (g.W.Sink.room l.out)) l.pending (windows_bytes (cuts test (take (l.count - l.i) (drop (l.from + l.i) l.kept.windows))));
      awaiting : Awaiting bytes l.pending;
      few : passed l.pending ≤ l.i * 1048576;
      beside : g.W.Sink.beside l.out ≡ g.W.Sink.beside l.fn.out;
      later : g.W.Sink.faults l.fn.out ≤ g.W.Sink.faults l.out;
    }
