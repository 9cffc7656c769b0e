use Rattle.std.proofs.Common.{◌≡◌, ◌+◌, ◌-◌, ◌*◌, ◌≤◌, drop, take}
use Rattle.bus_types.specs.Cut.{cuts}
use Rattle.event_codec.specs.Streams.{windows_bytes}
use Rattle.plain_buffer.specs.Send.{told}
use Rattle.plain_buffer.proofs.Sending.{Awaits}
use Rattle.plain_buffer.proofs.send.send_windows.Given as goal

abbrev pub invariant-loop-i : goal.invariant-loop-i
invariant-loop-i g l = record {
  sends : Awaits (told (g.W.Sink.written l.fn.out) (g.W.Sink.room l.fn.out)) 0 (windows_bytes (cuts (g.F.Accepts.test l.filter) (take l.count (drop l.from l.windows.items))))
      (told (g.W.Sink.written l.out) (g.W.Sink.room l.out)) l.done (windows_bytes (cuts (g.F.Accepts.test l.filter) (take (l.count - l.i) (drop (l.from + l.i) l.windows.items))));
  room : l.done ≤ l.i * 1048576;
  beside : g.W.Sink.beside l.out ≡ g.W.Sink.beside l.fn.out;
  later : g.W.Sink.faults l.fn.out ≤ g.W.Sink.faults l.out;
}
