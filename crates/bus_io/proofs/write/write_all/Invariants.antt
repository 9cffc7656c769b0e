use Rattle.std.proofs.Common.{◌≡◌, ◌-◌, ◌≤◌, length, take}
use Rattle.std.specs.Io.KnownBytes.{Appends}
use Rattle.bus_io.specs.Bytes.{RoomLeft}
use Rattle.bus_io.proofs.write.write_all.Given as goal

abbrev pub invariant-loop-done : goal.invariant-loop-done
invariant-loop-done g l = record {
  within : l.done ≤ length l.bytes;
  written : Appends (g.W.Sink.written l.fn.out) (g.W.Sink.written l.out) (take l.done l.bytes);
  room : RoomLeft (g.W.Sink.room l.fn.out) (g.W.Sink.room l.out) l.done;
  later : g.W.Sink.faults l.fn.out ≤ g.W.Sink.faults l.out;
  beside : g.W.Sink.beside l.out ≡ g.W.Sink.beside l.fn.out;
}

abbrev pub decreases-loop-done : goal.decreases-loop-done
decreases-loop-done g l = length l.bytes - l.done
