use Rattle.std.proofs.Common.{◌≡◌, ◌-◌, ◌≤◌, List, length}
use Rattle.bus_types.specs.Window.{Span}
use Rattle.partition_filter.specs.Selection.{test_of}
use Rattle.event_codec.specs.Parsing.{AreWindows}
use Rattle.range_ring.specs.Parts.{bytes_at, IsPlace}
use Rattle.relay_server.proofs.Sendings.{PartsSent}
use Rattle.relay_server.proofs.stream.send_window.Given as goal

abbrev pub invariant-loop-part : goal.invariant-loop-part
invariant-loop-part g l = record {
  place : IsPlace (bytes_at l.range.entries l.i) l.place;
  sent : (items : List Span) → AreWindows items (bytes_at l.range.entries l.i) → PartsSent (test_of l.range.filter) (bytes_at l.range.entries l.i) (g.W.Sink.written l.fn.out) (g.W.Sink.written l.out) items l.place;
  later : g.W.Sink.faults l.fn.out ≤ g.W.Sink.faults l.out;
  beside : g.W.Sink.beside l.out ≡ g.W.Sink.beside l.fn.out;
}

abbrev pub decreases-loop-part : goal.decreases-loop-part
decreases-loop-part g l = length (bytes_at l.range.entries l.i) - l.place
