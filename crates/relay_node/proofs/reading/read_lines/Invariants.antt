use Rattle.std.proofs.Common.{◌-◌, ◌<◌, ◌≤◌, length}
use Rattle.trace_script.specs.Input.{longest_input}
use Rattle.relay_node.specs.Reading.{Reached}
use Rattle.relay_node.proofs.reading.read_lines.Given as goal

abbrev pub invariant-loop-read : goal.invariant-loop-read
invariant-loop-read g l = record {
  room : 0 < length l.piece;
  low : l.read ≤ longest_input;
  reached : Reached (g.S.Source.left l.fn.input) (g.S.Source.left l.input) (record { sent = l.fn.feed.publisher; lines = l.fn.feed.lines })
      (record { sent = l.feed.publisher; lines = l.feed.lines }) l.read;
  later : g.S.Source.faults l.fn.input ≤ g.S.Source.faults l.input;
}

abbrev pub decreases-loop-read : goal.decreases-loop-read
decreases-loop-read g l = longest_input - l.read
