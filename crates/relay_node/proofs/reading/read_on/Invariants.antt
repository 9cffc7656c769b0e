use Rattle.std.proofs.Common.{◌+◌, ◌-◌, ◌<◌, ◌≤◌, length}
use Rattle.trace_script.specs.Input.{longest_input}
use Rattle.relay_node.proofs.Inputs.{CameOn}
use Rattle.relay_node.proofs.reading.read_on.Given as goal

abbrev pub invariant-loop-come : goal.invariant-loop-come
invariant-loop-come g l = record {
  room : 0 < length l.piece;
  came : CameOn (g.S.Source.left l.fn.input) (g.S.Source.left l.input) l.read l.come;
  later : g.S.Source.faults l.fn.input ≤ g.S.Source.faults l.input;
}

abbrev pub decreases-loop-come : goal.decreases-loop-come
decreases-loop-come g l = longest_input + 1 - l.come
