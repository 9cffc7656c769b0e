use Rattle.std.proofs.Common.{◌≡◌, ◌+◌, ◌-◌, ◌*◌, ◌≤◌}
use Rattle.bus_types.specs.Timeline.{end_of}
use Rattle.relay_node.proofs.Published.{made_on}
use Rattle.relay_node.proofs.line.publish_generated.Given as goal

abbrev pub invariant-loop-i : goal.invariant-loop-i
invariant-loop-i g l = record {
  rest : made_on l.publisher (l.more - l._i) l.state ≡ made_on l.fn.publisher l.more l.seed;
  low : end_of l.publisher.windows ≤ end_of l.fn.publisher.windows + 3 * l._i;
}
