use Rattle.std.proofs.Common.{◌≡◌, length}
use Rattle.event_codec.specs.Parsing.{read_all, event_in_front}
use Rattle.event_codec.proofs.lent.behind_events.Given as goal

abbrev pub invariant-loop-behind : goal.invariant-loop-behind
invariant-loop-behind l = (read_all event_in_front l.bytes).1 ≡ (read_all event_in_front l.rest).1

abbrev pub decreases-loop-behind : goal.decreases-loop-behind
decreases-loop-behind l = length l.rest
