use Rattle.std.proofs.Common.{refl}
use Rattle.bus_node.specs.Words.{polling_at}
use Rattle.bus_node.proofs.words.polling_at.Goals as goal

pub returns-clause-value : goal.returns-clause-value
unfolding polling_at
returns-clause-value c = rw (← c.in_ok-relay.ensures.value, ← c.in_ok-bootstrap.ensures.value, ← c.in_ok-polls.ensures.value, ← c.in_ok-max.ensures.value) refl
