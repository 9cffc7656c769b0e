use Rattle.std.proofs.Common.{refl}
use Rattle.bus_node.specs.Words.{bootstrap_at}
use Rattle.bus_node.proofs.words.bootstrap_at.Goals as goal

pub returns-clause-value : goal.returns-clause-value
unfolding bootstrap_at
returns-clause-value c = rw (← c.in_ok-port.ensures.value, ← c.in_ok-relay.ensures.value, ← c.in_ok-rounds.ensures.value, ← c.in_ok-connections.ensures.value) refl
