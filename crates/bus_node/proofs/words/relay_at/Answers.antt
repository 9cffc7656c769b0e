use Rattle.std.proofs.Common.{refl}
use Rattle.bus_node.specs.Words.{relay_at}
use Rattle.bus_node.proofs.words.relay_at.Goals as goal

pub returns-clause-value : goal.returns-clause-value
unfolding relay_at
returns-clause-value c = rw (← c.in_ok-port.ensures.value, ← c.in_ok-bytes.ensures.value, ← c.in_ok-windows.ensures.value, ← c.in_ok-connections.ensures.value) refl
