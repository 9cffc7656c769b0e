use Rattle.relay_node.specs.Feeding.{windows_of}
use Rattle.relay_node.proofs.Timelines.{told_timeline}
use Rattle.relay_node.proofs.relay.run_relay.Given as goal

-- the ring's windows are those of the input
abbrev pub ghosts-relay_over : goal.ghosts-relay_over
ghosts-relay_over g a = record { windows = windows_of (g.S.Source.left a.input.now); lawful = told_timeline (g.S.Source.left a.input.now) }
