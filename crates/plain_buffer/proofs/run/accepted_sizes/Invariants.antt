use Rattle.std.proofs.Common.{◌≡◌, ◌+◌, drop}
use Rattle.bus_types.specs.Change.{accepted, changes_size}
use Rattle.plain_buffer.proofs.run.accepted_sizes.Given as goal

abbrev pub invariant-loop-change : goal.invariant-loop-change
invariant-loop-change g l = l.size + changes_size (accepted (g.F.Accepts.test l.filter) (drop l.change-index l.changes)) ≡ changes_size (accepted (g.F.Accepts.test l.filter) l.changes)
