use Rattle.std.proofs.Common.{◌≡◌, drop}
use Rattle.history_core.specs.Steps.{place_from, place_of}
use Rattle.history_core.specs.Bus.{followers}
use Rattle.history_core.proofs.bus.place.Given as goal

abbrev pub invariant-loop-i : goal.invariant-loop-i
invariant-loop-i l = place_from l.i l.name (followers (drop l.i l.members)) ≡ place_of l.name (followers l.members)
