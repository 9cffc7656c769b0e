use Rattle.std.proofs.Common.{◌≡◌, drop}
use Rattle.bus_types.specs.Fnv.{fnv_from, fnv1a_of}
use Rattle.bus_types.proofs.fnv.fnv1a.Given as goal

-- what is still to come makes the whole
abbrev pub invariant-loop-byte : goal.invariant-loop-byte
invariant-loop-byte l = fnv_from l.hash (drop l.byte-index l.bytes) ≡ fnv1a_of l.bytes
