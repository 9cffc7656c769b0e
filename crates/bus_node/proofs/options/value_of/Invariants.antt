use Rattle.std.proofs.Common.{◌≡◌, map, length, string_bytes}
use Rattle.bus_node.specs.Words.{in_pairs, values_of}
use Rattle.bus_node.proofs.options.value_of.Given as goal

abbrev pub invariant-pairs : goal.invariant-pairs
invariant-pairs l = values_of (in_pairs (map string_bytes l.rest)) l.name ≡ values_of (in_pairs (map string_bytes l.fn.words)) l.fn.name

abbrev pub decreases-pairs : goal.decreases-pairs
decreases-pairs l = length l.rest
