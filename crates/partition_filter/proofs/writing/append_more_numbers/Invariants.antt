use Rattle.std.proofs.Common.{◌≡◌, ◌∷◌, ◌++◌, take}
use Rattle.std.specs.Prelude.{decimal, flat_map, string_bytes}
use Rattle.partition_filter.proofs.writing.append_more_numbers.Given as goal

abbrev pub invariant-loop-number : goal.invariant-loop-number
invariant-loop-number l = string_bytes l.out ≡ string_bytes l.fn.out ++ flat_map (λ n. 44 ∷ decimal n) (take l.number-index l.numbers)
