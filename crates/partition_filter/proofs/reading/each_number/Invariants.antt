use Rattle.std.proofs.Common.{◌≡◌, drop, map}
use Rattle.partition_filter.specs.Grammar.{numbers_of}
use Rattle.bus_types.proofs.ListForms.{with_front}
use Rattle.partition_filter.proofs.reading.each_number.Given as goal

abbrev pub invariant-loop-text : goal.invariant-loop-text
invariant-loop-text l =
    with_front l.numbers.items (numbers_of l.max (drop l.text-index (map (λ text. text.now) l.texts))) ≡ numbers_of l.max (map (λ text. text.now) l.texts)
