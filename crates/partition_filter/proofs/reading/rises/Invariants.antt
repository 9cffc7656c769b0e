use Rattle.std.proofs.Common.{◌≡◌, None, drop}
use Rattle.partition_filter.specs.Rising.{rises}
use Rattle.partition_filter.proofs.reading.rises.Given as goal

abbrev pub invariant-loop-number : goal.invariant-loop-number
invariant-loop-number l = rises l.before (drop l.number-index l.numbers) ≡ rises None l.numbers
