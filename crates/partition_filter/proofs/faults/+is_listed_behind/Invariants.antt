use Rattle.std.proofs.Common.{length}
use Rattle.partition_filter.proofs.faults.+is_listed_behind.Given as goal

abbrev pub decreases-is_listed_behind : goal.decreases-is_listed_behind
decreases-is_listed_behind l = length l.text.now
