use Rattle.std.proofs.Common.{length}
use Rattle.partition_filter.proofs.accepting.+accepts_in_order.Given as goal

abbrev pub decreases-accepts_in_order : goal.decreases-accepts_in_order
decreases-accepts_in_order l = length l.rules.now
