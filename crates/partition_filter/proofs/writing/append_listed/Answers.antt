use Rattle.std.proofs.Common.{refl}
use Rattle.std.specs.Prelude.{decimal}
use Rattle.partition_filter.proofs.Written.{joined-after}
use Rattle.partition_filter.proofs.writing.append_listed.Goals as goal

pub returns : goal.returns
returns c =
    joined-after c.append_more_numbers.result 44 decimal c.args.numbers.now _ 0 _ _ _ c.in-len1-up.len_at_least refl c.in_ok-append_number.ensures c.append_more_numbers.ensures
