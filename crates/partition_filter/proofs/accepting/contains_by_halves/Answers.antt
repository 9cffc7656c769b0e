use Rattle.std.proofs.Common.{◌∙◌}
use Rattle.std.proofs.lemmas.List.Sorted.{searched}
use Rattle.partition_filter.proofs.Searches.{numbers_in_order, found_is}
use Rattle.partition_filter.proofs.accepting.contains_by_halves.Goals as goal

pub returns : goal.returns
returns c =
    let found = searched c.args.numbers.now c.args.number c.binary_search.result c.binary_search.ensures.position (numbers_in_order c.args.numbers.now c.requires) in
    c.is_ok.ensures.value ∙ found_is c.args.numbers.now c.args.number c.binary_search.result found
