use Rattle.std.proofs.Common.{ltb, None, rules, tests}
use Rattle.std.proofs.lemmas.List.Sorted.{IsPartitionPoint-from_clause, IsPartitionedBy-ltb}
use Rattle.partition_filter.specs.declared.rule.Rule.{Rule}
use Rattle.partition_filter.specs.Selection.{accepts_key}
use Rattle.partition_filter.proofs.Searches.{in_order, only_there}
use Rattle.partition_filter.proofs.accepting.place_of.Goals as goal

pub returns : goal.returns
returns c key d =
    let rising = c.requires in
    let all = c.args.rules.now in
    let source : Rule → _ = λ (r : Rule). r.source in
    only_there source (λ (r : Rule). accepts_key r.keys key) c.args.source None all _ d rising
    (IsPartitionPoint-from_clause (λ (r : Rule). ltb r.source c.args.source) all _ c.partition_point.ensures.partitioned (IsPartitionedBy-ltb source all c.args.source (in_order source None all rising)) (λ a r f h. search (rules, tests)))
