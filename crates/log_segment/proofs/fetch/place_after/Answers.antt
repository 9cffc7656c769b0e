use Rattle.std.proofs.Common.{leb, rules, tests}
use Rattle.std.proofs.lemmas.List.Sorted.{IsPartitionPoint-from_clause, IsPartitionedBy-leb}
use Rattle.log_segment.specs.declared.segment.Entry.{Entry}
use Rattle.log_segment.proofs.Lookups.{in_order}
use Rattle.log_segment.proofs.fetch.place_after.Goals as goal

pub returns : goal.returns
returns c =
    let p : Entry → _ = λ (e : Entry). leb e.scn c.args.scn in
    IsPartitionPoint-from_clause p c.args.index.now _ c.partition_point.ensures.partitioned
    (IsPartitionedBy-leb (λ (e : Entry). e.scn) c.args.index.now c.args.scn (in_order c.requires.1 c.requires.0 c.args.index.now c.requires.2)) (λ a r f h. search (rules, tests))
