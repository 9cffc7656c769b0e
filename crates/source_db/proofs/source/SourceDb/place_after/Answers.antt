use Rattle.std.proofs.Common.{leb, ◌∙◌, rules, tests}
use Rattle.std.proofs.lemmas.List.Sorted.{IsPartitionPoint-from_clause, IsPartitionedBy-leb}
use Rattle.bus_types.specs.Window.{Span}
use Rattle.bus_types.proofs.Places.{rises_in_order}
use Rattle.bus_types.proofs.Stretches.{timeline_rises}
use Rattle.source_db.proofs.Places.{place_is}
use Rattle.source_db.proofs.source.SourceDb.place_after.Goals as goal

pub returns-clause-place : goal.returns-clause-place
returns-clause-place c =
    let ws = c.deref.result.now in
    let seen = c.deref.ensures.value ∙ c.self.view_is in
    let rises = timeline_rises 0 ws (rw (c.deref.ensures.value) c.self.invariant) in
    let p : Span → _ = λ (w : Span). leb w.scn c.args.scn in
    rw (← seen) (place_is 0 ws c.args.scn _ rises c.partition_point.ensures.bound (IsPartitionPoint-from_clause p ws _ c.partition_point.ensures.partitioned (IsPartitionedBy-leb (λ (w : Span). w.scn) ws c.args.scn (rises_in_order 0 ws rises)) (λ a r f h. search (rules, tests))))
