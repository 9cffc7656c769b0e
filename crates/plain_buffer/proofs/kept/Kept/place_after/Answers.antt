use Rattle.std.proofs.Common.{leb, length, length-drop, ap, arith, rules, tests}
use Rattle.std.proofs.lemmas.List.Sorted.{IsPartitionPoint-from_clause, IsPartitionedBy-leb}
use Rattle.bus_types.specs.Window.{Span}
use Rattle.bus_types.proofs.Stretches.{timeline_rises}
use Rattle.bus_types.proofs.Floors.{end_found}
use Rattle.bus_types.proofs.Places.{rises_in_order, drop_place}
use Rattle.plain_buffer.proofs.kept.Kept.place_after.Goals as goal

pub returns-clause-after : goal.returns-clause-after
returns-clause-after c =
    let kept = c.args.self.now in
    let ws = kept.windows.items in
    let rises = timeline_rises kept.floor ws c.requires in
    let p : Span → _ = λ (w : Span). leb w.scn c.args.scn in
    drop_place kept.floor c.args.scn ws _ rises (IsPartitionPoint-from_clause p ws _ c.partition_point.ensures.partitioned (IsPartitionedBy-leb (λ (w : Span). w.scn) ws c.args.scn (rises_in_order kept.floor ws rises)) (λ a r f h. search (rules, tests)))

pub returns-clause-within : goal.returns-clause-within
returns-clause-within c = λ low high.
    let kept = c.args.self.now in
    let ws = kept.windows.items in
    let found = end_found kept.floor c.args.scn ws (timeline_rises kept.floor ws c.requires) low high in
    let behind = ap length (returns-clause-after c) in
    omega (arith, length-drop c.partition_point.result ws)
