use Rattle.std.proofs.Common.{leb, subst, rules, tests}
use Rattle.std.proofs.lemmas.List.Sorted.{IsPartitionPoint-from_clause, IsPartitionedBy-leb}
use Rattle.bus_types.specs.Window.{Span}
use Rattle.bus_types.proofs.Stretches.{timeline_rises}
use Rattle.bus_types.proofs.Places.{rises_in_order}
use Rattle.bus_stores.specs.MemoryLog.{MemoryWindows, IsPlaceAfter}
use Rattle.bus_stores.proofs.KeptWindows.{place_is}
use Rattle.bus_stores.proofs.memory_log.MemoryLog.place_after.Goals as goal

pub returns-clause-place : goal.returns-clause-place
returns-clause-place c =
    let floor = c.self.inside.floor in
    let ws = c.self.inside.windows.items in
    let rises = timeline_rises floor ws c.self.invariant.chained in
    let p : Span → _ = λ (w : Span). leb w.scn c.args.scn in
    let parted = IsPartitionPoint-from_clause p ws _ c.partition_point.ensures.partitioned (IsPartitionedBy-leb (λ (w : Span). w.scn) ws c.args.scn (rises_in_order floor ws rises)) (λ a r f h. search (rules, tests)) in
    subst (λ (s : MemoryWindows). IsPlaceAfter c.args.scn s.floor s.windows c.partition_point.result) c.self.view_is (place_is c.args.scn floor ws _ rises parted)
