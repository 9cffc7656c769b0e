use Rattle.std.proofs.Common.{◌≤◌, ◌+◌, ◌++◌, ◌∷◌, [], ap, sym, ◌∙◌, arith}
use Rattle.std.proofs.lemmas.Bool.{ltb-false}
use Rattle.bus_types.specs.Window.{span_size}
use Rattle.bus_types.specs.Timeline.{end_from, total_size}
use Rattle.bus_stores.specs.MemoryLog.{MemoryWindows}
use Rattle.bus_stores.proofs.KeptWindows.{kept_more}
use Rattle.bus_stores.proofs.memory_log.MemoryLog.add.Goals as goal

pub invariant_of-self-2 : goal.invariant_of-self-2
invariant_of-self-2 c =
    let i = c.self.inside in
    let w = c.args.window.now in
    let items = c.in_ok-push_back.ensures.items ∙ ap (λ v. i.windows.items ++ v ∷ []) c.in_ok-copy.ensures in
    let chained = c.requires.chained ∙ ap (λ (s : MemoryWindows). end_from s.floor s.windows) (sym c.self.view_is) in
    let free = ltb-false c.args.self.now.limit (total_size c.args.self.now.windows + span_size w) c.requires.free in
    let limit = ap (λ (s : MemoryWindows). s.limit) c.self.view_is in
    let total = ap (λ (s : MemoryWindows). total_size s.windows) c.self.view_is in
    let room : i.size + span_size w ≤ i.limit = omega (arith, c.self.invariant.bytes) in
    rw (items, c.size-size.ensures.value) (kept_more i.floor i.windows.items i.size i.limit w c.self.invariant chained c.requires.full c.size-size.ensures.fits room)
