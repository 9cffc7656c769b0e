use Rattle.std.proofs.Common.{◌≡◌, ℕ, List, length}
use Rattle.bus_types.specs.Window.{Span}
use Rattle.bus_types.specs.Timeline.{total_size}
use Rattle.plain_buffer.specs.Buffer.{Evicts}
use Rattle.plain_buffer.proofs.kept.Kept.evict.Given as goal

abbrev pub invariant-loop-self : goal.invariant-loop-self
invariant-loop-self l = record {
  bytes : l.self.size ≡ total_size l.self.windows.items;
  rest : (new : List Span) (size end : ℕ) → Evicts (record { bytes = l.bytes; windows = l.windows }) l.self.floor l.self.windows.items new size end
      → Evicts (record { bytes = l.bytes; windows = l.windows }) l.fn.self.floor l.fn.self.windows.items new size end;
}

abbrev pub decreases-loop-self : goal.decreases-loop-self
decreases-loop-self l = length l.self.windows.items
