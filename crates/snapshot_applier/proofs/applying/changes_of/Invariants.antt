use Rattle.std.proofs.Common.{◌≡◌, ◌++◌, flat_map}
use Rattle.std.specs.Vec.Iter.{into_iter_items}
use Rattle.bus_types.specs.Window.{Span}
use Rattle.snapshot_applier.proofs.applying.changes_of.Given as goal

abbrev pub invariant-loop-window : goal.invariant-loop-window
invariant-loop-window l = l.changes.items ++ flat_map (λ (w : Span). w.changes) (into_iter_items l.window-iterator) ≡ flat_map (λ (w : Span). w.changes) l.fn.windows.items
