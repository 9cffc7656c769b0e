-- Windows that come one after the other, in two parts.
use Rattle.std.proofs.Common.{◌≡◌, List, [], ◌∷◌, ◌++◌, refl}
use Rattle.std.specs.List.{AllByRecursion}
use Rattle.bus_types.specs.Window.{Span, IsSpan}
use Rattle.event_codec.specs.Items.{Since}
use Rattle.event_codec.specs.Streams.{Come, after_window, after_windows}

pub come_append : (s : Since) (ws vs : List Span) → Come s ws → Come (after_windows s ws) vs → Come s (ws ++ vs)
come_append s [] vs a b = b
come_append s (w ∷ ws) vs a b = (a.0, come_append (after_window s w) ws vs a.1 b)

pub after_append : (s : Since) (ws vs : List Span) → after_windows s (ws ++ vs) ≡ after_windows (after_windows s ws) vs
after_append s [] vs = refl
after_append s (w ∷ ws) vs = after_append (after_window s w) ws vs

-- each of them is within its limits
pub come_spans : (s : Since) (ws : List Span) → Come s ws → AllByRecursion IsSpan ws
come_spans s [] come = tt
come_spans s (w ∷ ws) come = (come.0.within, come_spans (after_window s w) ws come.1)
