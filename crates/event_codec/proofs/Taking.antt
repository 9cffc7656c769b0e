-- Windows that are taken item by item: the events of the one in front, its mark, and the others.
use Rattle.std.proofs.Common.{◌≡◌, ℕ, ◌<◌, List, [], ◌∷◌, length, Option, Some, None, refl, sym, ap, ◌∙◌, arith}
use Rattle.std.proofs.lemmas.Option.{same_Some, none-some}
use Rattle.bus_types.specs.declared.change.Change.{Change}
use Rattle.bus_types.specs.Window.{Span}
use Rattle.event_codec.specs.Bytes.{Event}
use Rattle.event_codec.specs.Parsing.{events_of, first_scn, first_event, behind_event, behind_mark, first_events, without_events, others}

-- the first event was taken
pub record Taken (ws next : List Span) (e : Event) : Type 0 where
  pub first : first_events ws ≡ e ∷ first_events next
  pub same : without_events next ≡ without_events ws

abbrev window : ℕ → ℕ → List Change → Span
window n p cs = record { scn = n; prev = p; changes = cs }

taken_at : (n p : ℕ) (cs : List Change) (ws next : List Span) (e : Event) → Some e ≡ first_event (window n p cs ∷ ws) → next ≡ behind_event (window n p cs ∷ ws) → Taken (window n p cs ∷ ws) next e
taken_at n p [] ws next e first behind = absurd (none-some e (sym first))
taken_at n p (c ∷ cs) ws next e first behind =
    let same : e ≡ record { scn = n; change = c } = same_Some e _ first in
    record { first = (λ i. sym same i ∷ first_events (sym behind i)); same = ap without_events behind }

pub event_taken : (ws next : List Span) (e : Event) → Some e ≡ first_event ws → next ≡ behind_event ws → Taken ws next e
event_taken [] next e first behind = absurd (none-some e (sym first))
event_taken (w ∷ ws) next e first behind = taken_at w.scn w.prev w.changes ws next e first behind

pub events_less : (ws next : List Span) (e : Event) → Some e ≡ first_event ws → next ≡ behind_event ws → length (first_events next) < length (first_events ws)
events_less ws next e first behind = omega (arith, ap length (event_taken ws next e first behind).first)

-- no event is left
none_at : (n p : ℕ) (cs : List Change) (ws : List Span) → None ≡ first_event (window n p cs ∷ ws) → cs ≡ []
none_at n p [] ws first = refl
none_at n p (c ∷ cs) ws first = absurd (none-some _ first)

pub no_events : (ws : List Span) → None ≡ first_event ws → first_events ws ≡ []
no_events [] first = refl
no_events (w ∷ ws) first = ap (events_of w.scn) (none_at w.scn w.prev w.changes ws first)

pub mark_left : (ws next : List Span) → None ≡ first_event ws → next ≡ behind_event ws → next ≡ without_events ws
mark_left [] next first behind = behind
mark_left (w ∷ ws) next first behind =
    behind ∙ (let none = none_at w.scn w.prev w.changes ws first in ap (λ (cs : List Change). behind_event (window w.scn w.prev cs ∷ ws)) none)

-- the mark behind the events was taken too
pub others_are : (ws events marked : List Span) → events ≡ without_events ws → marked ≡ behind_mark events → marked ≡ others ws
others_are [] events marked same behind = behind ∙ ap behind_mark same
others_are (w ∷ ws) events marked same behind = behind ∙ ap behind_mark same

pub windows_less : (ws next : List Span) (scn : ℕ) → Some scn ≡ first_scn ws → next ≡ others ws → length next < length ws
windows_less [] next scn first same = absurd (none-some scn (sym first))
windows_less (w ∷ ws) next scn first same = omega (arith, ap length same)

-- no window is left
pub no_windows : (ws : List Span) → None ≡ first_scn ws → ws ≡ []
no_windows [] first = refl
no_windows (w ∷ ws) first = absurd (none-some w.scn first)
