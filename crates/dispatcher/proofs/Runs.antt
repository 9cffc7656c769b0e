-- Runs of events, and the windows that are left.
use Rattle.std.proofs.Common.{◌≡◌, ℕ, List, [], ◌∷◌, ◌++◌, map, sym, ap, subst, ◌∙◌}
use Rattle.std.specs.Prelude.{Option, Some, None, Result, Ok, Err, IfOk, flat_map}
use Rattle.std.proofs.lemmas.Option.{same_Some, none-some}
use Rattle.bus_types.specs.Window.{Span}
use Rattle.event_codec.specs.Bytes.{Event}
use Rattle.event_codec.specs.Parsing.{window_events, first_scn, first_event, behind_event, first_events, others}
use Rattle.event_codec.specs.declared.reply.Shape.{Shape}
use Rattle.event_codec.proofs.Replying.{same_view}
use Rattle.event_codec.proofs.Taking.{event_taken, no_events, no_windows}
use Rattle.dispatcher.specs.declared.consumer.Refused.{Refused}
use Rattle.dispatcher.specs.Callbacks.{Callback, Call, taken, with_calls, StopsAt, run_calls, window_calls, reply_calls, Describes, Dispatched}
use Rattle.dispatcher.specs.Callbacks.Callback.{OnStart, OnEvent, OnEnd}
use Rattle.dispatcher.specs.Telling.{Makes, first_calls}
use Rattle.dispatcher.proofs.Lists.{makes_both, stops_later, stops_there}

-- ---- a run

abbrev behind_start : ℕ → List Event → List Callback
behind_start scn events = map (OnEvent scn) events ++ OnEnd scn ∷ []

pub stops_at_start : (scn n : ℕ) (events : List Event) (x y : Option (List Call)) → StopsAt n (OnStart scn ∷ []) [] x y → StopsAt n (run_calls scn events) [] x y
stops_at_start scn n events x y stops = stops_there n (OnStart scn ∷ []) (behind_start scn events) [] x y stops

pub stops_at_event : (scn n : ℕ) (events : List Event) (x y z : Option (List Call)) → y ≡ with_calls (taken (OnStart scn) ∷ []) x → StopsAt n (map (OnEvent scn) events) [] y z → StopsAt n (run_calls scn events) [] x z
stops_at_event scn n events x y z first stops =
    stops_later n (OnStart scn ∷ []) (behind_start scn events) [] x y z first (stops_there n (map (OnEvent scn) events) (OnEnd scn ∷ []) [] y z stops)

-- the start and the events were taken, and then the end was called
pub run_ends : (scn : ℕ) (events : List Event) (result : Result Unit Refused) (w x y z : Option (List Call)) → x ≡ with_calls (taken (OnStart scn) ∷ []) w → y ≡ with_calls (map taken (map (OnEvent scn) events)) x
    → Makes result (OnEnd scn ∷ []) y z → Makes result (run_calls scn events) w z
run_ends scn events result w x y z first second third =
    makes_both result (OnStart scn ∷ []) (behind_start scn events) w x z first (makes_both result (map (OnEvent scn) events) (OnEnd scn ∷ []) x y z second third)

-- ---- the events of the window in front

pub event_first : (scn : ℕ) (ws next : List Span) (e : Event) → Some e ≡ first_event ws → next ≡ behind_event ws → map (OnEvent scn) (first_events ws) ≡ (OnEvent scn e ∷ []) ++ map (OnEvent scn) (first_events next)
event_first scn ws next e first behind = ap (map (OnEvent scn)) (event_taken ws next e first behind).first

pub event_none : (scn : ℕ) (ws : List Span) → None ≡ first_event ws → map (OnEvent scn) (first_events ws) ≡ []
event_none scn ws first = ap (map (OnEvent scn)) (no_events ws first)

-- ---- windows

pub first_calls_are : (ws : List Span) (scn : ℕ) → first_scn ws ≡ Some scn → first_calls ws ≡ run_calls scn (first_events ws)
first_calls_are [] scn first = absurd (none-some scn first)
first_calls_are (w ∷ ws) scn first = ap (λ n. run_calls n (window_events w)) (same_Some w.scn scn first)

-- what was called of its run was called of the window in front
pub first_stops : (ws : List Span) (scn n : ℕ) (x z : Option (List Call)) → first_scn ws ≡ Some scn → StopsAt n (run_calls scn (first_events ws)) [] x z → StopsAt n (first_calls ws) [] x z
first_stops ws scn n x z first stops = subst (λ (l : List Callback). StopsAt n l [] x z) (sym (first_calls_are ws scn first)) stops

pub first_makes : (r : Result Unit Refused) (ws : List Span) (scn : ℕ) (x z : Option (List Call)) → first_scn ws ≡ Some scn → Makes r (run_calls scn (first_events ws)) x z → Makes r (first_calls ws) x z
first_makes r ws scn x z first makes = subst (λ (l : List Callback). Makes r l x z) (sym (first_calls_are ws scn first)) makes

pub calls_parts : (ws next : List Span) → next ≡ others ws → flat_map window_calls ws ≡ first_calls ws ++ flat_map window_calls next
calls_parts [] next same = ap (flat_map window_calls) (sym same)
calls_parts (w ∷ ws) next same = ap (λ (l : List Span). window_calls w ++ flat_map window_calls l) (sym same)

pub calls_none : (ws : List Span) → None ≡ first_scn ws → flat_map window_calls ws ≡ []
calls_none ws first = ap (flat_map window_calls) (no_windows ws first)

pub whatever : (r : Result Unit Refused) (P : Type 0) → P → IfOk r (λ _. P)
whatever (Ok u) P p = p
whatever (Err e) P p = tt

-- ---- a reply

-- what was called of a reply was called of its callbacks
pub dispatched_as : (r : Result Unit Refused) (cs ds : List Callback) (floor : ℕ) (x z : Option (List Call)) → cs ≡ ds → Dispatched r cs floor x z → Dispatched r ds floor x z
dispatched_as r cs ds floor x z same made = subst (λ (l : List Callback). Dispatched r l floor x z) same made

-- it has one list of callbacks
pub same_callbacks : (shape : Shape) (bytes : List ℕ) (cs ds : List Callback) → Describes shape bytes cs → Describes shape bytes ds → cs ≡ ds
same_callbacks shape bytes cs ds one other = one.told ∙ ap reply_calls (same_view shape bytes one.reply other.reply one.spells other.spells) ∙ sym other.told
