-- What a relay's reply is over each timeline that it stands for.
use Rattle.std.proofs.Common.{◌≡◌, ℕ, List, ◌++◌, ap, ◌∙◌}
use Rattle.bus_types.specs.Change.{Test}
use Rattle.bus_types.specs.Window.{Span}
use Rattle.bus_types.specs.Relay.{Relay, Served, answer_of, stream, StandsFor}
use Rattle.bus_types.proofs.Floors.{stands_answers}
use Rattle.event_codec.specs.Reply.{reply_bytes}

pub reply_by_rule : (r : Relay) (scn : ℕ) (test : Test) (max : ℕ) (old new : List ℕ) → new ≡ old ++ reply_bytes (answer_of r scn test max)
    → (ws : List Span) → StandsFor ws r → new ≡ old ++ reply_bytes (stream ws r.floor r.tail scn test max)
reply_by_rule r scn test max old new appended ws stands = appended ∙ ap (λ (served : Served). old ++ reply_bytes served) (stands_answers ws r scn test max stands)
