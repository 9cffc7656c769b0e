-- What a relay answers, said of each timeline that it stands for.
use Rattle.std.proofs.Common.{ℕ, List, Result, Ok, Err, subst}
use Rattle.std.specs.Prelude.{IfOk}
use Rattle.bus_types.specs.Change.{Test}
use Rattle.bus_types.specs.Window.{Span}
use Rattle.bus_types.specs.Relay.{Relay, answer_of, stream, StandsFor}
use Rattle.bus_types.proofs.Floors.{stands_answers}
use Rattle.event_codec.specs.declared.reply.Served.{Served}
use Rattle.event_codec.specs.Reply.{IsServed}

rule_holds : (r : Relay) (scn : ℕ) (test : Test) (max : ℕ) (served : Served) → IsServed served (answer_of r scn test max) → (ws : List Span) → StandsFor ws r → IsServed served (stream ws r.floor r.tail scn test max)
rule_holds r scn test max served told ws stands = subst (IsServed served) (stands_answers ws r scn test max stands) told

-- the same, of a call that may fail
pub rule_if : {E : Type 0} (r : Relay) (scn : ℕ) (test : Test) (max : ℕ) (result : Result Served E) → IfOk result (λ served. IsServed served (answer_of r scn test max)) → IfOk result (λ served. (ws : List Span) → StandsFor ws r → IsServed served (stream ws r.floor r.tail scn test max))
rule_if r scn test max (Ok served) told = rule_holds r scn test max served told
rule_if r scn test max (Err fault) told = tt
