use Rattle.std.proofs.Common.{List, ℕ, ◌+◌, ◌++◌, sym, ap, ◌∙◌, refl}
use Rattle.bus_wire.proofs.Walking.{walks}
use Rattle.bus_wire.proofs.items.Walk.advance.Goals as goal

pub returns : goal.returns
returns c = λ w bytes walked.
    let seen = c.in_ok-event.ensures in
    walks w bytes c.args.self.now c.in_ok-event.event (record { items = c.behind.result; count = c.args.self.now.count + 1; rest = c.in_ok-event.rest }) walked seen.view
    (seen.parts ∙ ap (λ (x : List ℕ). x ++ c.in_ok-event.rest.now) seen.own) (sym c.takes.ensures ∙ c.if-not-takes.false) c.behind.ensures refl
