use Rattle.std.proofs.Common.{◌≡◌, subst}
use Rattle.client_switch.specs.Moves.{turn}
use Rattle.client_switch.specs.Client.{Held}
use Rattle.client_switch.specs.Turning.{turn_in}
use Rattle.client_switch.proofs.Settling.{settled}
use Rattle.client_switch.proofs.client.Client.settle.Goals as goal

pub returns-in-Ok-commit-clause-settles : goal.returns-in-Ok-commit-clause-settles
returns-in-Ok-commit-clause-settles g c r is =
    settled c.follow.result c.args.self.now c.follow.new.self c.args.shape.now r _ _ _ _ (turn_in c.in-Ok.turn) c.in-Ok-commit.text
    (subst (λ (h : Held). turn_in c.in-Ok.turn ≡ turn h.mark r) c.self.view_is (c.in-Ok.ensures.turn r is)) c.follow.ensures.took c.in-Ok-commit.ensures.text
    (subst (λ (h : Held). c.follow.new.self ≡ record h { mark = c.in-Ok.turn.mark; wish = (turn_in c.in-Ok.turn).wish }) c.self.view_is c.follow.ensures.client) c.in-Ok-commit.ensures.takes.leaves
    c.follow.ensures.calls
