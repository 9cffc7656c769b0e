use Rattle.std.proofs.Common.{ap, ◌∙◌}
use Rattle.client_switch.specs.Turning.{mark_after}
use Rattle.client_switch.proofs.Turns.{made}
use Rattle.client_switch.proofs.turn.turn_of.Goals as goal

pub returns : goal.returns
returns c =
    let m = made c.args.mark.now c.args.shape.now c.args.reply.now c.in_ok-changes.changes.items c.mark_after-next.result c.go.result c.requires.mark c.requires.can_come c.in_default.not-Only c.in_ok-changes.ensures
    (c.mark_after-next.ensures ∙ ap (mark_after c.args.mark.now c.args.shape.now) c.deref.ensures.value) c.go.ensures in
    record { turn = m.turn; stands = m.stands }
