use Rattle.std.proofs.Common.{subst}
use Rattle.partition_filter.specs.Selection.{test_of}
use Rattle.client_switch.specs.Client.{Held}
use Rattle.client_switch.specs.Turning.{CanStand}
use Rattle.client_switch.proofs.Coming.{coming, described, read}
use Rattle.client_switch.proofs.Settling.{takes_settled}
use Rattle.client_switch.proofs.Keeping.{keeps_taken, floor_taken}
use Rattle.client_switch.proofs.KeepingGood.{good_taken}
use Rattle.client_switch.proofs.client.Client.take.Goals as goal

pub dispatch-requires : goal.dispatch-requires
dispatch-requires g c = described c.args.ask.now c.args.reply.now c.in_ok-shape.shape c.in_ok-shape.ensures.ok

pub settle-requires : goal.settle-requires
settle-requires g c =
    coming c.args.self.now.mark c.args.self.now.wish c.args.self.now.filter c.requires.0 c.args.ask.now c.args.reply.now c.in_ok-shape.shape c.requires.1 c.in_ok-shape.ensures.ok

pub returns-clause-takes : goal.returns-clause-takes
returns-clause-takes g c =
    let lawful = c.in_ok-shape.ensures.ok in
    let reply = read c.args.ask.now c.args.reply.now c.in_ok-shape.shape lawful in
    takes_settled c.settle.result c.args.self.now c.settle.new.self c.args.ask.now c.args.reply.now c.in_ok-shape.shape _ _ _ _ _ reply.0
    lawful reply.1 (rw c.in_default.is at c.dispatch.ensures.told) c.settle.ensures.settles

pub returns-clause-keeps : goal.returns-clause-keeps
returns-clause-keeps g c =
    let stands = subst (λ (h : Held). CanStand h.mark h.wish) c.self.view_is c.self.invariant in
    keeps_taken c.settle.result c.args.self.now c.settle.new.self c.args.ask.now c.args.reply.now _ _ _ _ c.requires.0 stands.lawful c.requires.1 (returns-clause-takes g c)

pub returns-clause-floor : goal.returns-clause-floor
returns-clause-floor g c =
    let stands = subst (λ (h : Held). CanStand h.mark h.wish) c.self.view_is c.self.invariant in
    floor_taken c.settle.result c.args.self.now c.settle.new.self c.args.ask.now c.args.reply.now _ _ _ _ c.requires.0 stands.lawful c.requires.1 (returns-clause-takes g c)

pub returns-clause-good : goal.returns-clause-good
returns-clause-good g c ws most timeline good asked true_of =
    let stands = subst (λ (h : Held). CanStand h.mark h.wish) c.self.view_is c.self.invariant in
    good_taken ws (test_of c.args.self.now.filter) c.args.self.now c.settle.new.self c.args.ask.now c.args.reply.now _ _ _ _ most stands asked timeline true_of good c.settle.result (returns-clause-takes g c)
