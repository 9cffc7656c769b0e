use Rattle.std.proofs.Common.{List, ℕ, sym, subst, arith}
use Rattle.history_core.specs.Booting.{IsNextReply}
use Rattle.history_core.proofs.BootMoves.{logs_still}
use Rattle.history_core.proofs.LogTakes.{has_next, can_take}
use Rattle.history_core.proofs.boot.log_some.Goals as goal

pub returns-then-tail-high-clause-logs : goal.returns-then-tail-high-clause-logs
returns-then-tail-high-clause-logs g c ws can = logs_still ws (g.B.Buffer.relay c.args.relay.now) c.args.most c.args.boot.now (omega (arith, c.tail.ensures.value, c.high.ensures.value, c.if-tail-high.true)) can.booted

pub returns-clause-logs : goal.returns-clause-logs
returns-clause-logs g c ws can =
    let tail = (g.B.Buffer.relay c.args.relay.now).tail in
    let has = has_next ws (g.B.Buffer.relay c.args.relay.now) c.args.boot.now c.high-2.result can c.high-2.ensures.value (omega (arith, c.tail.ensures.value, c.high.ensures.value, c.high-2.ensures.value, c.if-tail-high.false)) in
    let next = subst (λ (n : ℕ). IsNextReply ws tail n c.deref.result.now c.in_ok-reply.count) c.high-2.ensures.value
    (subst (λ (bytes : List ℕ). IsNextReply ws tail c.high-2.result bytes c.in_ok-reply.count) (sym c.deref.ensures.value) (c.in_ok-reply.ensures ws has)) in
    c.in_ok-take.ensures ws tail (can_take ws (g.B.Buffer.relay c.args.relay.now) c.args.boot.now c.deref.result.now c.in_ok-reply.count _ can next (omega arith))
