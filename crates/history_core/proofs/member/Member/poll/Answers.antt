use Rattle.std.proofs.Common.{arith, ◌∙◌}
use Rattle.bus_stores.specs.Memory.{last_mark}
use Rattle.history_core.specs.Bus.{boot_numbers}
use Rattle.history_core.proofs.Polling.{stored_is_mark, polls_so}
use Rattle.history_core.proofs.Replying.{comes_so}
use Rattle.history_core.proofs.member.Member.poll.Goals as goal

pub answer-requires : goal.answer-requires
answer-requires g c = (c.requires.0, c.requires.1.timeline, c.requires.2)

pub follow-requires : goal.follow-requires
follow-requires g c =
    let ws = c.requires.0 in
    let r = g.B.Buffer.relay c.args.relay.now in
    let member = c.requires.3 in
    let mark = stored_is_mark (last_mark c.args.self.now.store.marks) c.args.self.now.client.mark member.stored in (
      ws,
      r,
      boot_numbers c.args.boot.now,
      c.args.max,
      comes_so ws r (boot_numbers c.args.boot.now) c.args.max c.args.self.now c.in_ok-ask.ask c.deref.result.now c.requires.1 c.requires.2.stands.lawful member mark c.in_ok-ask.ensures
          (c.deref.ensures.value ∙ c.in_ok-answer.ensures.reply ws c.requires.1 c.requires.2) (omega arith),
    )

pub returns-clause-polls : goal.returns-clause-polls
returns-clause-polls g c =
    let r = g.B.Buffer.relay c.args.relay.now in
    let boot = boot_numbers c.args.boot.now in
    let old = c.args.self.now in
    polls_so r c.args.boot.now c.args.max old c.follow.new.self c.in_ok-ask.ask c.deref.result.now c.follow.result c.follow.ensures
    (λ ws stands booted member.
    comes_so ws r boot c.args.max old c.in_ok-ask.ask c.deref.result.now stands booted.stands.lawful member (stored_is_mark (last_mark old.store.marks) old.client.mark member.stored) c.in_ok-ask.ensures
    (c.deref.ensures.value ∙ c.in_ok-answer.ensures.reply ws stands booted) (omega arith))
