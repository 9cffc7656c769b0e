use Rattle.std.proofs.Common.{◌≡◌, ◌++◌, rules, tests}
use Rattle.bus_types.specs.Relay.{answer_of}
use Rattle.event_codec.specs.Reply.{reply_bytes}
use Rattle.partition_filter.specs.Selection.{test_of}
use Rattle.relay_core.proofs.ReplyRule.{reply_by_rule}
use Rattle.relay_core.proofs.answer.relay_answer.Goals as goal

pub returns-clause-rule_bytes : goal.returns-clause-rule_bytes
returns-clause-rule_bytes g c =
    let relay = g.B.Buffer.relay c.args.buffer.now in
    let test = test_of c.args.filter.now in
    let appended : c.append_answer.new.reply.items ≡ c.args.reply.now.items ++ reply_bytes (answer_of relay c.args.scn test c.args.max) = search (rules, tests) in
    reply_by_rule relay c.args.scn test c.args.max c.args.reply.now.items c.append_answer.new.reply.items appended
