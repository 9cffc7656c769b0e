use Rattle.std.proofs.Common.{rules, tests}
use Rattle.std.specs.Prelude.{IfOk}
use Rattle.bus_types.specs.Relay.{answer_of}
use Rattle.event_codec.specs.Reply.{IsServed}
use Rattle.plain_buffer.proofs.RelayRule.{rule_if}
use Rattle.byte_ring.proofs.ring.ByteRing.serve.Goals as goal

pub returns-clause-rule : goal.returns-clause-rule
returns-clause-rule g c =
    let test = g.F.Accepts.test c.args.filter.now in
    let told : IfOk c.serve_from.result (λ served. IsServed served (answer_of c.args.self.now c.args.scn test c.args.max)) = search (rules, tests) in
    rule_if c.args.self.now c.args.scn test c.args.max c.serve_from.result told
