use Rattle.history_core.specs.Bus.{boot_numbers, IsBooted}
use Rattle.history_core.proofs.Replying.{streamed_so}
use Rattle.history_core.proofs.poll.answer.Goals as goal

pub returns-in-Stream-clause-reply : goal.returns-in-Stream-clause-reply
returns-in-Stream-clause-reply g c =
    streamed_so (g.B.Buffer.relay c.args.relay.now) (boot_numbers c.args.boot.now) c.args.ask.now c.in-Stream.scn c.in-Stream.filter c.in-Stream.max c.streamed.result c.streamed.new.reply.items c.in-Stream.is c.streamed.ensures (λ ws. IsBooted ws c.args.boot.now)
