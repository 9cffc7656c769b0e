use Rattle.std.proofs.Common.{subst}
use Rattle.plain_buffer.specs.Send.{told, Sends}
use Rattle.plain_buffer.proofs.Sending.{sends_then}
use Rattle.byte_ring.proofs.send.send_pending.Goals as goal

pub returns-clause-sends : goal.returns-clause-sends
returns-clause-sends g c =
    subst (Sends (told (g.W.Sink.written c.args.out.now) (g.W.Sink.room c.args.out.now)) (told (g.W.Sink.written c.send_bytes-2.new.out) (g.W.Sink.room c.send_bytes-2.new.out)) c.args.pending.done c.send_bytes-2.result) c.part.ensures
    (sends_then _ _ _ c.args.pending.done c.in_ok-done.done c.send_bytes-2.result c.part.result.0.now c.part.result.1.now c.in_ok-done.ensures.sends c.send_bytes-2.ensures.sends)
