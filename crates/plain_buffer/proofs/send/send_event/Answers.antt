use Rattle.std.proofs.Common.{◌++◌, sym, ap, ◌∙◌, subst}
use Rattle.event_codec.specs.Bytes.{payload_bytes}
use Rattle.plain_buffer.specs.Send.{told, Sends}
use Rattle.plain_buffer.proofs.Sending.{sends_then}
use Rattle.plain_buffer.proofs.send.send_event.Goals as goal

pub returns-in-Some-clause-sends : goal.returns-in-Some-clause-sends
returns-in-Some-clause-sends g c =
    let head = c.event_head.result in
    let whole = c.event_head.ensures ∙ ap (λ p. head ++ payload_bytes p) c.in-Some.is ∙ ap (λ p. head ++ p) (sym c.bytes.ensures.value) in
    subst (Sends (told (g.W.Sink.written c.args.out.now) (g.W.Sink.room c.args.out.now)) (told (g.W.Sink.written c.send_bytes-in-Some.new.out) (g.W.Sink.room c.send_bytes-in-Some.new.out)) c.args.done c.send_bytes-in-Some.result) (sym whole)
    (sends_then _ _ _ c.args.done c.in_ok-done.done c.send_bytes-in-Some.result head c.bytes.result.now c.in_ok-done.ensures.sends c.send_bytes-in-Some.ensures.sends)
