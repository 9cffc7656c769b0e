use Rattle.plain_buffer.specs.Send.{told}
use Rattle.byte_ring.proofs.Moving.{moves_joined, moves_sent}
use Rattle.byte_ring.proofs.send.pass.Goals as goal

pub returns-then-pending-at-clause-moves : goal.returns-then-pending-at-clause-moves
returns-then-pending-at-clause-moves g c = moves_joined c.args.bytes.now (told (g.W.Sink.written c.args.out.now) (g.W.Sink.room c.args.out.now)) c.args.pending c.args.at c.args.size c.requires.awaiting c.if-pending-at.true c.requires.within

pub returns-clause-moves : goal.returns-clause-moves
returns-clause-moves g c = moves_sent c.args.bytes.now (told (g.W.Sink.written c.args.out.now) (g.W.Sink.room c.args.out.now)) (told (g.W.Sink.written c.send_pending.new.out) (g.W.Sink.room c.send_pending.new.out)) c.args.pending c.in_ok-done.done c.args.at c.args.size c.requires.awaiting c.requires.within c.in_ok-done.ensures.sends
