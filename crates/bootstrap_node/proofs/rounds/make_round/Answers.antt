use Rattle.bootstrap_node.proofs.Making.{later_both, round_made, taken_breaks}
use Rattle.bootstrap_node.proofs.rounds.make_round.Goals as goal

pub returns-in-Ok-take_reply-clause-made : goal.returns-in-Ok-take_reply-clause-made
returns-in-Ok-take_reply-clause-made g c =
    round_made g.L.Peer.Source.given g.L.Peer.Source.left g.L.Peer.Sink.written _ _ _ _ _ c.ask_relay.new.body.items c.deref.result.now _ _ _ _
    c.in-Ok.ensures.answered c.in-Ok.ensures.small c.deref.ensures.value c.in-Ok-take_reply.ensures.took (later_both _ _ _ _ c.in-Ok.ensures.later c.in-Ok-take_reply.ensures.later)

pub returns-in-Err-take_reply-clause-breaks : goal.returns-in-Err-take_reply-clause-breaks
returns-in-Err-take_reply-clause-breaks g c =
    taken_breaks g.L.Peer.Source.given g.L.Peer.Source.left g.L.Peer.Sink.written c.in-Err-take_reply.stop _ c.ask_relay.new.body.items c.deref.result.now _ _ _ _
    c.in-Ok.ensures.answered c.deref.ensures.value c.in-Err-take_reply.ensures.stop (later_both _ _ _ _ c.in-Ok.ensures.later c.in-Err-take_reply.ensures.later)
