use Rattle.bootstrap_node.proofs.Making.{rounds_stored}
use Rattle.bootstrap_node.proofs.RunEnds.{end_ends, made_back, stopped_back}
use Rattle.bootstrap_node.proofs.run.run_opened.Goals as goal

pub serve_and_print-requires-clause-stored : goal.serve_and_print-requires-clause-stored
serve_and_print-requires-clause-stored g c =
    let made = c.in-Ok.ensures.made in
    rounds_stored g.L.Peer.Source.given g.L.Peer.Source.left g.L.Peer.Sink.written made.0 _ _ made.2.are c.requires.stored

pub returns-in-Ok-clause-ends : goal.returns-in-Ok-clause-ends
returns-in-Ok-clause-ends g c =
    let made = c.in-Ok.ensures.made in
    end_ends g.L.Peer.Source.given g.L.Peer.Source.left g.L.Peer.Sink.written g.G.WindowLog.state g.K.Keeper.state _ c.args.words.now made.0 _ _ _ _ _ _ made.1 made.2 c.serve_and_print.ensures.ends

pub returns-in-Ok-clause-back : goal.returns-in-Ok-clause-back
returns-in-Ok-clause-back g c =
    let made = c.in-Ok.ensures.made in
    made_back g.L.Peer.Source.given g.L.Peer.Source.left g.L.Peer.Sink.written c.args.words.now made.0 _ _ _ _ _ made.2 c.serve_and_print.ensures.back

pub returns-in-Err-clause-back : goal.returns-in-Err-clause-back
returns-in-Err-clause-back g c =
    stopped_back g.L.Peer.Source.given g.L.Peer.Source.left g.L.Peer.Sink.written _ c.args.words.now _ _ _ _ c.in-Err.ensures.stopped
