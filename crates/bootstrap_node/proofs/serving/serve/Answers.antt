use Rattle.bootstrap_core.specs.Boot.{told}
use Rattle.bootstrap_node.proofs.DoorEnds.{serves_all}
use Rattle.bootstrap_node.proofs.serving.serve.Goals as goal

pub returns : goal.returns
returns g c =
    let state = told g.G.WindowLog.state g.K.Keeper.state in
    let done = c.serve_at-boot in
    record {
      serves = serves_all g.L.Peer.Source.given g.L.Peer.Source.left g.L.Peer.Sink.written g.G.WindowLog.state g.K.Keeper.state c.served.result done.result.0
          c.args.words.now.port c.args.words.now.connections (state c.args.boot) (state done.result.1) _ _ _ _ _ _ _ _ _ _
          c.served.ensures done.ensures.served c.in-Ok.ensures.fresh c.in-Ok.ensures.told c.shut.ensures.told c.in-Ok.ensures.later c.shut.ensures.back done.ensures.cause done.ensures.same;
    }
