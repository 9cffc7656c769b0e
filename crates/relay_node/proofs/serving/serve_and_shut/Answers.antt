use Rattle.std.proofs.Common.{arith}
use Rattle.relay_node.proofs.Doorways.{serves_door}
use Rattle.relay_node.proofs.serving.serve_and_shut.Goals as goal

pub returns-clause-serves : goal.returns-clause-serves
returns-clause-serves g c =
    let served = c.serve_door-end.ensures.served in
    serves_door _ _ _ g.T.Timeline.told c.args.connections c.args.relaying.now _ c.serve_door-end.result _ _ _ _ served.0 c.requires.finished_none served.1 served.2 served.3 served.4 served.5 c.shut.ensures.told

pub returns-clause-cause : goal.returns-clause-cause
returns-clause-cause g c = λ h. c.shut.ensures.back.exact.1 (omega (arith, c.serve_door-end.ensures.cause h, c.requires.faultless))
