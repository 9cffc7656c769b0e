use Rattle.bus_http.specs.declared.route.Side.TheVariants.{Boot}
use Rattle.bootstrap_server.specs.Locked.{KeepsLocked}
use Rattle.bootstrap_node.specs.Serving.{MayStill}
use Rattle.bootstrap_node.proofs.Talking.{served_by}
use Rattle.std.proofs.Common.{false}
use Rattle.bootstrap_node.proofs.serving.ServerServes.serve.Goals as goal

pub returns : goal.returns
returns g c =
    served_by Boot _ (MayStill g.G.WindowLog.state g.K.Keeper.state g.S.Start.start) KeepsLocked false (λ s t ask body may. may.1) tt tt _ _ _ _ _ _ _ c.serve_bootstrap.ensures.served
