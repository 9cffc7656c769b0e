use Rattle.std.proofs.Common.{true, ap, subst, OnOk}
use Rattle.history_core.specs.Bus.{Parts, Calls}
use Rattle.history_core.proofs.Sound.{calls_same}
use Rattle.history_core.proofs.bus.Bus.begin.Goals as goal

pub returns-in-Ok-clause-calls : goal.returns-in-Ok-clause-calls
returns-in-Ok-clause-calls g c =
    let d : Parts = record { begun = true; source = c.self.inside.source.windows; relay = g.B.Buffer.relay c.self.inside.relay; boot = c.self.inside.boot; members = c.self.inside.members.items } in
    λ line first h. calls_same line first c.args.self.now d (ap (λ (p : Parts). p.members) c.self.view_is) (subst (λ done. OnOk done (Calls line first c.args.self.now)) c.in-Ok.is h)
