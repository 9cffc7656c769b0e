use Rattle.std.proofs.Common.{ap, sym, subst, ◌∙◌}
use Rattle.bus_types.specs.Relay.{answer_of}
use Rattle.partition_filter.specs.Selection.{test_of}
use Rattle.history_core.specs.Bus.{Parts, IsSound}
use Rattle.history_core.proofs.Sound.{streamed}
use Rattle.history_core.proofs.bus.Bus.stream.Goals as goal

pub returns : goal.returns
returns g c =
    let b : Parts = record { begun = c.self.inside.begun; source = c.self.inside.source.windows; relay = g.B.Buffer.relay c.self.inside.relay; boot = c.self.inside.boot; members = c.self.inside.members.items } in
    let h : IsSound b = subst IsSound (sym c.self.view_is) c.requires in
    let test = test_of c.args.filter.now in
    let text = ap (λ v. v.items) c.into_bytes.ensures.value ∙ c.in_ok-stream.ensures (answer_of b.relay c.args.scn test c.args.max) c.in_ok-served.ensures.served in
    rw (← c.self.view_is) (streamed b c.args.scn test c.args.max c.into_bytes.result.items h.relay text, record { few = h.few; relay = h.relay; boot = h.boot; members = h.members })
