use Rattle.std.proofs.Common.{◌≤◌, sym, subst, arith}
use Rattle.bus_types.specs.Timeline.{end_of}
use Rattle.history_core.specs.Steps.{last_generated}
use Rattle.history_core.specs.Bus.{Parts, state_of, IsSound}
use Rattle.history_core.proofs.Generating.{made, works_made}
use Rattle.history_core.proofs.bus.Bus.generate.Goals as goal

pub returns : goal.returns
returns g c =
    let b : Parts = record { begun = c.self.inside.begun; source = c.self.inside.source.windows; relay = g.B.Buffer.relay c.self.inside.relay; boot = c.self.inside.boot; members = c.self.inside.members.items } in
    let h : IsSound b = subst IsSound (sym c.self.view_is) c.requires.sound in
    let after = c.commit_generated.new.source.windows in
    let grown = c.in_ok-commit_generated.ensures.commits in
    let low : end_of b.source ≤ last_generated = omega arith in
    rw (← c.self.view_is) (
      made (state_of b) c.args.seed c.args.count after c.new.result.items low (omega arith) grown c.new.ensures.items,
      works_made b c.args.count c.args.seed after h low c.requires.few (omega arith) grown,
    )
