use Rattle.std.proofs.Common.{sym, subst}
use Rattle.history_core.specs.Bus.{Parts, IsSound}
use Rattle.history_core.proofs.Sound.{found_at, member_at, crashed}
use Rattle.history_core.proofs.bus.Bus.crash.Goals as goal

pub returns : goal.returns
returns g c =
    let b : Parts = record { begun = c.self.inside.begun; source = c.self.inside.source.windows; relay = g.B.Buffer.relay c.self.inside.relay; boot = c.self.inside.boot; members = c.self.inside.members.items } in
    let h : IsSound b = subst IsSound (sym c.self.view_is) c.requires in
    let m = c.index_mut-member.result.now in
    let found = found_at b.members c.deref.result.now c.args.name.now c.bytes.result.now c.in-Some.i m c.deref.ensures.value c.bytes.ensures.value c.in-Some.ensures.place c.in-Some.ensures.within c.index_mut-member.ensures.value in
    rw (← c.self.view_is) (crashed b c.in-Some.i c.args.name.now m c.crash.new.self c.new.result.items h found c.new.ensures.items (c.in_ok-crash.ensures b.source (member_at b c.args.name.now c.in-Some.i m h found)))
