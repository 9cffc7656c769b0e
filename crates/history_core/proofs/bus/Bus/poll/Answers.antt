use Rattle.std.proofs.Common.{sym, subst}
use Rattle.history_core.specs.Bus.{Parts, IsSound}
use Rattle.history_core.proofs.Sound.{found_at, member_at, polled}
use Rattle.history_core.proofs.bus.Bus.poll.Goals as goal

pub returns : goal.returns
returns g c =
    let b : Parts = record { begun = c.self.inside.begun; source = c.self.inside.source.windows; relay = g.B.Buffer.relay c.self.inside.relay; boot = c.self.inside.boot; members = c.self.inside.members.items } in
    let h : IsSound b = subst IsSound (sym c.self.view_is) c.requires in
    let m = c.index_mut-member.result.now in
    let found = found_at b.members c.deref.result.now c.args.name.now c.bytes.result.now c.in-Some.i m c.deref.ensures.value c.bytes.ensures.value c.in-Some.ensures.place c.in-Some.ensures.within c.index_mut-member.ensures.value in
    let at = c.in_ok-poll.ensures.boot b.source h.relay.timeline h.boot in
    let polls = c.in_ok-poll.ensures.polls b.source h.relay h.boot (member_at b c.args.name.now c.in-Some.i m h found) in
    rw (← c.self.view_is) (polled b c.in-Some.i c.args.name.now c.args.max m c.poll.new.self c.poll.new.boot _ h found polls at)
