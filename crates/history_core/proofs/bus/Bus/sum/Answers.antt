use Rattle.std.proofs.Common.{sym, subst}
use Rattle.history_core.specs.Bus.{Parts, IsSound}
use Rattle.history_core.proofs.Sound.{found_at, member_at, summed_at, called_at}
use Rattle.history_core.proofs.bus.Bus.sum.Goals as goal

pub returns-clause-acts : goal.returns-clause-acts
returns-clause-acts g c =
    let b : Parts = record { begun = c.self.inside.begun; source = c.self.inside.source.windows; relay = g.B.Buffer.relay c.self.inside.relay; boot = c.self.inside.boot; members = c.self.inside.members.items } in
    let h : IsSound b = subst IsSound (sym c.self.view_is) c.requires in
    let m = c.index_mut-member.result.now in
    let found = found_at b.members c.deref.result.now c.args.name.now c.bytes.result.now c.in-Some.i m c.deref.ensures.value c.bytes.ensures.value c.in-Some.ensures.place c.in-Some.ensures.within c.index_mut-member.ensures.value in
    rw (← c.self.view_is) (summed_at b c.in-Some.i c.args.name.now m c.sum.new.self c.in_ok-sum.field-0.items h found (c.in_ok-sum.ensures b.source (member_at b c.args.name.now c.in-Some.i m h found)))

pub returns-clause-calls : goal.returns-clause-calls
returns-clause-calls g c =
    let b : Parts = record { begun = c.self.inside.begun; source = c.self.inside.source.windows; relay = g.B.Buffer.relay c.self.inside.relay; boot = c.self.inside.boot; members = c.self.inside.members.items } in
    let h : IsSound b = subst IsSound (sym c.self.view_is) c.requires in
    let m = c.index_mut-member.result.now in
    let found = found_at b.members c.deref.result.now c.args.name.now c.bytes.result.now c.in-Some.i m c.deref.ensures.value c.bytes.ensures.value c.in-Some.ensures.place c.in-Some.ensures.within c.index_mut-member.ensures.value in
    let sums = c.in_ok-sum.ensures b.source (member_at b c.args.name.now c.in-Some.i m h found) in
    rw (← c.self.view_is) (called_at b.members c.args.name.now c.in-Some.i m c.sum.new.self found sums.called)
