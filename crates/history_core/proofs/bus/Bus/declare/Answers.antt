use Rattle.std.proofs.Common.{ap, sym, subst, ◌∙◌, arith, is_some}
use Rattle.history_core.specs.Steps.{place_of, new_follower}
use Rattle.history_core.specs.Bus.{Parts, followers, IsSound}
use Rattle.history_core.proofs.Sound.{declared, works_member}
use Rattle.history_core.proofs.bus.Bus.declare.Goals as goal

pub returns : goal.returns
returns g c =
    let b : Parts = record { begun = c.self.inside.begun; source = c.self.inside.source.windows; relay = g.B.Buffer.relay c.self.inside.relay; boot = c.self.inside.boot; members = c.self.inside.members.items } in
    let h : IsSound b = subst IsSound (sym c.self.view_is) c.requires in
    let m = c.in_ok-new.field-0 in
    let new = c.in_ok-new.ensures b.source in
    let found = c.place.ensures.place ∙ (λ i. place_of (c.bytes.ensures.value i) (followers (c.deref.ensures.value i))) in
    let absent = sym (c.if-is_some.ensures ∙ ap is_some found) in
    let few = c.self.inside.members.ok.0 in
    let follows = new.follows ∙ (λ i. new_follower c.args.name (c.in_ok-filter.ensures i)) in
    let pushed = c.in_ok-push.ensures.items in
    rw (← c.self.view_is) (
      declared b c.args.name c.args.filter.now m c.push.new.self.items c.new-2.result.items absent (omega arith) follows pushed c.new-2.ensures.items,
      works_member b m c.push.new.self.items h pushed new.member,
    )
