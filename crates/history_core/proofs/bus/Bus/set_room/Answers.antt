use Rattle.std.proofs.Common.{sym, subst}
use Rattle.history_core.specs.Bus.{Parts, state_of, IsSound}
use Rattle.history_core.proofs.Sound.{roomed, roomed_state, works_room}
use Rattle.history_core.proofs.bus.Bus.set_room.Goals as goal

pub returns : goal.returns
returns g c =
    let b : Parts = record { begun = c.self.inside.begun; source = c.self.inside.source.windows; relay = g.B.Buffer.relay c.self.inside.relay; boot = c.self.inside.boot; members = c.self.inside.members.items } in
    let h : IsSound b = subst IsSound (sym c.self.view_is) c.requires.sound in
    let r = g.B.Buffer.relay c.in_ok-self-inside.field-0 in
    let fresh = c.if-self.false in
    let made = c.in_ok-self-inside.ensures in
    rw (← c.self.view_is) (
      roomed (state_of b) (state_of (record b { relay = r })) c.args.bytes c.args.windows c.new-2.result.items fresh (roomed_state b r c.args.bytes c.args.windows h fresh made) c.new-2.ensures.items,
      works_room b r c.args.bytes c.args.windows h fresh made,
    )
