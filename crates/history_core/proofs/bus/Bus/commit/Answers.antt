use Rattle.std.proofs.Common.{ap, sym, subst, ◌∙◌, arith}
use Rattle.bus_types.specs.Window.{Span}
use Rattle.source_db.specs.Queue.{Commits}
use Rattle.history_core.specs.Bus.{Parts, state_of, IsSound}
use Rattle.history_core.proofs.Sound.{committed, works_commit, window_follows}
use Rattle.history_core.proofs.bus.Bus.commit.Goals as goal

pub returns : goal.returns
returns g c =
    let b : Parts = record { begun = c.self.inside.begun; source = c.self.inside.source.windows; relay = g.B.Buffer.relay c.self.inside.relay; boot = c.self.inside.boot; members = c.self.inside.members.items } in
    let h : IsSound b = subst IsSound (sym c.self.view_is) c.requires in
    let w = c.in-Ok.window in
    let made = c.in-Ok.ensures in
    let after = c.append.new.self.windows in
    let appended = ap (λ (q : Commits). q.windows) c.in_ok-append.ensures.ok in
    let copied = c.into_vec.ensures in
    let follows = window_follows _ w (ap (λ (v : Span). v.prev) made.ok ∙ c.last.ensures.value) made.none c.size-within.ensures.fits in
    rw (← c.self.view_is) (
      committed (state_of b) c.args.scn c.last.result c.args.changes w after c.new-2.result.items c.last.ensures.value (made.ok ∙ (λ i. record { scn = c.args.scn; prev = c.last.result; changes = copied i })) made.none (omega arith) appended c.new-2.ensures.items,
      works_commit b w after h (omega arith) follows appended,
    )
