use Rattle.std.proofs.Common.{◌≡◌, ap, sym, subst, ◌∙◌, take}
use Rattle.bus_types.specs.Timeline.{end_of, windows_between}
use Rattle.source_db.specs.Queue.{Commits, waiting}
use Rattle.trace_script.specs.Printed.{relay_line}
use Rattle.history_core.specs.Bus.{Parts, state_of, IsSound}
use Rattle.history_core.proofs.Sound.{fed_on, fed_state, works_feed}
use Rattle.history_core.proofs.Feeding.{next_front, next_follow}
use Rattle.history_core.proofs.bus.Bus.feed.Goals as goal

pub publish-requires-clause-follow : goal.publish-requires-clause-follow
publish-requires-clause-follow g c =
    let q : Commits = c.self.inside.source in
    let b : Parts = record { begun = c.self.inside.begun; source = q.windows; relay = g.B.Buffer.relay c.self.inside.relay; boot = c.self.inside.boot; members = c.self.inside.members.items } in
    let h : IsSound b = subst IsSound (sym c.self.view_is) c.requires in
    let windows : take c.args.count (waiting q) ≡ take c.args.count (windows_between b.relay.tail (end_of b.source) b.source) = λ i. take c.args.count (windows_between (c.self.invariant.2 i) (end_of b.source) b.source) in
    next_follow b.source b.relay c.args.count (take c.args.count (waiting q)) h.relay windows

pub returns : goal.returns
returns g c =
    let q : Commits = c.self.inside.source in
    let b : Parts = record { begun = c.self.inside.begun; source = q.windows; relay = g.B.Buffer.relay c.self.inside.relay; boot = c.self.inside.boot; members = c.self.inside.members.items } in
    let h : IsSound b = subst IsSound (sym c.self.view_is) c.requires in
    let r = g.B.Buffer.relay c.publish.new.relay in
    let run = take c.args.count (waiting q) in
    let windows : run ≡ take c.args.count (windows_between b.relay.tail (end_of b.source) b.source) = λ i. take c.args.count (windows_between (c.self.invariant.2 i) (end_of b.source) b.source) in
    let front = next_front b.source b.relay.tail c.args.count run windows in
    let p = c.in_ok-publish.ensures.publishes in
    let stands = p.stands b.source h.relay front in
    let text = ap (λ v. v.items) c.into_bytes.ensures.value ∙ c.in_ok-relay_line.ensures ∙ (λ i. relay_line ((c.floor.ensures.value ∙ stands.floor) i) (c.tail.ensures.value i)) in
    rw (← c.self.view_is, c.in_ok-publish.ensures.commits) (
      fed_on (state_of b) (state_of (record b { relay = r })) c.args.count c.into_bytes.result.items (fed_state b r c.args.count run windows p) text,
      works_feed b r run h front p,
    )
