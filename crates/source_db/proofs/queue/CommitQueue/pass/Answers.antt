use Rattle.std.proofs.Common.{List, ◌++◌, drop, take, ap, sym, subst, ◌∙◌}
use Rattle.bus_types.specs.Window.{Span}
use Rattle.bus_types.specs.Timeline.{IsTimeline, end_from, end_of}
use Rattle.source_db.specs.Queue.{Commits, waiting}
use Rattle.source_db.proofs.Waiting.{waiting_is, passed_waiting, passed_end, none_left}
use Rattle.source_db.proofs.queue.CommitQueue.pass.Goals as goal

pub returns-in-Some-clause-waiting : goal.returns-in-Some-clause-waiting
returns-in-Some-clause-waiting c =
    let past : List Span = c.self.inside.past in
    let rest : List Span = c.pop_front.new.self.items in
    let w : Span = c.in-Some.window in
    let split = c.in-Some.ensures.items in
    let waits = ap waiting (sym c.self.view_is) ∙ waiting_is past c.self.inside.waiting.items c.self.invariant.timeline ∙ split in
    let timeline = subst (λ (l : List Span). IsTimeline (past ++ l)) split c.self.invariant.timeline in
    ap (λ (p : List Span). waiting (record { windows = p ++ rest; passed = end_of p })) c.push.ensures ∙ passed_waiting c.args.self.now past rest w timeline waits

pub returns-in-Some-clause-passed : goal.returns-in-Some-clause-passed
returns-in-Some-clause-passed c =
    let past : List Span = c.self.inside.past in
    let rest : List Span = c.pop_front.new.self.items in
    let w : Span = c.in-Some.window in
    let waits = ap waiting (sym c.self.view_is) ∙ waiting_is past c.self.inside.waiting.items c.self.invariant.timeline ∙ c.in-Some.ensures.items in
    ap (end_from 0) c.push.ensures ∙ passed_end c.args.self.now past rest w (sym (ap (λ (q : Commits). q.passed) c.self.view_is)) waits

pub returns-in_default-clause-waiting : goal.returns-in_default-clause-waiting
returns-in_default-clause-waiting c =
    let past : List Span = c.self.inside.past in
    let items : List Span = c.self.inside.waiting.items in
    let waits = ap waiting (sym c.self.view_is) ∙ waiting_is past items c.self.invariant.timeline in
    let timeline = subst (λ (l : List Span). IsTimeline (past ++ l)) c.in_default.ensures.items c.self.invariant.timeline in
    waiting_is past c.pop_front.new.self.items timeline ∙ c.in_default.ensures.rest ∙ ap (drop 1) (sym waits)

pub returns-in_default-clause-passed : goal.returns-in_default-clause-passed
returns-in_default-clause-passed c =
    let past : List Span = c.self.inside.past in
    let items : List Span = c.self.inside.waiting.items in
    let none = none_left items (c.in_default.ensures.items ∙ c.in_default.ensures.rest) in
    let waits = ap waiting (sym c.self.view_is) ∙ waiting_is past items c.self.invariant.timeline ∙ none in
    ap (λ (q : Commits). q.passed) c.self.view_is ∙ (λ i. end_from c.args.self.now.passed (take 1 (sym waits i)))
