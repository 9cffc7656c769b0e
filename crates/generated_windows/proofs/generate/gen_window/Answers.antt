use Rattle.std.proofs.Common.{◌∙◌}
use Rattle.generated_windows.proofs.Generating.{window_made, state_made, made_faultless, made_facts}
use Rattle.generated_windows.proofs.generate.gen_window.Goals as goal

pub unreachable-requires : goal.unreachable-requires
unreachable-requires c =
    let a = c.draw.ensures in
    let b = c.draw-2.ensures in
    let made = window_made c.args.state.now c.args.last c.draw.new.state c.draw-2.new.state c.draw.result c.draw-2.result c.from.result c.in_ok-changes.changes.items a.state a.value b.state b.value c.from.ensures c.in_ok-changes.ensures.changes in
    made_faultless c.args.state.now c.args.last _ c.in_default.field-0.0 c.requires made c.in_default.ensures.fault

pub returns-clause-window : goal.returns-clause-window
returns-clause-window c =
    let a = c.draw.ensures in
    let b = c.draw-2.ensures in
    c.in-Ok.ensures.ok ∙ window_made c.args.state.now c.args.last c.draw.new.state c.draw-2.new.state c.draw.result c.draw-2.result c.from.result c.in_ok-changes.changes.items a.state a.value b.state b.value c.from.ensures c.in_ok-changes.ensures.changes

pub returns-clause-state : goal.returns-clause-state
returns-clause-state c =
    let a = c.draw.ensures in
    let b = c.draw-2.ensures in
    state_made c.args.state.now c.draw.new.state c.draw-2.new.state c.draw.result c.draw-2.result c.changes.new.state a.state a.value b.state b.value c.in_ok-changes.ensures.state

pub returns-clause-chained : goal.returns-clause-chained
returns-clause-chained c = (made_facts c.args.state.now c.args.last _ (returns-clause-window c)).chained

pub returns-clause-full : goal.returns-clause-full
returns-clause-full c = (made_facts c.args.state.now c.args.last _ (returns-clause-window c)).full

pub returns-clause-near : goal.returns-clause-near
returns-clause-near c = (made_facts c.args.state.now c.args.last _ (returns-clause-window c)).near
