use Rattle.std.proofs.Common.{◌≡◌, length, rules, sym, ap, subst, ◌∙◌}
use Rattle.std.specs.Prelude.{IfOk}
use Rattle.trace_script.specs.declared.printing.Stage.{Stage}
use Rattle.trace_script.specs.Printed.{reply_line}
use Rattle.consumer_lines.specs.Shown.{stage_of}
use Rattle.history_core.specs.Bus.{MemberState}
use Rattle.history_core.specs.Polling.{Comes}
use Rattle.history_core.proofs.Polling.{no_fault, stopped_stored, took_done, stopped_done}
use Rattle.history_core.proofs.member.Member.follow.Goals as goal

pub stopped-requires-clause-stored : goal.stopped-requires-clause-stored
stopped-requires-clause-stored c =
    let old : MemberState = record { name = c.self.inside.name; client = c.self.inside.client; store = c.self.inside.keeper; shows = c.self.inside.shows } in
    let comes = subst (λ (o : MemberState). Comes c.requires.0 c.requires.1 c.requires.2 c.requires.3 o c.args.ask.now c.args.reply.now) (sym c.self.view_is) c.requires.4 in
    stopped_stored c.requires.0 c.requires.1 c.requires.2 c.requires.3 old c.args.ask.now c.args.reply.now comes c.take.new.self c.take.new.keeper
    (record { counts = c.take.ensures.counts; keeps = c.take.ensures.keeps; good = c.take.ensures.good })
    (rw c.in-Err-StoreFault.field-0-is at c.in-Err-StoreFault.ensures.takes)

pub unreachable-requires : goal.unreachable-requires
unreachable-requires c =
    let old : MemberState = record { name = c.self.inside.name; client = c.self.inside.client; store = c.self.inside.keeper; shows = c.self.inside.shows } in
    let comes = subst (λ (o : MemberState). Comes c.requires.0 c.requires.1 c.requires.2 c.requires.3 o c.args.ask.now c.args.reply.now) (sym c.self.view_is) c.requires.4 in
    let may = no_fault c.requires.0 c.requires.1 c.requires.2 c.requires.3 old c.args.ask.now c.args.reply.now c.take.new.self c.take.new.keeper c.take.result c.in-Err-Halted.field-0 comes c.in-Err-Halted.is c.take.ensures.halted c.take.ensures.takes c.take.ensures.refusals in
    search rules

pub returns-in-Ok : goal.returns-in-Ok
returns-in-Ok c =
    rw (← c.self.view_is) (
    let old : MemberState = record { name = c.self.inside.name; client = c.self.inside.client; store = c.self.inside.keeper; shows = c.self.inside.shows } in
    took_done old c.args.ask.now c.args.reply.now c.take.new.self c.take.new.keeper c.in-Ok.took c.reply.result
    (record { counts = c.take.ensures.counts; keeps = c.take.ensures.keeps; good = c.take.ensures.good })
    c.in-Ok.ensures.takes (subst (λ (s : Stage). IfOk c.reply.result (λ text. text.items ≡ reply_line s c.in-Ok.took.shape (length c.args.reply.now))) (c.stage_of-stage.ensures ∙ ap stage_of c.mark.ensures.value) c.reply.ensures))

pub returns-in-Err-StoreFault : goal.returns-in-Err-StoreFault
returns-in-Err-StoreFault c =
    rw (← c.self.view_is) (
    let old : MemberState = record { name = c.self.inside.name; client = c.self.inside.client; store = c.self.inside.keeper; shows = c.self.inside.shows } in
    stopped_done old c.args.ask.now c.args.reply.now c.take.new.self c.take.new.keeper c.stopped.new.self c.armed-armed.result c.stopped.result
    (record { counts = c.take.ensures.counts; keeps = c.take.ensures.keeps; good = c.take.ensures.good })
    (rw c.in-Err-StoreFault.field-0-is at c.in-Err-StoreFault.ensures.takes) c.armed-armed.ensures c.stopped.ensures.opened c.stopped.ensures.text)
