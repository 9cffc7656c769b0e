use Rattle.std.proofs.Common.{arith, sym, ◌∙◌}
use Rattle.bus_wire.proofs.Runs.{event_read}
use Rattle.bus_wire.proofs.run.Windows.with_event.Goals as goal

pub overflow_add-run-2 : goal.overflow_add-run-2
overflow_add-run-2 c =
    let read = event_read c.args.self.now c.args.run.now c.requires.reached c.requires.room c.args.scn c.args.source c.args.key c.args.size c.requires.found (sym c.takes_event.ensures ∙ c.if-not-takes_event.false) in
    omega (arith, read.small)

pub overflow_add-run-3 : goal.overflow_add-run-3
overflow_add-run-3 c =
    let read = event_read c.args.self.now c.args.run.now c.requires.reached c.requires.room c.args.scn c.args.source c.args.key c.args.size c.requires.found (sym c.takes_event.ensures ∙ c.if-not-takes_event.false) in
    omega (arith, read.long, c.requires.reached.fits)

pub returns-clause-goes : goal.returns-clause-goes
returns-clause-goes c _ =
    let read = event_read c.args.self.now c.args.run.now c.requires.reached c.requires.room c.args.scn c.args.source c.args.key c.args.size c.requires.found (sym c.takes_event.ensures ∙ c.if-not-takes_event.false) in
    (record { bytes = c.requires.reached.bytes; fits = c.requires.reached.fits; reached = read.reached }, omega (arith, read.positive))
