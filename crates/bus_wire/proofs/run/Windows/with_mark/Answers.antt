use Rattle.std.proofs.Common.{arith, sym, ◌∙◌}
use Rattle.bus_wire.proofs.Runs.{mark_read}
use Rattle.bus_wire.proofs.run.Windows.with_mark.Goals as goal

pub returns-clause-goes : goal.returns-clause-goes
returns-clause-goes c _ =
    let reached = mark_read c.args.self.now c.args.run.now c.requires.reached c.requires.room c.args.scn c.args.prev c.requires.found (sym c.takes_mark.ensures ∙ c.if-not-takes_mark.false) in
    (record { bytes = c.requires.reached.bytes; fits = c.requires.reached.fits; reached = reached }, omega arith)
