use Rattle.std.proofs.Common.{sym, ◌∙◌}
use Rattle.bus_wire.proofs.Runs.{whole, stopped}
use Rattle.bus_wire.proofs.run.Windows.end.Goals as goal

pub returns-then-is_whole : goal.returns-then-is_whole
returns-then-is_whole c = whole c.args.self.now c.args.run c.requires.reached (sym c.is_whole.ensures ∙ c.if-is_whole.true)

pub returns : goal.returns
returns c = stopped c.args.self.now c.args.run c.requires.reached (sym c.is_whole.ensures ∙ c.if-is_whole.false) c.requires.halts
