use Rattle.bus_wire.proofs.Booting.{boots_lawfully}
use Rattle.bus_wire.proofs.laws.a_bootstrap_answers_lawfully.Goals as goal

pub returns : goal.returns
returns c = boots_lawfully
