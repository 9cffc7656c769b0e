use Rattle.bus_wire.proofs.Replies.{relay_is_lawful}
use Rattle.bus_wire.proofs.laws.a_relay_answers_lawfully.Goals as goal

pub returns : goal.returns
returns c = relay_is_lawful
