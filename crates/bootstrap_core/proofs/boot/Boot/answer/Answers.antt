use Rattle.bus_types.specs.View.{everything}
use Rattle.bootstrap_core.proofs.boot.Boot.answer.Goals as goal

pub returns-in-Start-clause-reply : goal.returns-in-Start-clause-reply
returns-in-Start-clause-reply g c ws t stands tells = rw c.in-Start.is (c.put_start.ensures.reply ws everything)

pub returns-in-Target-clause-reply : goal.returns-in-Target-clause-reply
returns-in-Target-clause-reply g c ws t stands tells = rw c.in-Target.is (c.put_target.ensures.reply ws everything)
