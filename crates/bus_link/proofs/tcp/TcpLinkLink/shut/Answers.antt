use Rattle.std.proofs.Common.{◌+◌, subst}
use Rattle.bus_link.specs.Handed.{sum_over}
use Rattle.bus_link.specs.Links.{TakesBack}
use Rattle.bus_link.specs.Tcp.{stream_faults}
use Rattle.bus_link.proofs.Sums.{takes_last}
use Rattle.bus_link.proofs.tcp.TcpLinkLink.shut.Goals as goal

pub returns-clause-back : goal.returns-clause-back
returns-clause-back g c = subst (λ n. TakesBack n (c.self.inside.faults + sum_over stream_faults c.self.inside.hung_up + sum_over (λ m. m) c.push.new.self) c.args.door)
    c.self.view_is (takes_last (λ n. n) _ _ _ _ c.push.ensures)
