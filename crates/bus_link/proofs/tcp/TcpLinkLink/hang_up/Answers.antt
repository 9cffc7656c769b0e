use Rattle.std.proofs.Common.{◌+◌, subst}
use Rattle.bus_link.specs.Handed.{sum_over}
use Rattle.bus_link.specs.Links.{TakesBack}
use Rattle.bus_link.specs.Tcp.{stream_faults}
use Rattle.bus_link.proofs.Sums.{takes_middle}
use Rattle.bus_link.proofs.tcp.TcpLinkLink.hang_up.Goals as goal

pub returns-clause-back : goal.returns-clause-back
returns-clause-back g c = subst (λ n. TakesBack n (c.self.inside.faults + sum_over stream_faults c.push.new.self + sum_over (λ m. m) c.self.inside.shut) (stream_faults c.args.peer))
    c.self.view_is (takes_middle stream_faults _ _ _ _ _ c.push.ensures)
