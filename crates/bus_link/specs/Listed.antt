-- Which calls of a link in memory are to fail.
use Rattle.std.specs.Prelude.{◌==◌, Bool, false, List}
use Rattle.std.specs.List.{list_any}
use Rattle.bus_link.specs.declared.fail.LinkFail.{LinkFail}
use Rattle.bus_link.specs.declared.fail.LinkFail.TheVariants.{Listen, Connect, Accept}

-- whether two are the same call
abbrev pub same_fail : LinkFail → LinkFail → Bool
same_fail (Listen a) (Listen b) = a == b
same_fail (Listen a) (Connect b) = false
same_fail (Listen a) (Accept b) = false
same_fail (Connect a) (Listen b) = false
same_fail (Connect a) (Connect b) = a == b
same_fail (Connect a) (Accept b) = false
same_fail (Accept a) (Listen b) = false
same_fail (Accept a) (Connect b) = false
same_fail (Accept a) (Accept b) = a == b

-- whether a call is to fail
abbrev pub is_listed : List LinkFail → LinkFail → Bool
is_listed fails call = list_any (λ fail. same_fail fail call) fails
