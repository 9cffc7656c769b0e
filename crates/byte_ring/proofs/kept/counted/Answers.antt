use Rattle.std.proofs.Common.{arith}
use Rattle.byte_ring.proofs.kept.counted.Goals as goal

pub returns : goal.returns
returns c = λ n few e. omega (arith, few, e)
