use Rattle.std.proofs.Common.{arith}
use Rattle.trace_script.proofs.HexText.{all_bytes}
use Rattle.trace_script.proofs.writing.count.Goals as goal

pub returns-clause-bytes : goal.returns-clause-bytes
returns-clause-bytes c = all_bytes c.args.bytes.now (λ i. omega (arith, c.type_inv.bytes i))
