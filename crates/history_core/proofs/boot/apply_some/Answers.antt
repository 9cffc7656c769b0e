use Rattle.std.proofs.Common.{arith}
use Rattle.history_core.proofs.BootMoves.{applies_still}
use Rattle.history_core.proofs.boot.apply_some.Goals as goal

pub returns-then-high-applied-clause-applies : goal.returns-then-high-applied-clause-applies
returns-then-high-applied-clause-applies c ws t h = applies_still ws c.args.most c.args.boot.now (omega (arith, c.high.ensures.value, c.applied.ensures.value, c.if-high-applied.true)) h
