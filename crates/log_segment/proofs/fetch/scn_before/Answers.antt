use Rattle.std.proofs.Common.{arith}
use Rattle.log_segment.proofs.Lookups.{before_at, before_none}
use Rattle.log_segment.proofs.fetch.scn_before.Goals as goal

pub returns-then-at-eq0 : goal.returns-then-at-eq0
returns-then-at-eq0 c = before_none c.args.floor c.args.index.now c.args.at c.if-at-eq0.true

pub returns-else-at-eq0 : goal.returns-else-at-eq0
returns-else-at-eq0 c = before_at c.args.floor c.args.index.now c.args.at _ (omega (arith, c.if-at-eq0.false)) c.requires
