use Rattle.std.proofs.Common.{arith}
use Rattle.log_segment.proofs.Lookups.{entry_found, entry_out}
use Rattle.log_segment.proofs.fetch.entry_after.Goals as goal

pub returns-then-at-index : goal.returns-then-at-index
returns-then-at-index c = entry_found c.args.floor c.args.scn c.args.index.now c.place_after-at.result c.scn_before.result (record { scn = 0; place = 0 }) c.place_after-at.ensures (omega (arith, c.if-at-index.true)) c.scn_before.ensures

pub returns-else-at-index : goal.returns-else-at-index
returns-else-at-index c = entry_out c.args.floor c.args.scn c.args.index.now c.place_after-at.result c.place_after-at.ensures (omega (arith, c.if-at-index.false))
