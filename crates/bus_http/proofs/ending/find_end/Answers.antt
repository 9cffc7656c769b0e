use Rattle.std.proofs.Common.{◌∙◌, sym}
use Rattle.bus_http.proofs.Endings.{moves_on}
use Rattle.bus_http.proofs.ending.find_end.Goals as goal

pub loop-i-preserved : goal.loop-i-preserved
loop-i-preserved c rest = rw c.after.ensures (c.loop-i.invariant rest ∙ moves_on c.args.place c.loop-i.i c.loop-i.seen c.args.bytes.now c.loop-i-test.true (sym c.if-ends_with.ensures) rest)
