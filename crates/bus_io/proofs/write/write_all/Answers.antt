use Rattle.std.proofs.Common.{◌-◌, ◌∙◌, arith, drop, length, length-take, length-drop}
use Rattle.bus_io.proofs.Known.{Appends-more, RoomLeft-more}
use Rattle.bus_io.proofs.write.write_all.Goals as goal

pub loop-done-preserved : goal.loop-done-preserved
loop-done-preserved g c =
    let bytes = c.args.bytes.now in
    let done = c.loop-done.done in
    let wrote = c.in-Ok.ensures in
    record {
      within = omega (arith, length-take (length bytes - done) (drop done bytes), length-drop done bytes, wrote.bound);
      written = Appends-more _ _ _ bytes done _ c.loop-done.invariant.written wrote.bytes;
      room = RoomLeft-more _ _ _ done _ c.loop-done.invariant.room wrote.room;
      later = omega (arith, wrote.cause.later);
      beside = wrote.beside ∙ c.loop-done.invariant.beside;
    }
