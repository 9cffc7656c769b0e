use Rattle.std.proofs.Common.{◌&&◌, nat_le, sym, ap, ◌∙◌, arith}
use Rattle.std.proofs.lemmas.Bool.{le-leb}
use Rattle.plain_buffer.proofs.Evicting.{room_is}
use Rattle.plain_buffer.proofs.kept.Kept.has_room.Goals as goal

pub returns-then-len-windows : goal.returns-then-len-windows
returns-then-len-windows c =
    let now = c.args.self.now in
    let few = le-leb c.len.result c.args.windows (omega arith) in
    sym (ap (λ b. b && nat_le now.size c.args.bytes) few)
    ∙ room_is (record { bytes = c.args.bytes; windows = c.args.windows }) now.windows.items c.len.result now.size (c.len.ensures ∙ now.windows.ok.0) c.requires
