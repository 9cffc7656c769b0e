use Rattle.std.proofs.Common.{◌≡◌, ◌+◌, drop}
use Rattle.bus_types.specs.Change.{accepted, changes_size}
use Rattle.bus_types.specs.Cut.{cut_size}
use Rattle.event_codec.specs.Bytes.{changes_bytes}
use Rattle.byte_ring.specs.Parts.{Stands}
use Rattle.byte_ring.proofs.run.cut_size.Given as goal

abbrev pub invariant-loop-i : goal.invariant-loop-i
invariant-loop-i g l =
    let w = l.slot.window.value in
    record {
      there : Stands l.bytes l.place (changes_bytes w.scn (drop l._i w.changes));
      size : l.size + changes_size (accepted (g.F.Accepts.test l.filter) (drop l._i w.changes)) ≡ cut_size (g.F.Accepts.test l.filter) w;
    }
