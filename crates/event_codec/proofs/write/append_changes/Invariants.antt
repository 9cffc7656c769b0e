use Rattle.std.proofs.Common.{◌≡◌, ◌+◌, ◌≤◌, ◌++◌, drop, vec_len, vec_capacity}
use Rattle.bus_types.specs.Change.{accepted, changes_size}
use Rattle.event_codec.specs.Bytes.{changes_bytes}
use Rattle.event_codec.proofs.write.append_changes.Given as goal

abbrev pub invariant-loop-change : goal.invariant-loop-change
invariant-loop-change g l = record {
  items : l.out.items ++ changes_bytes l.scn (accepted (g.F.Accepts.test l.filter) (drop l.change-index l.changes)) ≡ l.fn.out.items ++ changes_bytes l.scn (accepted (g.F.Accepts.test l.filter) l.changes);
  len : vec_len l.out + changes_size (drop l.change-index l.changes) ≤ vec_len l.fn.out + changes_size l.changes;
  capacity : vec_capacity l.fn.out ≤ vec_capacity l.out;
}
