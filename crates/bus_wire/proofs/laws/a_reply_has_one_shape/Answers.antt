use Rattle.std.proofs.Common.{refl}
use Rattle.event_codec.specs.Streams.{windows_bytes}
use Rattle.bus_wire.proofs.Walk.{one_run}
use Rattle.bus_wire.proofs.Uniqueness.{fault_is_unlawful, faults_once, one_shape}
use Rattle.bus_wire.proofs.laws.a_reply_has_one_shape.Goals as goal

pub returns : goal.returns
returns c = record {
  shape = one_shape;
  windows = λ floor top filter ws vs one two same. one_run floor top filter (windows_bytes ws) ws vs one two refl same;
  place = faults_once;
  unlawful = fault_is_unlawful;
}
