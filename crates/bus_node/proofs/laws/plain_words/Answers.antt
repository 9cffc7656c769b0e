use Rattle.std.proofs.Common.{refl}
use Rattle.bus_node.specs.Words.{is_plain}
use Rattle.bus_node.proofs.Forms.{plain_where_started}
use Rattle.bus_node.proofs.laws.plain_words.Goals as goal

pub returns : goal.returns
unfolding is_plain
returns c = record {
  start = plain_where_started;
  out_of_range = refl;
  turned = refl;
  no_names = refl;
  missing = refl;
  repeated = refl;
  unknown = refl;
  joined = refl;
  negative = refl;
  other_node = refl;
  no_words = refl;
}
