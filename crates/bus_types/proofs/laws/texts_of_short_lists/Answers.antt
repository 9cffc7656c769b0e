use Rattle.std.proofs.Common.{refl}
use Rattle.std.specs.Fmt.{digits}
use Rattle.bus_types.specs.Text.{number_of}
use Rattle.bus_types.specs.Lists.{each_of}
use Rattle.bus_types.proofs.laws.texts_of_short_lists.Goals as goal

pub returns : goal.returns
unfolding number_of each_of digits
returns c = record { list = refl; listed = refl; one_is_none = refl; empty = refl }
