use Rattle.std.proofs.Common.{refl}
use Rattle.std.specs.Fmt.{digits}
use Rattle.trace_script.proofs.laws.worked_replies.Goals as goal

pub returns : goal.returns
unfolding digits
returns c = record {
  served = refl;
  not_found = refl;
  empty = refl;
  small = refl;
  behind = refl;
  gone = refl;
  start_delta = refl;
  start_snapshot = refl;
  changes = refl;
  last_changes = refl;
  rows = refl;
  last_rows = refl;
  catchup = refl;
  online = refl;
  replay = refl;
  replayed = refl;
  relay = refl;
  boot = refl;
  gap = refl;
}
