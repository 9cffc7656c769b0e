use Rattle.std.proofs.Common.{refl}
use Rattle.client_switch.proofs.worked.worked_moves.Goals as goal

pub returns : goal.returns
returns c = record {
  asks_stream = refl;
  asks_target = λ most. refl;
  follows = refl;
  evicted = refl;
  begins_delta = refl;
  begins_snapshot = refl;
  rows_and_more = refl;
  last_rows = refl;
  changes_and_more = refl;
  last_changes = refl;
  nothing_to_replay = refl;
  begins_replay = refl;
  replays = refl;
  ends_replay = refl;
  log_gone = λ ws. refl;
  log_there = λ ws. refl;
  behind = λ ws. refl;
  chunk = refl;
  whole_chunk = refl;
  small_chunk = refl;
  no_chunk = refl;
}
