use Rattle.std.proofs.Common.{◌≡◌, ◌+◌, ◌*◌, ◌%◌, ◌≤◌, true, length}
use Rattle.std.specs.List.{list_all}
use Rattle.arrayvec.specs.ArrayVec.{array_vec_len}
use Rattle.trace_script.specs.Words.{is_lower_hex}
use Rattle.trace_script.proofs.DigitPairs.{ReadsOn}
use Rattle.trace_script.proofs.digits.decode_short.Given as goal

abbrev pub invariant-pairs : goal.invariant-pairs
invariant-pairs l = record {
  lower : list_all is_lower_hex l.rest ≡ true;
  even : length l.rest % 2 ≡ 0;
  room : 2 * array_vec_len l.bytes + length l.rest ≤ 48;
  read : ReadsOn l.digits l.bytes.items l.rest;
}

abbrev pub decreases-pairs : goal.decreases-pairs
decreases-pairs l = length l.rest
