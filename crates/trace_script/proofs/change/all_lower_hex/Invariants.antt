use Rattle.std.proofs.Common.{◌≡◌, ◌&&◌, drop}
use Rattle.std.specs.List.{list_all}
use Rattle.trace_script.specs.Words.{is_lower_hex}
use Rattle.trace_script.proofs.change.all_lower_hex.Given as goal

abbrev pub invariant-loop-digit : goal.invariant-loop-digit
invariant-loop-digit l = (l.all && list_all is_lower_hex (drop l.digit-index l.digits)) ≡ list_all is_lower_hex l.digits
