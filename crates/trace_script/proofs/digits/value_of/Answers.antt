use Rattle.trace_script.proofs.DigitPairs.{digit_value, small_digit}
use Rattle.trace_script.proofs.digits.value_of.Goals as goal

pub returns : goal.returns
returns c = record {
  value = digit_value c.args.digit c.requires;
  small = small_digit c.args.digit _ (digit_value c.args.digit c.requires);
}
