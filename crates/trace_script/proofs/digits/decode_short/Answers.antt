use Rattle.trace_script.proofs.DigitPairs.{lower_left, even_left, reads_left, reads_all, room_left}
use Rattle.trace_script.proofs.digits.decode_short.Goals as goal

pub pairs-preserved : goal.pairs-preserved
pairs-preserved c = record {
  lower = lower_left c.pairs.rest.now c.in-len2-up.len_at_least c.pairs.invariant.lower;
  even = even_left c.pairs.rest.now c.in-len2-up.len_at_least c.pairs.invariant.even;
  room = room_left c.pairs.rest.now _ _ c.in-len2-up.len_at_least c.push.ensures.len c.pairs.invariant.room;
  read = reads_left c.args.digits.now c.pairs.bytes.items _ c.pairs.rest.now c.value_of.result c.value_of-in-len2-up.result c.in-len2-up.len_at_least c.push.ensures.items c.value_of.ensures.value c.value_of-in-len2-up.ensures.value c.pairs.invariant.read;
}

pub returns : goal.returns
returns c = reads_all c.args.digits.now c.pairs.bytes.items c.pairs.rest.now c.requires.even c.in_default.len_below c.pairs.invariant.even c.pairs.invariant.read
