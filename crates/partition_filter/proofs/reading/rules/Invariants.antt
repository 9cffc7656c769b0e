use Rattle.std.proofs.Common.{◌≡◌, ◌+◌, ◌==◌, None, length, drop, map, vec_len}
use Rattle.std.specs.List.{slice_split}
use Rattle.partition_filter.specs.Grammar.{rules_of}
use Rattle.partition_filter.proofs.Loops.{after, room}
use Rattle.partition_filter.proofs.reading.rules.Given as goal

abbrev pub invariant-loop-part : goal.invariant-loop-part
invariant-loop-part l = record {
  same : after l.rules.items (rules_of l.place (vec_len l.rules) l.before (drop l.part-index (map (λ part. part.now) l.part-items))) ≡ rules_of 0 0 None (slice_split (λ b. b == 59) l.fn.text);
  room : l.place + room (drop l.part-index (map (λ part. part.now) l.part-items)) ≡ length l.fn.text + 1;
}
