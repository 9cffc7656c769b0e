use Rattle.std.proofs.Common.{◌≡◌, ◌+◌, ◌%◌, ◌<◌, ◌∙◌, length, arith}
use Rattle.std.proofs.lemmas.List.{length-set}
use Rattle.generated_windows.proofs.Generating.{bytes_more, bytes_all}
use Rattle.generated_windows.proofs.generate.rising.Goals as goal

pub loop-j-preserved : goal.loop-j-preserved
loop-j-preserved c =
    let lt : c.loop-j.j < length c.loop-j.bytes = omega (arith, c.loop-j-test.true, c.loop-j.invariant.long) in
    record {
      long = length-set c.loop-j.bytes c.loop-j.j ((c.args.first + c.loop-j.j) % 256) ∙ c.loop-j.invariant.long;
      done = bytes_more c.args.first c.loop-j.j c.loop-j.bytes lt c.loop-j.invariant.done;
    }

pub returns : goal.returns
returns c = bytes_all c.args.first c.loop-j.j c.loop-j.bytes (omega arith) c.loop-j.invariant.long c.loop-j.invariant.done
