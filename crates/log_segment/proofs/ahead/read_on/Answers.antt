use Rattle.std.proofs.Common.{◌≤◌, ◌++◌, List, ℕ, length, ap, ◌∙◌, arith}
use Rattle.log_segment.proofs.Lookings.{front_of_lent, reads_on}
use Rattle.log_segment.proofs.ahead.read_on.Goals as goal

pub returns-clause-told : goal.returns-clause-told
returns-clause-told g c =
    let long : c.min-count.result ≤ length c.deref.result.now = omega (arith, c.in-Ok-read.ensures.room, c.min-count.ensures, c.read.auto.buf, c.deref_mut.ensures.len, c.deref.ensures.len) in
    let within : c.min-count.result ≤ length c.read.new.buf = omega (arith, c.in-Ok-read.ensures.room, c.min-count.ensures) in
    let read = front_of_lent c.min-count.result _ c.read.new.buf _ _ c.deref.ensures.value long within in
    reads_on c.args.place c.args.end c.in-Ok-read.count c.min-count.result c.args.ahead.now c.append.new.self c.read.new.buf
    c.requires.place (rw (← c.bytes.ensures) c.min-count.ensures) (omega (arith, c.in-Ok.ensures, c.deref_mut.ensures.len, c.read.auto.buf, c.requires.some))
    (c.in-Ok-append.ensures ∙ ap (λ (l : List ℕ). c.args.ahead.now ++ l) read) _ (rw (← c.bytes.ensures) c.in-Ok-read.ensures.given)
