use Rattle.std.proofs.Common.{codes, sym, ap, ◌∙◌}
use Rattle.httparse.specs.Spans.{header_bytes}
use Rattle.bus_http.specs.Head.{is_word}
use Rattle.bus_http.proofs.Lengths.{first_at}
use Rattle.bus_http.proofs.answer.next_length.Goals as goal

pub returns-then-says_length-clause-found : goal.returns-then-says_length-clause-found
returns-then-says_length-clause-found c =
    first_at (header_bytes c.args.text.now) c.args.headers.now c.loop-i.i _ c.of-then-says_length.result.now c.loop-i-test.true
    (ap (λ n. is_word n (codes "content-length")) (sym c.of.ensures) ∙ sym c.says_length.ensures ∙ c.if-says_length.true) c.of-then-says_length.ensures c.loop-i.invariant.same
