use Rattle.std.proofs.Common.{◌≡◌, ap, arith}
use Rattle.range_ring.proofs.first.first_at.Goals as goal

pub returns-then-scn-own : goal.returns-then-scn-own
returns-then-scn-own g c =
    let entry = c.in_ok-shown.ensures.entry in
    let own : c.scns-own.result.0 ≡ entry.window.scn = ap (λ x. x.0) (c.scns-own.ensures.value entry) in
    let prev : c.scns-own.result.1 ≡ entry.window.prev = ap (λ x. x.1) (c.scns-own.ensures.value entry) in
    let place = c.in_ok-shown.ensures.position in
    let below = c.if-prev-scn.true in
    let above = c.if-scn-own.true in
    let low = c.if-position-evicted.false in
    let high = c.if-published-position.false in
    record { low = omega arith; high = omega arith; entry = entry; before = omega arith; after = omega arith }
