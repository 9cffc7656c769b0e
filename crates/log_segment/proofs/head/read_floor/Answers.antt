use Rattle.std.proofs.Common.{arith}
use Rattle.log_segment.proofs.Headings.{floor_short, floor_above, floor_stands}
use Rattle.log_segment.proofs.head.read_floor.Goals as goal

pub returns-in_default-number_front : goal.returns-in_default-number_front
returns-in_default-number_front c =
    floor_short c.args.bytes.now c.in-Some.rest.now c.in-Some.tag (λ i. omega (arith, c.type_inv.bytes i)) c.in-Some.ensures c.if-tag-ne-TAG.false c.in_default-number_front.ensures

pub returns-then-floor-gt-MAX_SCN : goal.returns-then-floor-gt-MAX_SCN
returns-then-floor-gt-MAX_SCN c =
    floor_above c.args.bytes.now c.in-Some.rest.now c.in-Some.tag (λ i. omega (arith, c.type_inv.bytes i)) c.in-Some.ensures c.if-tag-ne-TAG.false
    _ c.in-Some-number_front.floor c.in-Some-number_front.ensures c.if-floor-gt-MAX_SCN.true

pub returns : goal.returns
returns c =
    floor_stands c.args.bytes.now c.in-Some.rest.now c.in-Some.tag (λ i. omega (arith, c.type_inv.bytes i)) c.in-Some.ensures c.if-tag-ne-TAG.false
    _ c.in-Some-number_front.floor c.in-Some-number_front.ensures c.if-floor-gt-MAX_SCN.false
