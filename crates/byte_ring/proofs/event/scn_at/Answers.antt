use Rattle.std.proofs.Common.{◌+◌, ◌-◌, ◌≡◌, ◌∙◌, arith}
use Rattle.byte_ring.proofs.Standing.{scn_there, window_within}
use Rattle.byte_ring.proofs.event.scn_at.Goals as goal

pub overflow_add-mark : goal.overflow_add-mark
overflow_add-mark c = omega (arith, window_within c.args.bytes.now c.args.at c.args.slot.now c.requires, c.len-within.ensures)

pub overflow_sub-mark : goal.overflow_sub-mark
overflow_sub-mark c = omega (arith, c.requires.size)

pub overflow_add-mark-2 : goal.overflow_add-mark-2
overflow_add-mark-2 c = omega (arith, window_within c.args.bytes.now c.args.at c.args.slot.now c.requires, c.len-within.ensures)

pub long-requires : goal.long-requires
long-requires c = omega (arith, window_within c.args.bytes.now c.args.at c.args.slot.now c.requires, c.requires.size)

pub returns-clause-value : goal.returns-clause-value
returns-clause-value c =
    let slot = c.args.slot.now in
    let mark = (c.args.at + slot.size) - 17 in
    let place : mark + 17 ≡ c.args.at + slot.size = omega (arith, c.requires.size) in
    c.long.ensures ∙ scn_there c.args.bytes.now c.args.at mark slot c.requires place

pub returns-clause-range : goal.returns-clause-range
returns-clause-range c = omega (arith, returns-clause-value c, c.requires.is.scn)
