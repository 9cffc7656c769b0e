use Rattle.std.proofs.Common.{sym, arith}
use Rattle.byte_ring.proofs.Finding.{found_of}
use Rattle.byte_ring.proofs.kept.Kept.window.Goals as goal

pub overflow_sub-result : goal.overflow_sub-result
overflow_sub-result c =
    let i = c.self.inside in
    let s = c.in-Some.slot.now in
    let f = found_of i.circle i.slots i.floor i.end i.first i.index c.args.i s c.self.invariant (sym c.in-Some.ensures) in
    let back = c.counted-behind.ensures f.n f.few f.back in
    omega (arith, back, f.within, c.len.ensures)

pub returns-clause-window : goal.returns-clause-window
returns-clause-window c =
    let i = c.self.inside in
    let s = c.in-Some.slot.now in
    let f = found_of i.circle i.slots i.floor i.end i.first i.index c.args.i s c.self.invariant (sym c.in-Some.ensures) in
    rw (sym c.self.view_is) f.window

pub returns-clause-there : goal.returns-clause-there
returns-clause-there c =
    let i = c.self.inside in
    let s = c.in-Some.slot.now in
    let f = found_of i.circle i.slots i.floor i.end i.first i.index c.args.i s c.self.invariant (sym c.in-Some.ensures) in
    let back = c.counted-behind.ensures f.n f.few f.back in
    rw (sym c.self.view_is) (f.there _ (omega (arith, back, f.within, c.len.ensures)))
