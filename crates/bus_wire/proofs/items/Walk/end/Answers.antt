use Rattle.std.proofs.Common.{length, sym, ◌∙◌, arith}
use Rattle.std.proofs.lemmas.Bool.{eqb-true, eqb-false}
use Rattle.bus_wire.proofs.Walking.{stopped, stopped_behind, held}
use Rattle.bus_wire.proofs.items.Walk.end.Goals as goal

pub returns-in_default : goal.returns-in_default
returns-in_default c = stopped c.args.wanted.now c.args.bytes.now c.args.self.now c.requires.walked c.requires.stays c.in_default.ensures

pub returns-then-not-is_empty : goal.returns-then-not-is_empty
returns-then-not-is_empty c =
    let some = eqb-false (length c.in-Some.behind.now) 0 (sym c.is_empty.ensures ∙ c.if-not-is_empty.true) in
    stopped_behind c.args.wanted.now c.args.bytes.now c.args.self.now c.in-Some.close c.in-Some.behind.now c.requires.walked c.in-Some.ensures (omega (arith, some))

pub returns : goal.returns
returns c =
    let none = eqb-true (length c.in-Some.behind.now) 0 (sym c.is_empty.ensures ∙ c.if-not-is_empty.false) in
    held c.args.wanted.now c.args.bytes.now c.args.self.now c.in-Some.close c.in-Some.behind.now c.requires.walked c.in-Some.ensures none
