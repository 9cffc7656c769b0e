use Rattle.std.proofs.Common.{◌∙◌, sym, arith}
use Rattle.delta_consolidate.proofs.Beyond.{beyond}
use Rattle.delta_consolidate.proofs.latest.is_beyond.Goals as goal

pub returns-in-Some : goal.returns-in-Some
returns-in-Some c above put =
    beyond c.args.most c.in-Some.last.now c.args.name.now put c.args.latest.now.entries (omega (arith, c.requires, c.if-len-most.false, c.len.ensures.len)) c.in-Some.ensures.all_up_to (sym c.is_before.ensures ∙ above)
