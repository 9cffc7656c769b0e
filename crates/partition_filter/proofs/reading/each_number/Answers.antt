use Rattle.std.proofs.Common.{[], sym}
use Rattle.std.proofs.lemmas.List.{get_or-map, length-map}
use Rattle.partition_filter.proofs.Loops.{with_front-more, with_front-bad, with_front-all}
use Rattle.partition_filter.proofs.reading.each_number.Goals as goal

pub returns-in_default : goal.returns-in_default
returns-in_default c =
    with_front-bad _ c.loop-text.numbers.items _ c.loop-text.text-index _ _ (rw length-map c.loop-text-test.true)
    (get_or-map (λ text. text.now) c.args.texts.now c.loop-text.text-index _ [] c.loop-text-test.true) (sym c.in_default.ensures.value) c.loop-text.invariant

pub loop-text-preserved : goal.loop-text-preserved
loop-text-preserved c =
    with_front-more _ c.loop-text.numbers.items _ _ _ c.loop-text.text-index _ _ (rw length-map c.loop-text-test.true)
    (get_or-map (λ text. text.now) c.args.texts.now c.loop-text.text-index _ [] c.loop-text-test.true) (sym c.in-Some.ensures.value) c.in_ok-push.ensures.items c.loop-text.invariant

pub returns : goal.returns
returns c = with_front-all _ _ _ c.loop-text.text-index _ (rw length-map c.loop-text-test.false) c.loop-text.invariant
