use Rattle.std.proofs.Common.{[], refl, map, arith}
use Rattle.std.proofs.lemmas.List.{get_or-map, length-map}
use Rattle.std.proofs.lemmas.Result.{err_from_is_err_and}
use Rattle.partition_filter.proofs.FilterTexts.{all_taken}
use Rattle.partition_filter.proofs.Loops.{after-none, after-more, after-bad, after-all, room-slice_split, room-more}
use Rattle.partition_filter.proofs.reading.rules.Goals as goal

pub loop-part-init : goal.loop-part-init
loop-part-init c =
    let whole = c.deref-part-items.ensures.value in
    let texts = c.in_ok-texts.ensures in
    record {
      same = rw (c.new-rules.ensures.items, c.new-rules.ensures.len, whole, texts) (after-none _);
      room = rw (whole, texts) (let all = room-slice_split 59 c.args.text.now in omega arith);
    }

pub overflow_add-place-in-loop-part : goal.overflow_add-place-in-loop-part
overflow_add-place-in-loop-part c =
    let lt = c.loop-part-test.true in
    let part = get_or-map (λ part. part.now) c.deref-part-items.result.now c.loop-part.part-index record { ref_ptr = (0, 0); now = [] } [] lt in
    let more = room-more (map (λ part. part.now) c.deref-part-items.result.now) c.loop-part.part-index c.loop-part.place _ _ _ (rw length-map lt) part refl c.loop-part.invariant.room in
    let short = c.requires in
    omega arith

pub returns-in_err-rule-clause-exact : goal.returns-in_err-rule-clause-exact
returns-in_err-rule-clause-exact c =
    let lt = c.loop-part-test.true in
    let p = err_from_is_err_and c.from_residual-in_err-rule.result c.from_residual-in_err-rule.ensures.1 in
    let part = get_or-map (λ part. part.now) c.deref-part-items.result.now c.loop-part.part-index record { ref_ptr = (0, 0); now = [] } [] lt in
    rw (p.1, p.2) (after-bad _ c.loop-part.rules.items (map (λ part. part.now) c.deref-part-items.result.now) c.loop-part.part-index c.loop-part.place _ _ _ _ (rw length-map lt) part (rw c.len.ensures at c.in_err-rule.ensures) c.loop-part.invariant.same)

pub loop-part-preserved : goal.loop-part-preserved
loop-part-preserved c =
    let lt = c.loop-part-test.true in
    let part = get_or-map (λ part. part.now) c.deref-part-items.result.now c.loop-part.part-index record { ref_ptr = (0, 0); now = [] } [] lt in
    record {
      same = after-more c.loop-part.rules.items _ _ (map (λ part. part.now) c.deref-part-items.result.now) c.loop-part.part-index c.loop-part.place _ _ _ _ _ _ _
          (rw length-map lt) part (rw c.len.ensures at c.in_ok-rule.ensures) c.in_ok-push.ensures.items (omega arith) c.in_ok-push.ensures.len c.from.ensures c.loop-part.invariant.same;
      room = room-more (map (λ part. part.now) c.deref-part-items.result.now) c.loop-part.part-index c.loop-part.place _ _ _ (rw length-map lt) part (omega arith) c.loop-part.invariant.room;
    }

pub returns-clause-exact : goal.returns-clause-exact
returns-clause-exact c = after-all _ (map (λ part. part.now) c.deref-part-items.result.now) c.loop-part.part-index _ _ _ _ (rw length-map c.loop-part-test.false) c.loop-part.invariant.same

pub returns-clause-valid : goal.returns-clause-valid
returns-clause-valid c =
    let read = after-all _ (map (λ part. part.now) c.deref-part-items.result.now) c.loop-part.part-index _ _ _ _ (rw length-map c.loop-part-test.false) c.loop-part.invariant.same in
    (all_taken c.args.text.now c.loop-part.rules.items c.requires read).0
