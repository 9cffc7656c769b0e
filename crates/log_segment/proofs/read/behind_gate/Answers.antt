use Rattle.std.proofs.Common.{ℕ, List, length, take, ◌∙◌, ap, subst, arith}
use Rattle.log_segment.specs.Reading.{FindsWindow}
use Rattle.log_segment.proofs.Records.{no_length, too_large, not_whole, not_window, is_record}
use Rattle.log_segment.proofs.read.behind_gate.Goals as goal

pub returns-in_default : goal.returns-in_default
returns-in_default c = no_length c.args.prev c.args.bytes.now c.in_default.ensures

pub returns-then-size-gt-MAX_WINDOW : goal.returns-then-size-gt-MAX_WINDOW
returns-then-size-gt-MAX_WINDOW c =
    let l = c.in-Some.ensures in
    too_large c.args.prev c.args.bytes.now l.long _ l.value c.if-size-gt-MAX_WINDOW.true

pub returns-in_default-split_at_checked : goal.returns-in_default-split_at_checked
returns-in_default-split_at_checked c =
    let l = c.in-Some.ensures in
    not_whole c.args.prev c.args.bytes.now l.long _ l.value (omega (arith, c.in_default-split_at_checked.ensures.cases, ap length l.rest))

pub returns-in-Some-2 : goal.returns-in-Some-2
returns-in-Some-2 c =
    let l = c.in-Some.ensures in
    let parts = c.in-Some-split_at_checked.ensures.cases in
    is_record c.args.prev c.args.bytes.now l.long c.in-Some.size l.value c.in-Some-split_at_checked.text.now
    (parts.1 ∙ ap (λ (b : List ℕ). take c.in-Some.size b) l.rest) (omega (arith, parts.0, ap length l.rest)) (λ i. omega (arith, c.type_inv.bytes i)) c.in-Some-2.window
    (subst (FindsWindow c.args.prev c.in-Some-split_at_checked.text.now) c.in-Some-2.is c.in_ok-window.ensures)

pub returns-in-None : goal.returns-in-None
returns-in-None c =
    let l = c.in-Some.ensures in
    let parts = c.in-Some-split_at_checked.ensures.cases in
    not_window c.args.prev c.args.bytes.now l.long c.in-Some.size l.value c.in-Some-split_at_checked.text.now
    (parts.1 ∙ ap (λ (b : List ℕ). take c.in-Some.size b) l.rest) (omega (arith, parts.0, ap length l.rest))
    (subst (FindsWindow c.args.prev c.in-Some-split_at_checked.text.now) c.in-None.is c.in_ok-window.ensures)
