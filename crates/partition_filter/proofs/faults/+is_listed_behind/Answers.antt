use Rattle.std.proofs.Common.{◌==◌, sym, ap, ◌∙◌}
use Rattle.std.specs.Prelude.{is_some}
use Rattle.std.specs.List.{slice_split}
use Rattle.partition_filter.specs.Faults.{listed_behind}
use Rattle.bus_types.proofs.ListForms.{split_cut, split_uncut}
use Rattle.partition_filter.proofs.FaultTexts.{listed_bad, listed_more, listed_last}
use Rattle.partition_filter.proofs.faults.+is_listed_behind.Goals as goal

pub returns-in_default : goal.returns-in_default
returns-in_default t c =
    let a = c.args in
    let whole = ap (λ texts. is_some (listed_behind a.max a.count a.before texts)) (split_uncut 44 a.text.now (sym c.in_default.ensures)) in
    c.is_some.ensures ∙ ap is_some c.next_number.ensures.value ∙ sym (whole ∙ listed_last a.max a.count a.before a.text.now)

pub returns-in_default-next_number : goal.returns-in_default-next_number
returns-in_default-next_number t c =
    let a = c.args in
    let part = c.in-Some.part.now in
    let behind = c.in-Some.behind.now in
    let whole = ap (λ texts. is_some (listed_behind a.max a.count a.before texts)) (split_cut 44 a.text.now (part, behind) (sym c.in-Some.ensures)) in
    sym (whole ∙ listed_bad a.max a.count a.before part (slice_split (λ b. b == 44) behind) (sym c.in_default-next_number.ensures.value))

pub returns : goal.returns
returns t c =
    let a = c.args in
    let part = c.in-Some.part.now in
    let behind = c.in-Some.behind.now in
    let whole = ap (λ texts. is_some (listed_behind a.max a.count a.before texts)) (split_cut 44 a.text.now (part, behind) (sym c.in-Some.ensures)) in
    c.is_listed_behind.ensures ∙ sym (whole ∙ listed_more a.max a.count c.in-Some-next_number.number a.before part (slice_split (λ b. b == 44) behind) (sym c.in-Some-next_number.ensures.value))
