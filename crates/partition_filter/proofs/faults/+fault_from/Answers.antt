use Rattle.std.proofs.Common.{◌==◌, sym, ap, ◌∙◌}
use Rattle.std.specs.List.{slice_split}
use Rattle.partition_filter.specs.Grammar.{rules_of}
use Rattle.partition_filter.specs.Faults.{fault_of}
use Rattle.bus_types.proofs.ListForms.{split_cut, split_uncut}
use Rattle.partition_filter.proofs.FaultTexts.{fault_here, fault_behind, fault_last}
use Rattle.partition_filter.proofs.faults.+fault_from.Goals as goal

pub returns-in_default : goal.returns-in_default
returns-in_default t c =
    let a = c.args in
    let whole = ap (λ texts. fault_of (rules_of a.place a.count a.before texts)) (split_uncut 59 a.text.now (sym c.in_default.ensures)) in
    c.last_fault.ensures ∙ sym (whole ∙ fault_last a.place a.count a.before c.next_source.result a.text.now (sym c.next_source.ensures.value))

pub returns-in_default-next_source : goal.returns-in_default-next_source
returns-in_default-next_source t c =
    let a = c.args in
    let part = c.in-Some.part.now in
    let behind = c.in-Some.behind.now in
    let whole = ap (λ texts. fault_of (rules_of a.place a.count a.before texts)) (split_cut 59 a.text.now (part, behind) (sym c.in-Some.ensures)) in
    sym (whole ∙ fault_here a.place a.count a.before part (slice_split (λ b. b == 59) behind) (sym c.in_default-next_source.ensures.value))

pub returns : goal.returns
returns t c =
    let a = c.args in
    let part = c.in-Some.part.now in
    let behind = c.in-Some.behind.now in
    let whole = ap (λ texts. fault_of (rules_of a.place a.count a.before texts)) (split_cut 59 a.text.now (part, behind) (sym c.in-Some.ensures)) in
    c.fault_from.ensures ∙ sym (whole ∙ fault_behind a.place a.count c.in-Some-next_source.source a.before part (slice_split (λ b. b == 59) behind) (sym c.in-Some-next_source.ensures.value))
