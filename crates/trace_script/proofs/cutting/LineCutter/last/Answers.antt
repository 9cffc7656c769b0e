use Rattle.std.proofs.Common.{◌≡◌, ◌∷◌, [], sym, subst}
use Rattle.trace_script.specs.Input.{lines_of}
use Rattle.trace_script.specs.Cutting.{Cut, last_line}
use Rattle.trace_script.proofs.LineLaws.{lines_of-last}
use Rattle.trace_script.proofs.CutLines.{some_items}
use Rattle.trace_script.proofs.cutting.LineCutter.last.Goals as goal

pub returns-else-is_empty-clause-all : goal.returns-else-is_empty-clause-all
returns-else-is_empty-clause-all c =
    let come = c.self.inside.come in
    let some = some_items come.items _ come.ok.0 (sym c.if-is_empty.ensures) in
    subst (λ (cut : Cut). lines_of cut.come ≡ last_line cut ∷ []) c.self.view_is (lines_of-last come.items c.self.invariant.part some)
