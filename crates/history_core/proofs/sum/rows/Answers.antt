use Rattle.std.proofs.Common.{◌≡◌, List, ℕ, refl, subst, ◌∙◌}
use Rattle.std.specs.Prelude.{IfOk}
use Rattle.history_core.proofs.Summing.{sum_made}
use Rattle.history_core.proofs.sum.rows.Goals as goal

pub returns : goal.returns
returns c =
    let told = c.in_ok-lines.ensures in
    subst (λ (t : List ℕ). IfOk c.line.result (λ text. text.items ≡ t))
    (sum_made c.args.name.now c.args.scn _ c.in_ok-lines.size _ c.in_ok-lines.lines.items c.deref.result.now c.args.rows.now refl told.lines told.size c.deref.ensures.value (c.deref-2.ensures ∙ c.in_ok-hash.ensures)) c.line.ensures
