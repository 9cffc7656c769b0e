-- A scan of a table and what a filter shows of it.
use Rattle.std.proofs.Common.{◌≡◌, ℕ, ◌==◌, Bool, true, false, cond, List, [], inl, inr, flat_map, refl, sym, ap, ◌∙◌, arith}
use Rattle.std.proofs.lemmas.Bool.{cases_Bool, eqb-true}
use Rattle.bus_types.specs.Change.{Test}
use Rattle.bus_types.specs.Window.{Span}
use Rattle.bus_types.specs.Table.{rows_after, table}
use Rattle.bus_types.specs.View.{shown, view}
use Rattle.bus_types.proofs.Stretches.{between_none}
use Rattle.snapshot_scan.specs.Chunk.{scan_rows}

-- at 0 a table has no row
none_viewed : (test : Test) (ws : List Span) → view test ws 0 ≡ []
none_viewed test ws = ap (λ stretch. shown test (rows_after [] (flat_map (λ (w : Span). w.changes) stretch))) (between_none 0 0 ws (omega arith))

-- the rows of a scan are those of the view
pub rows_are_viewed : (test : Test) (applied : ℕ) (ws : List Span) → scan_rows test applied (table ws applied) ≡ view test ws applied
rows_are_viewed test applied ws =
    elim (cases_Bool (applied == 0)) [
      | inl zero ↦ ap (λ b. cond b [] (view test ws applied)) zero ∙ sym (ap (view test ws) (eqb-true applied 0 zero) ∙ none_viewed test ws)
      | inr more ↦ ap (λ b. cond b [] (view test ws applied)) more
    ]
