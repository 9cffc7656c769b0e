-- A window within its limits is cut with no fault.
use Rattle.std.proofs.Common.{◌≡◌, false, length, Some, None, Result, Ok, Err, refl, ◌∙◌, sym, arith}
use Rattle.std.specs.Prelude.{IfErr, IsOk}
use Rattle.std.proofs.lemmas.Bool.{le-ltb, lt-leb, ne_eqb, or_from}
use Rattle.bus_types.specs.declared.limits.TheConstants.{MAX_SCN, MAX_CHANGES, MAX_WINDOW}
use Rattle.bus_types.specs.declared.window.WindowFault.{WindowFault}
use Rattle.bus_types.specs.Window.{Span, span_size, IsSpan, bad_scn, cut_fault}

good_scn : (w : Span) → IsSpan w → bad_scn w ≡ false
good_scn w is = or_from _ _ (or_from _ _ (ne_eqb w.scn 0 (λ e. omega (arith, e, is.prev))) (le-ltb MAX_SCN w.scn is.scn)) (lt-leb w.scn w.prev is.prev)

no_fault : (w : Span) → IsSpan w → cut_fault w ≡ None
no_fault w is = rw (good_scn w is, le-ltb MAX_CHANGES (length w.changes) is.count, le-ltb MAX_WINDOW (span_size w) is.size) refl

pub is_cut : {T E : Type 0} (fault : E → WindowFault) (r : Result T E) (w : Span) → IsSpan w → IfErr r (λ e. cut_fault w ≡ Some (fault e)) → IsOk r
is_cut fault (Ok x) w is e = refl
is_cut fault (Err d) w is e = (let same = sym (no_fault w is) ∙ e in absurd cc)
