-- Where windows end that rise behind an SCN, and the boot mark behind them.
use Rattle.std.proofs.Common.{◌≡◌, ℕ, suc, ◌-◌, ◌≤◌, List, [], ◌∷◌, length, slice_get, Some, refl, sym, ap, ◌∙◌, arith}
use Rattle.bus_types.specs.declared.limits.TheConstants.{MAX_SCN}
use Rattle.bus_types.specs.Window.{Span}
use Rattle.bus_types.specs.Timeline.{end_from}
use Rattle.bus_stores.specs.Following.{RiseBetween}
use Rattle.snapshot_applier.specs.declared.boot.BootMark.{BootMark}
use Rattle.snapshot_applier.specs.BootMark.{IsBootMark}
use Rattle.snapshot_applier.specs.Apply.{Advances, applied_after}

-- windows end at the last one
end_at_last : (scn : ℕ) (ws : List Span) (w : Span) → slice_get ws (length ws - 1) ≡ Some w → end_from scn ws ≡ w.scn
end_at_last scn [] w e = absurd (cc)
end_at_last scn (v ∷ []) w e =
    let same : v ≡ w = cc in
    ap (λ (u : Span). u.scn) same
end_at_last scn (v ∷ u ∷ ws) w e =
    let place : length (v ∷ u ∷ ws) - 1 ≡ suc (length (u ∷ ws) - 1) = omega arith in
    end_at_last v.scn (u ∷ ws) w (sym (ap (slice_get (v ∷ u ∷ ws)) place) ∙ e)

-- rising windows end at or after the SCN before them
pub rise_end : (scn high : ℕ) (ws : List Span) → RiseBetween scn high ws → scn ≤ end_from scn ws
rise_end scn high [] r = omega arith
rise_end scn high (w ∷ ws) r = omega (arith, r.0, rise_end w.scn high ws r.2)

-- and at or before the upper one
rise_upto : (scn high : ℕ) (ws : List Span) → scn ≤ high → RiseBetween scn high ws → end_from scn ws ≤ high
rise_upto scn high [] h r = h
rise_upto scn high (w ∷ ws) h r = rise_upto w.scn high ws r.1 r.2

-- the boot mark at the last window
pub after_last : (m : BootMark) (at : ℕ) (ws : List Span) (w : Span) → at ≡ w.scn → Some w ≡ slice_get ws (length ws - 1) → record m { applied = at } ≡ applied_after m ws
after_last m at ws w is e = ap (λ n. record m { applied = n }) (is ∙ sym (end_at_last m.applied ws w (sym e)))

pub after_lawful : (m : BootMark) (at high : ℕ) (ws : List Span) (w : Span) → IsBootMark m → RiseBetween m.applied high ws → w.scn ≤ MAX_SCN → at ≡ w.scn → Some w ≡ slice_get ws (length ws - 1) → IsBootMark (record m { applied = at })
after_lawful m at high ws w lawful r within is e =
    record { order = omega (arith, lawful.order, is, end_at_last m.applied ws w (sym e), rise_end m.applied high ws r); within = omega (arith, is, within) }

pub after_advances : (m : BootMark) (at high : ℕ) (ws : List Span) (w : Span) → IsBootMark m → m.applied ≤ high → RiseBetween m.applied high ws → w.scn ≤ MAX_SCN → at ≡ w.scn → Some w ≡ slice_get ws (length ws - 1) → Advances m (record m { applied = at }) high
after_advances m at high ws w lawful h r within is e =
    let ends = end_at_last m.applied ws w (sym e) in
    record {
      lawful = after_lawful m at high ws w lawful r within is e;
      base = refl;
      later = omega (arith, is, ends, rise_end m.applied high ws r);
      upto = omega (arith, is, ends, rise_upto m.applied high ws h r);
    }
