-- The boot mark that a keeper stores before a commit or after it, over a timeline.
use Rattle.std.proofs.Common.{◌≡◌, ◌∙◌, inl, inr, ℕ, ◌≤◌, min, true, nat_lt, List, [], ◌∷◌, take, flat_map, Some, None, sym, ap, subst, refl, arith}
use Rattle.std.proofs.lemmas.Bool.{cases_lt, cond-true, cond-false, lt-ltb, le-ltb}
use Rattle.bus_types.specs.Window.{Span}
use Rattle.bus_types.specs.Timeline.{IsTimeline, end_from, windows_between}
use Rattle.bus_types.specs.declared.limits.TheConstants.{MAX_SCN}
use Rattle.bus_types.specs.Table.{rows_after, table}
use Rattle.bus_types.specs.Relay.{is_place}
use Rattle.bus_types.proofs.Stretches.{timeline_rises, between_rises, rises_end, between_end, between_none, between_run, run_rises, run_within, table_moves}
use Rattle.bus_wire.specs.True.{Boot, IsBoot}
use Rattle.bus_wire.proofs.Replies.{place_bound}
use Rattle.bus_stores.specs.Keeper.{Content}
use Rattle.snapshot_applier.specs.declared.boot.BootMark.{BootMark}
use Rattle.snapshot_applier.specs.BootMark.{IsBootMark}
use Rattle.snapshot_applier.specs.Apply.{applied_after, commit_of}
use Rattle.bootstrap_core.specs.Boot.{HoldsTable}
use Rattle.bootstrap_core.specs.Moving.{base_move, based}
use Rattle.bootstrap_core.proofs.StandingMoves.{RunsOn, table_moved}
use Rattle.bootstrap_core.proofs.StretchEnds.{run_end_place, stretch_end_place}
use Rattle.log_boot.specs.Stops.{apply_commit, base_upto, trim_commit, committed, IsEither}

-- a boot mark isn't below another one and lies between places of a timeline up to an SCN, and this content stores it
pub record Stored (ws : List Span) (m : BootMark) (top : ℕ) (d : Content) (next : BootMark) : Type 0 where
  pub base : m.base ≤ next.base
  pub applied : m.applied ≤ next.applied
  pub order : next.base ≤ next.applied
  pub upto : next.applied ≤ top
  pub base_place : is_place next.base ws ≡ true
  pub applied_place : is_place next.applied ws ≡ true
  pub table : HoldsTable ws next d

abbrev pub numbers_at : BootMark → ℕ → Boot
numbers_at m top = record { base = m.base; applied = m.applied; high = top }

module _ (ws : List Span) (timeline : IsTimeline ws) (m : BootMark) (top : ℕ) (c : Content) (lawful : IsBoot ws (numbers_at m top)) (holds : HoldsTable ws m c) where
  -- nothing was committed
  pub stored_before : (d : Content) → d ≡ c → Stored ws m top d m
  stored_before d same = record {
    base = omega arith;
    applied = omega arith;
    order = lawful.applied;
    upto = lawful.high;
    base_place = lawful.base_place;
    applied_place = lawful.applied_place;
    table = subst (HoldsTable ws m) (sym same) holds;
  }

  within : m.applied ≤ MAX_SCN
  within = place_bound m.applied ws timeline lawful.applied_place

  -- ---- an apply

  module _ (count : ℕ) where
    abbrev run : List Span
    run = take count (windows_between m.applied top ws)

    rises : m.applied ≤ end_from m.applied run
    rises = run_rises 0 m.applied top count ws run timeline refl

    ends : end_from m.applied run ≤ top
    ends = run_within 0 m.applied top count ws run timeline lawful.high refl

    place : is_place (end_from m.applied run) ws ≡ true
    place = run_end_place m.applied m.applied top count ws lawful.applied_place

    runs_on : RunsOn ws m top run
    runs_on = record {
      rises = rises;
      within = ends;
      place = place;
      rows =
          table_moves ws m.applied (end_from m.applied run) timeline rises
          ∙ ap (λ (r : List Span). rows_after (table ws m.applied) (flat_map (λ (w : Span). w.changes) r)) (between_run 0 m.applied top count ws run timeline refl);
      lawful = record { order = omega (arith, lawful.applied, rises); within = place_bound (end_from m.applied run) ws timeline place };
    }

    run_stored : (r : List Span) (d : Content) → RunsOn ws m top r → d ≡ committed (commit_of m r) c → HoldsTable ws (applied_after m r) d
    run_stored [] d on same = subst (HoldsTable ws m) (sym same) holds
    run_stored (w ∷ rest) d on same =
        let batch = flat_map (λ (v : Span). v.changes) (w ∷ rest) in
        subst (HoldsTable ws (applied_after m (w ∷ rest))) (sym same) (table_moved ws m (applied_after m (w ∷ rest)) batch on.rows on.lawful c holds)

    -- the next windows were applied
    stored_applied : (d : Content) → d ≡ committed (apply_commit ws (numbers_at m top) count) c → Stored ws m top d (applied_after m run)
    stored_applied d same = record {
      base = omega arith;
      applied = rises;
      order = runs_on.lawful.order;
      upto = ends;
      base_place = lawful.base_place;
      applied_place = place;
      table = run_stored run d runs_on same;
    }

    pub stored_in_apply : (d : Content) → IsEither (apply_commit ws (numbers_at m top) count) c d → (next : BootMark) × Stored ws m top d next
    stored_in_apply d (inl same) = (m, stored_before d same)
    stored_in_apply d (inr same) = (applied_after m run, stored_applied d same)

  -- ---- a trim

  module _ (scn : ℕ) where
    abbrev base : ℕ
    base = base_upto ws (numbers_at m top) scn

    abbrev upto : ℕ
    upto = min scn m.applied

    later : m.base ≤ base
    later = rises_end m.base (windows_between m.base upto ws) (between_rises 0 m.base upto ws (timeline_rises 0 ws timeline))

    not_above : base ≤ m.applied
    not_above = elim (cases_lt upto m.base) [
      | inl below ↦ subst (λ n. n ≤ m.applied) (ap (end_from m.base) (sym (between_none m.base upto ws (omega (arith, below))))) lawful.applied
      | inr above ↦ omega (arith, between_end m.base m.base upto ws above)
    ]

    based_lawful : IsBootMark (based m base)
    based_lawful = record { order = not_above; within = within }

    stored_based : (d : Content) → d ≡ committed (Some (base_move (based m base))) c → Stored ws m top d (based m base)
    stored_based d same = record {
      base = later;
      applied = omega arith;
      order = not_above;
      upto = lawful.high;
      base_place = stretch_end_place m.base m.base upto ws lawful.base_place;
      applied_place = lawful.applied_place;
      table = subst (HoldsTable ws (based m base)) (sym same) (table_moved ws m (based m base) [] refl based_lawful c holds);
    }

    -- a later base was committed, or there was none
    pub stored_trimmed : (d : Content) → d ≡ committed (trim_commit ws (numbers_at m top) scn) c → (next : BootMark) × Stored ws m top d next × (base ≤ next.base)
    stored_trimmed d same = elim (cases_lt m.base base) [
      | inl l ↦
          let some : trim_commit ws (numbers_at m top) scn ≡ Some (base_move (based m base)) = cond-true (nat_lt m.base base) (Some (base_move (based m base))) None (lt-ltb m.base base l) in
          (based m base, stored_based d (same ∙ ap (λ move. committed move c) some), omega arith)
      | inr h ↦
          let none : trim_commit ws (numbers_at m top) scn ≡ None = cond-false (nat_lt m.base base) (Some (base_move (based m base))) None (le-ltb m.base base h) in
          (m, stored_before d (same ∙ ap (λ move. committed move c) none), h)
    ]
