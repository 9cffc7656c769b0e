-- Where a log begins after its windows up to a base were dropped.
use Rattle.std.proofs.Common.{◌≡◌, ℕ, ◌≤◌, true, false, List, length, take, Option, Some, None, IfSome, Result, Ok, Err, option_map, is_some, true≢false, refl, sym, ap, subst, ◌∙◌, arith}
use Rattle.bus_types.specs.Window.{Span}
use Rattle.bus_types.specs.Timeline.{IsTimelineFrom, end_from, windows_between}
use Rattle.bus_types.proofs.Stretches.{Rises, timeline_rises, rises_upto_place, rises_front, rises_all}
use Rattle.bus_stores.specs.declared.log.LogFault.TheVariants as logs
use Rattle.bus_stores.specs.declared.boot_fault.BootFault.{BootFault}
use Rattle.bus_stores.specs.declared.boot_fault.BootFault.TheVariants.{LogFailed, StoreFailed, Halted, NoMemory}
use Rattle.bus_stores.specs.Log.{LogState, LogRoom, IsLog, Holds, SameLog, Dropped, DropsAll, DropsWindows}
use Rattle.bootstrap_core.specs.Moving.{DropsEach, BeginsBehind}
use Rattle.bootstrap_core.specs.Trimming.{DropsOrFails}

-- ---- a drop

-- a log that drops every window tells that of the drop
each_told : (A : Type 0) (told : Option LogRoom) → option_map (λ (room : LogRoom). room.drops_all) told ≡ Some true → IfSome told (λ room. room.drops_all ≡ true → A) → A
each_told A None e h = absurd (cc e)
each_told A (Some room) e h = h (cc e)

pub dropped_all : (scn : ℕ) (old new : LogState) → DropsWindows scn old new (Ok tt) → DropsOrFails (Ok tt) scn old new
dropped_all scn old new d = (d.leaves, λ each. each_told (BeginsBehind scn old new) old.room each d.all)

kept_told : (floor high : ℕ) (told : Option (List Span)) → IfSome told (λ ws. Holds floor high ws) → told ≡ option_map (windows_between floor high) told
kept_told floor high None h = refl
kept_told floor high (Some ws) h = ap Some (sym (rises_all floor floor high ws (timeline_rises floor ws h.chained) (omega arith) (omega (arith, h.ends))))

-- a log that keeps all its windows is one of which some may be dropped
same_dropped : (scn : ℕ) (old new : LogState) → IsLog old → SameLog old new → Dropped scn old new
same_dropped scn old new l same =
    subst (λ s. Dropped scn old s) (sym same) (record { later = omega arith; upto = omega arith; high = refl; windows = kept_told old.floor old.high old.windows l.holds })

pub dropped_none : (scn : ℕ) (old new : LogState) → IsLog old → DropsWindows scn old new (Err logs.NoMemory) → DropsOrFails (Ok tt) scn old new
dropped_none scn old new l d = (same_dropped scn old new l d.leaves, λ each. absurd (each_told ⊥ old.room each d.all))

-- ---- the base is where a window ends

-- windows up to the SCN of one of them end there
pub ends_again : (floor upto base : ℕ) (ws : List Span) → Rises floor ws → base ≡ end_from floor (windows_between floor upto ws) → end_from floor (windows_between floor base ws) ≡ base
ends_again floor upto base ws r e =
    let n = length (windows_between floor upto ws) in
    let front : windows_between floor upto ws ≡ take n ws = rises_front floor upto ws r in
    let is : base ≡ end_from floor (take n ws) = e ∙ ap (end_from floor) front in
    ap (λ m. end_from floor (windows_between floor m ws)) is ∙ ap (end_from floor) (rises_upto_place floor n ws r) ∙ sym is

floor_in : (floor high upto base new : ℕ) (told : Option (List Span)) → is_some told ≡ true → IfSome told (λ ws. Holds floor high ws) → IfSome told (λ ws. base ≡ end_from floor (windows_between floor upto ws)) → IfSome told (λ ws. new ≡ end_from floor (windows_between floor base ws)) → new ≡ base
floor_in floor high upto base new None t h i b = absurd (true≢false (sym t))
floor_in floor high upto base new (Some ws) t h i b = b ∙ ends_again floor upto base ws (timeline_rises floor ws h.chained) i

-- the log begins at the new base, where it began at the old one
pub floor_is_base : (old new : LogState) (low upto base : ℕ) → is_some old.windows ≡ true → IsLog old → old.floor ≡ low → IfSome old.windows (λ held. base ≡ end_from low (windows_between low upto held)) → BeginsBehind base old new → new.floor ≡ base
floor_is_base old new low upto base told l e i b =
    floor_in old.floor old.high upto base new.floor old.windows told l.holds (subst (λ n. IfSome old.windows (λ held. base ≡ end_from n (windows_between n upto held))) (sym e) i) b
