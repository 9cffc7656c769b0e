-- Windows that are read from a log, one after the other.
use Rattle.std.proofs.Common.{◌≡◌, ℕ, suc, ◌-◌, ◌<◌, ◌≤◌, inl, inr, List, [], ◌∷◌, ◌++◌, append-nil, append_assoc, length, length-append, take, Vec, Option, Some, None, IfSome, Result, Ok, refl, sym, ap, subst, ◌∙◌, arith}
use Rattle.std.specs.Global.{Global}
use Rattle.std.proofs.lemmas.Bool.{cases_lt}
use Rattle.std.proofs.lemmas.List.{take_all}
use Rattle.bus_types.specs.Window.{Span}
use Rattle.bus_types.specs.Timeline.{end_from, windows_between}
use Rattle.bus_types.proofs.Stretches.{timeline_rises, end_from-append, between_none}
use Rattle.bus_stores.specs.declared.log.LogFault.{LogFault}
use Rattle.bus_stores.specs.Log.{LogState, IsLog, Holds, LogCounts, SameLog, ReadsNext, Bounds, at_rest, first_after}
use Rattle.bus_stores.specs.Following.{RiseBetween, ReadsWindows}
use Rattle.bus_stores.proofs.KeptWindows.{between_first}

-- ---- a log that was read

-- it is as it was but for its count
pub record Unmoved (old now : LogState) : Type 0 where
  pub same : SameLog old now
  pub later : old.faults ≤ now.faults

pub unmoved_none : (s : LogState) → Unmoved s s
unmoved_none s = record { same = refl; later = omega arith }

same_on : (old now new : LogState) → SameLog old now → SameLog now new → SameLog old new
same_on old now new s t = t ∙ ap (λ (m : LogState). record m { faults = new.faults }) s

-- one read more
pub unmoved_more : {X : Type 0} (old now new : LogState) (result : Result X LogFault) → Unmoved old now → LogCounts now new result → SameLog now new → Unmoved old new
unmoved_more old now new result u c s = record { same = same_on old now new u.same s; later = omega (arith, u.later, c.faults) }

-- what a crash leaves
both_told : (A B C : List Span → Type 0) (told : Option (List Span)) → ((ws : List Span) → A ws → B ws → C ws) → IfSome told A → IfSome told B → IfSome told C
both_told A B C None join p q = tt
both_told A B C (Some ws) join p q = join ws p q

-- what a crash leaves of a log that rests, up to a read and then in it
pub rests_on : (A B C : List Span → Bounds → Type 0) (old now : LogState) → ((ws : List Span) (b : Bounds) → A ws b → B ws b → C ws b) → SameLog old now
    → IfSome old.windows (λ ws. A ws (at_rest old)) → IfSome now.windows (λ ws. B ws (at_rest now)) → IfSome old.windows (λ ws. C ws (at_rest old))
rests_on A B C old now join same p q =
    both_told (λ ws. A ws (at_rest old)) (λ ws. B ws (at_rest old)) (λ ws. C ws (at_rest old)) old.windows (λ ws a b. join ws (at_rest old) a b) p
    (subst (λ (s : LogState). IfSome s.windows (λ ws. B ws (at_rest s))) same q)

-- ---- what was read

rise_more : (scn high : ℕ) (found : List Span) (w : Span) → RiseBetween scn high found → end_from scn found < w.scn → w.scn ≤ high → RiseBetween scn high (found ++ w ∷ [])
rise_more scn high [] w r l h = (l, h, tt)
rise_more scn high (v ∷ vs) w r l h = (r.0, r.1, rise_more v.scn high vs w r.2 l h)

rise_end : (scn high : ℕ) (found : List Span) → RiseBetween scn high found → scn ≤ end_from scn found
rise_end scn high [] r = omega arith
rise_end scn high (w ∷ ws) r = omega (arith, r.0, rise_end w.scn high ws r.2)

-- the windows that were read behind an SCN, and those that are still to be read behind another
pub record ReadUpto (scn at most : ℕ) (old : LogState) (found : List Span) : Type 0 where
  pub rising : RiseBetween scn old.high found
  pub few : length found ≤ most
  pub ends : end_from scn found ≡ at
  pub told : IfSome old.windows (λ ws. found ++ take (most - length found) (windows_between at old.high ws) ≡ take most (windows_between scn old.high ws))

-- what is to be read next is behind the floor
pub reads_behind : (scn at most : ℕ) (old now : LogState) (found : List Span) → old.floor ≤ scn → Unmoved old now → ReadUpto scn at most old found → now.floor ≤ at
reads_behind scn at most old now found low u r = omega (arith, ap (λ (s : LogState). s.floor) u.same, rise_end scn old.high found r.rising, r.ends)

told_none : (scn most high : ℕ) (told : Option (List Span)) → IfSome told (λ ws. [] ++ take (most - 0) (windows_between scn high ws) ≡ take most (windows_between scn high ws))
told_none scn most high None = tt
told_none scn most high (Some ws) = let all : most - 0 ≡ most = omega arith in ap (λ n. take n (windows_between scn high ws)) all

pub read_none : (scn most : ℕ) (old : LogState) → ReadUpto scn scn most old []
read_none scn most old = record { rising = tt; few = omega arith; ends = refl; told = told_none scn most old.high old.windows }

told_more : (scn at most floor high : ℕ) (found : List Span) (w : Span) (told : Option (List Span)) → length found < most → at < w.scn
    → IfSome told (λ ws. Holds floor high ws) → IfSome told (λ ws. Some w ≡ first_after at ws)
    → IfSome told (λ ws. found ++ take (most - length found) (windows_between at high ws) ≡ take most (windows_between scn high ws))
    → IfSome told (λ ws. (found ++ w ∷ []) ++ take (most - length (found ++ w ∷ [])) (windows_between w.scn high ws) ≡ take most (windows_between scn high ws))
told_more scn at most floor high found w None few l h e t = tt
told_more scn at most floor high found w (Some ws) few l h e t =
    let rest = windows_between w.scn high ws in
    let long = length-append found (w ∷ []) in
    let left : suc (most - length (found ++ w ∷ [])) ≡ most - length found = omega arith in
    let next : windows_between at high ws ≡ w ∷ rest = subst (λ n. windows_between at n ws ≡ w ∷ windows_between w.scn n ws) h.ends (between_first floor at ws w (timeline_rises floor ws h.chained) l (sym e)) in
    append_assoc found (w ∷ []) (take (most - length (found ++ w ∷ [])) rest)
    ∙ ap (λ n. found ++ take n (w ∷ rest)) left
    ∙ ap (λ stretch. found ++ take (most - length found) stretch) (sym next)
    ∙ t

-- one window more
pub read_more : (scn at most : ℕ) (old now new : LogState) (found more : List Span) (w : Span) → IsLog old → Unmoved old now → ReadsNext at now new (Ok (Some w)) → length found < most → more ≡ found ++ w ∷ [] → ReadUpto scn at most old found → ReadUpto scn w.scn most old more
read_more scn at most old now new found more w log u n few e r =
    let high = ap (λ (s : LogState). s.high) u.same in
    let above : at < w.scn = n.found.window.0 in
    let told = subst (λ windows. IfSome windows (λ ws. Some w ≡ first_after at ws)) (ap (λ (s : LogState). s.windows) u.same) n.told in
    subst (ReadUpto scn w.scn most old) (sym e) (record {
      rising = rise_more scn old.high found w r.rising (omega (arith, r.ends)) (omega (arith, n.found.window.1));
      few = omega (arith, length-append found (w ∷ []));
      ends = end_from-append scn found (w ∷ []);
      told = told_more scn at most old.floor old.high found w old.windows few above log.holds told r.told;
    })

told_done : (scn at most high : ℕ) (found : List Span) (told : Option (List Span)) → (length found < most → high ≤ at) → length found ≤ most
    → IfSome told (λ ws. found ++ take (most - length found) (windows_between at high ws) ≡ take most (windows_between scn high ws))
    → IfSome told (λ ws. found ≡ take most (windows_between scn high ws))
told_done scn at most high found None h few t = tt
told_done scn at most high found (Some ws) h few t =
    let left = most - length found in
    elim (cases_lt (length found) most) [
      | inl l ↦
          let none = ap (take left) (between_none at high ws (h l)) ∙ take_all left [] (omega arith) in
          sym (append-nil found) ∙ ap (λ rest. found ++ rest) (sym none) ∙ t
      | inr l ↦
          let none : left ≡ 0 = omega arith in
          sym (append-nil found) ∙ ap (λ n. found ++ take n (windows_between at high ws)) (sym none) ∙ t
    ]

-- all was read that was asked for, or that there is
pub read_done : (scn at most : ℕ) (old now : LogState) (found : Vec Span Global) → (length found.items < most → old.high ≤ at) → Unmoved old now → ReadUpto scn at most old found.items → ReadsWindows scn most old now (Ok found)
read_done scn at most old now found h u r = record {
  counts = record { faults = u.later; failed = tt; sound = tt; room = ap (λ (s : LogState). s.room) u.same };
  same = u.same;
  found = record { rising = r.rising; few = r.few; all = λ l. let left = h l in omega (arith, r.ends) };
  told = told_done scn at most old.high found.items old.windows h r.few r.told;
  roomy = tt;
}
