-- Windows that are read one after the other between two SCNs.
use Rattle.std.proofs.Common.{◌≡◌, ℕ, ◌<◌, ◌≤◌, inl, inr, nat_lt, nat_le, cond, ◌&&◌, List, [], ◌∷◌, ◌++◌, append-nil, append_assoc, flat_map, Option, Some, None, IfSome, refl, sym, ap, subst, ◌∙◌, arith}
use Rattle.std.specs.Prelude.{Ok}
use Rattle.std.proofs.lemmas.Bool.{cond-true, cond-false, lt-ltb, le-ltb, cases_lt}
use Rattle.std.proofs.lemmas.List.Concat.{flat_map-append}
use Rattle.std.proofs.lemmas.Option.{same_Some}
use Rattle.bus_types.specs.declared.change.Change.{Change}
use Rattle.bus_types.specs.declared.row.Cursor.{Cursor}
use Rattle.bus_types.specs.Change.{Test}
use Rattle.bus_types.specs.Window.{Span}
use Rattle.bus_types.specs.Timeline.{end_from, windows_between}
use Rattle.bus_types.specs.Latest.{Latest}
use Rattle.bus_types.proofs.Stretches.{Rises, timeline_rises, rises_before, rises_from, between_in, between_below, between_above, between_cases, between_none, end_from-append}
use Rattle.bus_stores.specs.Log.{LogState, IsLog, Holds, ReadsNext, SameLog, first_after}
use Rattle.bus_stores.specs.Following.{RiseBetween}
use Rattle.delta_consolidate.specs.Latest.{kept_with, kept_after}
use Rattle.delta_consolidate.specs.Gathering.{IsNext, FindsNext, GatheredFrom}

-- of the windows between two SCNs, those between two further in
pub between_within : (floor low mid high : ℕ) (ws : List Span) → floor ≤ low → mid ≤ high → windows_between low mid (windows_between floor high ws) ≡ windows_between low mid ws
between_within floor low mid high [] l h = refl
between_within floor low mid high (w ∷ ws) l h =
    let rest = between_within floor low mid high ws l h in
    between_cases (λ kept. windows_between low mid kept ≡ windows_between low mid (w ∷ ws)) floor high w ws
    (λ k u. ap (λ kept. cond (nat_lt low w.scn && nat_le w.scn mid) (w ∷ kept) kept) rest)
    (λ k. rest ∙ sym (between_below low mid w ws (omega (arith, k, l))))
    (λ u. rest ∙ sym (between_above low mid w ws (omega (arith, u, h))))

-- ---- the next window

-- it is the first of those up to an SCN, where it is one of them
next_in : (floor at target : ℕ) (ws : List Span) (w : Span) → Rises floor ws → at < w.scn → w.scn ≤ target → first_after at ws ≡ Some w → windows_between at target ws ≡ w ∷ windows_between w.scn target ws
next_in floor at target [] w r l h e = absurd cc
next_in floor at target (v ∷ ws) w r l h e =
    elim (cases_lt at v.scn) [
      | inl k ↦
          let same : v ≡ w = same_Some v w (sym (cond-true (nat_lt at v.scn) (Some v) (first_after at ws) (lt-ltb at v.scn k)) ∙ e) in
          let upto : v.scn ≤ target = omega (arith, h, ap (λ (u : Span). u.scn) same) in
          between_in at target v ws k upto ∙ ap (λ rest. v ∷ rest) (rises_from v.scn at v.scn target ws r.1 (omega arith) (omega arith) ∙ sym (between_below v.scn target v ws (omega arith)))
          ∙ ap (λ (u : Span). u ∷ windows_between u.scn target (v ∷ ws)) same
      | inr k ↦
          let further = sym (cond-false (nat_lt at v.scn) (Some v) (first_after at ws) (le-ltb at v.scn k)) ∙ e in
          between_below at target v ws k ∙ next_in v.scn at target ws w r.1 l h further ∙ ap (λ rest. w ∷ rest) (sym (between_below w.scn target v ws (omega arith)))
    ]

-- there is none up to an SCN that it is above
next_above : (floor at target : ℕ) (ws : List Span) (w : Span) → Rises floor ws → target < w.scn → first_after at ws ≡ Some w → windows_between at target ws ≡ []
next_above floor at target [] w r h e = refl
next_above floor at target (v ∷ ws) w r h e =
    elim (cases_lt at v.scn) [
      | inl k ↦
          let same : v ≡ w = same_Some v w (sym (cond-true (nat_lt at v.scn) (Some v) (first_after at ws) (lt-ltb at v.scn k)) ∙ e) in
          let above : target < v.scn = omega (arith, h, ap (λ (u : Span). u.scn) same) in
          between_above at target v ws above ∙ rises_before v.scn at target ws r.1 (omega arith)
      | inr k ↦
          let further = sym (cond-false (nat_lt at v.scn) (Some v) (first_after at ws) (le-ltb at v.scn k)) ∙ e in
          between_below at target v ws k ∙ next_above v.scn at target ws w r.1 h further
    ]

-- nor where no window is behind the lower SCN
next_none : (at target : ℕ) (ws : List Span) → first_after at ws ≡ None → windows_between at target ws ≡ []
next_none at target [] e = refl
next_none at target (v ∷ ws) e =
    elim (cases_lt at v.scn) [
      | inl k ↦ let both = sym (cond-true (nat_lt at v.scn) (Some v) (first_after at ws) (lt-ltb at v.scn k)) ∙ e in absurd cc
      | inr k ↦
          let further = sym (cond-false (nat_lt at v.scn) (Some v) (first_after at ws) (le-ltb at v.scn k)) ∙ e in
          between_below at target v ws k ∙ next_none at target ws further
    ]

told_next : (at target : ℕ) (floor high : ℕ) (told : Option (List Span)) (w : Span) → at < w.scn → w.scn ≤ target → IfSome told (λ ws. Holds floor high ws) → IfSome told (λ ws. Some w ≡ first_after at ws) → IfSome told (λ ws. IsNext at target ws (Some w))
told_next at target floor high None w l h holds e = tt
told_next at target floor high (Some ws) w l h holds e = next_in floor at target ws w (timeline_rises floor ws holds.chained) l h (sym e)

told_above : (at target : ℕ) (floor high : ℕ) (told : Option (List Span)) (w : Span) → target < w.scn → IfSome told (λ ws. Holds floor high ws) → IfSome told (λ ws. Some w ≡ first_after at ws) → IfSome told (λ ws. IsNext at target ws None)
told_above at target floor high None w h holds e = tt
told_above at target floor high (Some ws) w h holds e = next_above floor at target ws w (timeline_rises floor ws holds.chained) h (sym e)

told_none : (at target : ℕ) (told : Option (List Span)) → IfSome told (λ ws. None ≡ first_after at ws) → IfSome told (λ ws. IsNext at target ws None)
told_none at target None e = tt
told_none at target (Some ws) e = next_none at target ws (sym e)

pub finds_next : (at target : ℕ) (old new : LogState) (w : Span) → IsLog old → ReadsNext at old new (Ok (Some w)) → w.scn ≤ target → FindsNext at target old (Some w)
finds_next at target old new w log r h = record {
  within = (r.found.window.0, h);
  told = told_next at target old.floor old.high old.windows w r.found.window.0 h log.holds r.told;
}

pub finds_above : (at target : ℕ) (old new : LogState) (w : Span) → IsLog old → ReadsNext at old new (Ok (Some w)) → target < w.scn → FindsNext at target old None
finds_above at target old new w log r h = record {
  within = tt;
  told = told_above at target old.floor old.high old.windows w h log.holds r.told;
}

pub finds_none : (at target : ℕ) (old new : LogState) → ReadsNext at old new (Ok None) → FindsNext at target old None
finds_none at target old new r = record { within = tt; told = told_none at target old.windows r.told }

-- ---- the windows that were read

rise_more : (since target : ℕ) (windows : List Span) (w : Span) → RiseBetween since target windows → end_from since windows < w.scn → w.scn ≤ target → RiseBetween since target (windows ++ w ∷ [])
rise_more since target [] w r l h = (l, h, tt)
rise_more since target (v ∷ vs) w r l h = (r.0, r.1, rise_more v.scn target vs w r.2 l h)

-- the changes in two parts
after-append : (test : Test) (cursor : Cursor) (most : ℕ) (es : Latest) (cs ds : List Change) → kept_after test cursor most es (cs ++ ds) ≡ kept_after test cursor most (kept_after test cursor most es cs) ds
after-append test cursor most es [] ds = refl
after-append test cursor most es (c ∷ cs) ds = after-append test cursor most (kept_with test cursor most es c) cs ds

-- windows were read from an SCN on up to another, and their changes were taken
pub record Walked (test : Test) (cursor : Cursor) (most since at target : ℕ) (log : LogState) (es : Latest) : Type 0 where
  pub windows : List Span
  pub rising : RiseBetween since target windows
  pub ends : end_from since windows ≡ at
  pub low : since ≤ at
  pub some : es ≡ kept_after test cursor most [] (flat_map (λ w. w.changes) windows)
  pub all : IfSome log.windows (λ ws. windows ++ windows_between at target ws ≡ windows_between since target ws)

start_all : (since target : ℕ) (told : Option (List Span)) → IfSome told (λ ws. [] ++ windows_between since target ws ≡ windows_between since target ws)
start_all since target None = tt
start_all since target (Some ws) = refl

pub none_walked : (test : Test) (cursor : Cursor) (most since target : ℕ) (log : LogState) (es : Latest) → es ≡ [] → Walked test cursor most since since target log es
none_walked test cursor most since target log es e = record {
  windows = [];
  rising = tt;
  ends = refl;
  low = omega arith;
  some = e;
  all = start_all since target log.windows;
}

more_all : (since at target : ℕ) (windows : List Span) (w : Span) (told : Option (List Span)) → IfSome told (λ ws. IsNext at target ws (Some w)) → IfSome told (λ ws. windows ++ windows_between at target ws ≡ windows_between since target ws) → IfSome told (λ ws. (windows ++ w ∷ []) ++ windows_between w.scn target ws ≡ windows_between since target ws)
more_all since at target windows w None n h = tt
more_all since at target windows w (Some ws) n h = append_assoc windows (w ∷ []) (windows_between w.scn target ws) ∙ ap (λ l. windows ++ l) (sym n) ∙ h

same_told : (P : List Span → Type 0) (old now : LogState) → SameLog old now → IfSome now.windows P → IfSome old.windows P
same_told P old now same h = subst (λ told. IfSome told P) (ap (λ (s : LogState). s.windows) same) h

-- one window more
pub more_walked : (test : Test) (cursor : Cursor) (most since at target : ℕ) (old now : LogState) (w : Span) (es more : Latest)
    → SameLog old now → FindsNext at target now (Some w) → more ≡ kept_after test cursor most es w.changes
    → Walked test cursor most since at target old es → Walked test cursor most since w.scn target old more
more_walked test cursor most since at target old now w es more same found taken walked =
    let windows = walked.windows in
    record {
      windows = windows ++ w ∷ [];
      rising = rise_more since target windows w walked.rising (omega (arith, walked.ends, found.within.0)) found.within.1;
      ends = end_from-append since windows (w ∷ []);
      low = omega (arith, walked.low, found.within.0);
      some =
          taken ∙ ap (λ fs. kept_after test cursor most fs w.changes) walked.some
          ∙ sym (after-append test cursor most [] (flat_map (λ (v : Span). v.changes) windows) w.changes)
          ∙ ap (kept_after test cursor most []) (ap (λ l. flat_map (λ (v : Span). v.changes) windows ++ l) (sym (append-nil w.changes)) ∙ sym (flat_map-append (λ (v : Span). v.changes) windows (w ∷ [])));
      all = more_all since at target windows w old.windows (same_told (λ ws. IsNext at target ws (Some w)) old now same found.told) walked.all;
    }

done_all : (since at target : ℕ) (windows : List Span) (told : Option (List Span)) → IfSome told (λ ws. windows_between at target ws ≡ []) → IfSome told (λ ws. windows ++ windows_between at target ws ≡ windows_between since target ws) → IfSome told (λ ws. windows ≡ windows_between since target ws)
done_all since at target windows None n h = tt
done_all since at target windows (Some ws) n h = sym (append-nil windows) ∙ ap (λ l. windows ++ l) (sym n) ∙ h

none_above : (at target : ℕ) (told : Option (List Span)) → target ≤ at → IfSome told (λ ws. windows_between at target ws ≡ [])
none_above at target None h = tt
none_above at target (Some ws) h = between_none at target ws h

-- no window is left
pub all_walked : (test : Test) (cursor : Cursor) (most since at target : ℕ) (old now : LogState) (es : Latest) → SameLog old now → FindsNext at target now None → Walked test cursor most since at target old es → GatheredFrom test cursor most since target old es
all_walked test cursor most since at target old now es same found walked = record {
  windows = walked.windows;
  rising = walked.rising;
  some = walked.some;
  all = done_all since at target walked.windows old.windows (same_told (λ ws. IsNext at target ws None) old now same found.told) walked.all;
}

-- the upper SCN is reached
pub upto_walked : (test : Test) (cursor : Cursor) (most since at target : ℕ) (old : LogState) (es : Latest) → target ≤ at → Walked test cursor most since at target old es → GatheredFrom test cursor most since target old es
upto_walked test cursor most since at target old es h walked = record {
  windows = walked.windows;
  rising = walked.rising;
  some = walked.some;
  all = done_all since at target walked.windows old.windows (none_above at target old.windows h) walked.all;
}
