-- Bytes of disks are read in one way.
use Rattle.std.proofs.Common.{◌≡◌, ◌∙◌, ◌⊎◌, inl, inr, ⊎_elim, ℕ, List, [], ◌∷◌, ◌++◌, Some, None, Result, Ok, Err, sym, ap, subst, refl, arith}
use Rattle.std.specs.Prelude.{slice_get, ◌==◌, if◌then◌else◌, Vec}
use Rattle.std.specs.Global.{Global}
use Rattle.std.proofs.lemmas.Bool.{cases_eq, cases_lt, cond-true, eq-eqb}
use Rattle.std.proofs.lemmas.Option.{same_Some, none-some}
use Rattle.bus_types.specs.Window.{Span}
use Rattle.bus_types.specs.Timeline.{end_from}
use Rattle.log_disk.specs.Disk.{DiskState}
use Rattle.log_segment.specs.Image.{HoldsInUse}
use Rattle.log_segment.specs.Faults.{IsBadAt}
use Rattle.log_segment.proofs.OneReading.{windows_one, not_free, not_bad, free_not_bad, place_one}
use Rattle.log_store.specs.declared.opening.OpenLog.{OpenLog}
use Rattle.log_store.specs.declared.opening.OpenLog.TheVariants as opening
use Rattle.log_store.specs.Log.{IsIn, IsBefore, IsBeforeAll, AreInOrder, AreJoined, apart_behind, first_apart, windows_of, Run, end_of_run, HoldRuns, HoldLog, IsGood, IsFirstBad, AreBadAt}
use Rattle.log_store.specs.Opening.{AllTell, OpensLog, FindsSame, IsNotBad, LogNotOpened}
use Rattle.log_store.specs.Store.{StoreParts, log_of}
use Rattle.log_store.proofs.Orders.{not_before, before_in}
use Rattle.log_store.proofs.Holdings.{sorted_same}

-- ---- one order

is_in : (i : ℕ) (js : List ℕ) → IsIn i js ⊎ (IsIn i js → ⊥)
is_in i [] = inr (λ m. m)
is_in i (j ∷ js) = elim (cases_eq i j) [
  | inl same ↦ inl (inl same)
  | inr other ↦ ⊎_elim (λ m. inl (inr m)) (λ not. inr (⊎_elim other not)) (is_in i js)
]

never_both : (from : ℕ → ℕ) (i j : ℕ) → IsBefore from i j → IsBefore from j i → ⊥
never_both from i j a b =
    ⊎_elim (λ lt. ⊎_elim (λ more. omega (arith, lt, more)) (λ m. omega (arith, lt, m.0)) b) (λ n. ⊎_elim (λ more. omega (arith, n.0, more)) (λ m. omega (arith, n.1, m.1)) b) a

first_one : (from : ℕ → ℕ) (i j : ℕ) (is js : List ℕ) → IsBeforeAll from i is → IsBeforeAll from j js → IsIn i (j ∷ js) → IsIn j (i ∷ is) → i ≡ j
first_one from i j is js before after m n =
    ⊎_elim (λ e. e) (λ a. ⊎_elim (λ e. sym e) (λ b. absurd (never_both from i j (before_in from i j is before b) (before_in from j i js after a))) n) m

one_order : (from : ℕ → ℕ) (is js : List ℕ) → AreInOrder from is → AreInOrder from js → ((k : ℕ) → IsIn k is → IsIn k js) → ((k : ℕ) → IsIn k js → IsIn k is) → is ≡ js
one_order from [] [] a b to back = refl
one_order from [] (j ∷ js) a b to back = absurd (back j (inl refl))
one_order from (i ∷ is) [] a b to back = absurd (to i (inl refl))
one_order from (i ∷ is) (j ∷ js) a b to back =
    let same = first_one from i j is js a.0 b.0 (to i (inl refl)) (back j (inl refl)) in
    let rest = one_order from is js a.1 b.1
    (λ k m. ⊎_elim (λ e. absurd (not_before from i (subst (λ n. IsBefore from i n) (e ∙ sym same) (before_in from i k is a.0 m)))) (λ n. n) (to k (inr m)))
    (λ k m. ⊎_elim (λ e. absurd (not_before from j (subst (λ n. IsBefore from j n) (e ∙ same) (before_in from j k js b.0 m)))) (λ n. n) (back k (inr m))) in
    λ t. same t ∷ rest t

module _ (r s : ℕ → Run) (o p : List ℕ) (images : List (List ℕ)) (a : HoldRuns r o images) (b : HoldRuns s p images) where
  member : (i : ℕ) → IsIn i o → IsIn i p
  member i m = ⊎_elim (λ n. n) (λ not. let u = a.used i m in absurd (not_free u.0 (r i).from (r i).windows u.2 (b.free i u.0 u.1 not))) (is_in i p)

  same_run : (i : ℕ) → IsIn i o → ((r i).from ≡ (s i).from) × ((r i).windows ≡ (s i).windows)
  same_run i m =
      let u = a.used i m in
      let v = b.used i (member i m) in
      windows_one u.0 (r i).from (s i).from (r i).windows (s i).windows u.2 (subst (HoldsInUse (s i).from (s i).windows) (same_Some v.0 u.0 (sym v.1 ∙ u.1)) v.2)

module _ (r s : ℕ → Run) (o p : List ℕ) (images : List (List ℕ)) (a : HoldRuns r o images) (b : HoldRuns s p images) where
  same_order : o ≡ p
  same_order =
      one_order (λ i. (r i).from) o p a.sorted
      (sorted_same (λ i. (s i).from) (λ i. (r i).from) p (λ i m. sym (same_run s r p o images b a i m).0) b.sorted) (member r s o p images a b) (member s r p o images b a)

-- ---- one log

windows_same : (r s : ℕ → Run) (is : List ℕ) → ((i : ℕ) → IsIn i is → ((r i).from ≡ (s i).from) × ((r i).windows ≡ (s i).windows)) → windows_of (λ i. (r i).windows) is ≡ windows_of (λ i. (s i).windows) is
windows_same r s [] same = refl
windows_same r s (i ∷ is) same = λ t. (same i (inl refl)).1 t ++ windows_same r s is (λ j m. same j (inr m)) t

end_same : (r s : Run) → (r.from ≡ s.from) × (r.windows ≡ s.windows) → end_of_run r ≡ end_of_run s
end_same r s same = λ t. end_from (same.0 t) (same.1 t)

abbrev begin : (ℕ → Run) → ℕ → ℕ
begin r i = (r i).from

abbrev ending : (ℕ → Run) → ℕ → ℕ
ending r i = end_of_run (r i)

high_same : (r s : ℕ → Run) (low low2 high high2 : ℕ) (is : List ℕ) → ((i : ℕ) → IsIn i is → ((r i).from ≡ (s i).from) × ((r i).windows ≡ (s i).windows)) → low ≡ low2
    → AreJoined (begin r) (ending r) low is high → AreJoined (begin s) (ending s) low2 is high2 → high ≡ high2
high_same r s low low2 high high2 [] same lows a b = sym a ∙ lows ∙ b
high_same r s low low2 high high2 (i ∷ is) same lows a b = high_same r s (ending r i) (ending s i) high high2 is (λ j m. same j (inr m)) (end_same (r i) (s i) (same i (inl refl))) a.1 b.1

low_same : (r s : ℕ → Run) (low low2 high high2 : ℕ) (is : List ℕ) → ((i : ℕ) → IsIn i is → ((r i).from ≡ (s i).from) × ((r i).windows ≡ (s i).windows)) → (is ≡ [] → low ≡ 0) → (is ≡ [] → low2 ≡ 0)
    → AreJoined (begin r) (ending r) low is high → AreJoined (begin s) (ending s) low2 is high2 → low ≡ low2
low_same r s low low2 high high2 [] same zero zero2 a b = zero refl ∙ sym (zero2 refl)
low_same r s low low2 high high2 (i ∷ is) same zero zero2 a b = sym a.0 ∙ (same i (inl refl)).0 ∙ b.0

module _ (images : List (List ℕ)) where
  pub one_log : (low high low2 high2 : ℕ) (ws vs : List Span) → HoldLog low high ws images → HoldLog low2 high2 vs images → (low ≡ low2) × (high ≡ high2) × (ws ≡ vs)
  one_log low high low2 high2 ws vs a b =
      let order : b.order ≡ a.order = same_order b.runs a.runs b.order a.order images b.hold a.hold in
      let same = same_run a.runs b.runs a.order b.order images a.hold b.hold in
      let joined : AreJoined (begin b.runs) (ending b.runs) low2 a.order high2 = subst (λ (o : List ℕ). AreJoined (begin b.runs) (ending b.runs) low2 o high2) order b.joined in
      let lows = low_same a.runs b.runs low low2 high high2 a.order same a.empty (λ e. b.empty (order ∙ e)) a.joined joined in (
        lows,
        high_same a.runs b.runs low low2 high high2 a.order same lows a.joined joined,
        a.windows ∙ windows_same a.runs b.runs a.order same ∙ ap (windows_of (λ i. (b.runs i).windows)) (sym order) ∙ sym b.windows,
      )

  -- ---- never both

  run_good : (r : ℕ → Run) (o : List ℕ) → HoldRuns r o images → (i place : ℕ) (c : List ℕ) → slice_get images i ≡ Some c → IsBadAt place c → ⊥
  run_good r o h i place c at bad =
      ⊎_elim (λ m. let u = h.used i m in not_bad c (r i).from place (r i).windows (subst (HoldsInUse (r i).from (r i).windows) (same_Some u.0 c (sym u.1 ∙ at)) u.2) bad)
      (λ not. free_not_bad c place (h.free i c at not) bad) (is_in i o)

  none_apart : (from to : ℕ → ℕ) (low high : ℕ) (is : List ℕ) → AreJoined from to low is high → apart_behind from to low is ≡ None
  none_apart from to low high [] h = refl
  none_apart from to low high (i ∷ is) h = cond-true (from i == low) (apart_behind from to (to i) is) (Some i) (eq-eqb (from i) low h.0) ∙ none_apart from to (to i) high is h.1

  none_first : (from to : ℕ → ℕ) (low high : ℕ) (is : List ℕ) → AreJoined from to low is high → first_apart from to is ≡ None
  none_first from to low high [] h = refl
  none_first from to low high (i ∷ is) h = none_apart from to (to i) high is h.1

  first_same : (r s : ℕ → Run) (is : List ℕ) → ((i : ℕ) → IsIn i is → ((r i).from ≡ (s i).from) × ((r i).windows ≡ (s i).windows)) → first_apart (begin r) (ending r) is ≡ first_apart (begin s) (ending s) is
  first_same r s [] same = refl
  first_same r s (i ∷ is) same = behind (ending r i) (ending s i) is (λ j m. same j (inr m)) (end_same (r i) (s i) (same i (inl refl)))
    where
      behind : (low low2 : ℕ) (js : List ℕ) → ((j : ℕ) → IsIn j js → ((r j).from ≡ (s j).from) × ((r j).windows ≡ (s j).windows)) → low ≡ low2
          → apart_behind (begin r) (ending r) low js ≡ apart_behind (begin s) (ending s) low2 js
      behind low low2 [] same lows = refl
      behind low low2 (j ∷ js) same lows =
          let e = same j (inl refl) in
          λ t. if e.0 t == lows t then behind (ending r j) (ending s j) js (λ k m. same k (inr m)) (end_same (r j) (s j) e) t else Some j

  pub never_bad : (low high segment place : ℕ) (ws : List Span) → HoldLog low high ws images → AreBadAt segment place images → ⊥
  never_bad low high segment place ws a bad =
      ⊎_elim (λ b. run_good a.runs a.order a.hold segment place b.bytes b.stands b.bad)
      (λ b.
      let h = b.1 in
      let order : a.order ≡ h.order = same_order a.runs h.runs a.order h.order images a.hold h.hold in
      let same = same_run a.runs h.runs a.order h.order images a.hold h.hold in
      none-some segment (sym (none_first (begin a.runs) (ending a.runs) low high a.order a.joined) ∙ first_same a.runs h.runs a.order same ∙ ap (first_apart (begin h.runs) (ending h.runs)) order ∙ h.apart))
      bad

  -- ---- one place

  good_not_bad : (c : List ℕ) (place : ℕ) → IsGood c → IsBadAt place c → ⊥
  good_not_bad c place good bad = ⊎_elim (λ f. free_not_bad c place f bad) (λ u. not_bad c u.0 place u.1 u.2 bad) good

  both_first : (segment place segment2 place2 : ℕ) → IsFirstBad segment place images → IsFirstBad segment2 place2 images → (segment ≡ segment2) × (place ≡ place2)
  both_first segment place segment2 place2 a b =
      elim (cases_lt segment segment2) [
        | inl lt ↦ absurd (good_not_bad a.bytes place (b.before segment a.bytes lt a.stands) a.bad)
        | inr le ↦ elim (cases_lt segment2 segment) [
          | inl less ↦ absurd (good_not_bad b.bytes place2 (a.before segment2 b.bytes less b.stands) b.bad)
          | inr more ↦
              let same : segment ≡ segment2 = omega (arith, le, more) in
              let bytes : b.bytes ≡ a.bytes = same_Some b.bytes a.bytes (sym b.stands ∙ ap (slice_get images) (sym same) ∙ a.stands) in
              (same, place_one a.bytes place place2 a.bad (subst (IsBadAt place2) bytes b.bad))
        ]
      ]

  pub one_place : (segment place segment2 place2 : ℕ) → AreBadAt segment place images → AreBadAt segment2 place2 images → (segment ≡ segment2) × (place ≡ place2)
  one_place segment place segment2 place2 x y =
      ⊎_elim
      (λ a. ⊎_elim (both_first segment place segment2 place2 a) (λ b. absurd (run_good b.1.runs b.1.order b.1.hold segment place a.bytes a.stands a.bad)) y)
      (λ a. ⊎_elim (λ b. absurd (run_good a.1.runs a.1.order a.1.hold segment2 place2 b.bytes b.stands b.bad))
      (λ b.
      let h = a.1 in
      let k = b.1 in
      let order : h.order ≡ k.order = same_order h.runs k.runs h.order k.order images h.hold k.hold in
      let same = same_run h.runs k.runs h.order k.order images h.hold k.hold in
      (same_Some segment segment2 (sym h.apart ∙ first_same h.runs k.runs h.order same ∙ ap (first_apart (begin k.runs) (ending k.runs)) order ∙ k.apart), a.0 ∙ sym b.0)) y)
      x

-- ---- so an opening finds them

module _ {D : Type 0} (state : D → DiskState) (disks : List D) where
  not_bad_fault : (f : OpenLog) (old new : List D) → LogNotOpened state f old new → (images : List (List ℕ)) (low high : ℕ) (ws : List Span) → AllTell state old images → HoldLog low high ws images → IsNotBad f
  not_bad_fault (opening.BadSegment segment place) old new h images low high ws tell holds = never_bad images low high segment place ws holds (h.cause images tell)
  not_bad_fault opening.Failed old new h images low high ws tell holds = tt
  not_bad_fault opening.NoMemory old new h images low high ws tell holds = tt

  pub finds_same : (r : Result (StoreParts D) (OpenLog × Vec D Global)) → OpensLog state disks r → FindsSame state disks r
  finds_same (Ok log) h = λ images low high ws tell holds.
      let f = h.finds images tell in
      let one = one_log images (log_of state log).floor (log_of state log).high low high f.windows ws f.holds holds in
      record { floor = one.0; high = one.1; windows = f.told ∙ ap Some one.2 }
  finds_same (Err x) h = λ images low high ws tell holds. not_bad_fault x.0 disks x.1.items h images low high ws tell holds
