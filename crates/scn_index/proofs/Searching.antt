-- A search that halves what it looks through.
use Rattle.std.proofs.Common.{◌≡◌, ℕ, suc, ◌+◌, ◌-◌, ◌*◌, ◌/◌, ◌^◌, ◌<◌, ◌≤◌, inl, inr, List, length, get_or, Option, Some, None, refl, sym, ap, subst, ◌∙◌, arith, mul-le-mul_left, mul_assoc, mul_comm, pow-suc}
use Rattle.std.specs.Prelude.{MatchOption, slice_get}
use Rattle.std.proofs.lemmas.Bool.{cases_lt}
use Rattle.std.proofs.lemmas.Option.{get_or_from_slice_get, slice_get_within}
use Rattle.scn_index.specs.Index.{AreRising, AreAbove, IsGreatest, IsQuick}

-- what is found so far is the entry before a place
abbrev pub IsBefore : List (ℕ × ℕ) → ℕ → Option (ℕ × ℕ) → Type 0
IsBefore es low None = low ≡ 0
IsBefore es low (Some e) = (0 < low) × (slice_get es (low - 1) ≡ Some e)

-- the entries before low are at or below the SCN, and those from high on are above it
pub record Searches (scn : ℕ) (es : List (ℕ × ℕ)) (low high : ℕ) (found : Option (ℕ × ℕ)) : Type 0 where
  pub order : low ≤ high
  pub within : high ≤ length es
  pub before : IsBefore es low found
  pub below : (k : ℕ) (d : ℕ × ℕ) → k < low → (get_or es k d).0 ≤ scn
  pub above : (k : ℕ) (d : ℕ × ℕ) → high ≤ k → k < length es → scn < (get_or es k d).0

-- nothing was read
pub searches_all : (scn : ℕ) (es : List (ℕ × ℕ)) (n : ℕ) → n ≡ length es → Searches scn es 0 n None
searches_all scn es n e = record {
  order = omega arith;
  within = omega arith;
  before = refl;
  below = λ k d lt. absurd (omega arith);
  above = λ k d le lt. absurd (omega arith);
}

-- the entry in the middle is at or below the SCN
pub searches_high : (scn : ℕ) (es : List (ℕ × ℕ)) (low high middle : ℕ) (found : Option (ℕ × ℕ)) (e : ℕ × ℕ) → AreRising es → middle < high → slice_get es middle ≡ Some e → e.0 ≤ scn → Searches scn es low high found
    → Searches scn es (middle + 1) high (Some e)
searches_high scn es low high middle found e rising lt is upto s =
    let at : (d : ℕ × ℕ) → get_or es middle d ≡ e = λ d. get_or_from_slice_get es middle e d is in
    let same : (middle + 1) - 1 ≡ middle = omega arith in
    record {
      order = omega arith;
      within = s.within;
      before = (omega arith, ap (slice_get es) same ∙ is);
      below = λ k d small. elim (cases_lt k middle) [
        | inl less ↦ (let first = rising k middle d less (omega (arith, s.within)) in let here = ap (λ (x : ℕ × ℕ). x.0) (at d) in omega (arith, first, here, upto))
        | inr more ↦ (let this : k ≡ middle = omega arith in let here = ap (λ n. (get_or es n d).0) this ∙ ap (λ (x : ℕ × ℕ). x.0) (at d) in omega (arith, here, upto))
      ];
      above = s.above;
    }

-- the entry in the middle is above the SCN
pub searches_low : (scn : ℕ) (es : List (ℕ × ℕ)) (low high middle : ℕ) (found : Option (ℕ × ℕ)) (e : ℕ × ℕ) → AreRising es → low ≤ middle → middle < high → slice_get es middle ≡ Some e → scn < e.0 → Searches scn es low high found
    → Searches scn es low middle found
searches_low scn es low high middle found e rising le lt is over s =
    let at : (d : ℕ × ℕ) → get_or es middle d ≡ e = λ d. get_or_from_slice_get es middle e d is in
    record {
      order = le;
      within = omega (arith, s.within);
      before = s.before;
      below = s.below;
      above = λ k d from small. elim (cases_lt middle k) [
        | inl more ↦ (let first = rising middle k d more small in let here = ap (λ (x : ℕ × ℕ). x.0) (at d) in omega (arith, first, here, over))
        | inr less ↦ (let this : k ≡ middle = omega arith in let here = ap (λ n. (get_or es n d).0) this ∙ ap (λ (x : ℕ × ℕ). x.0) (at d) in omega (arith, here, over))
      ];
    }

-- nothing is left to read
pub searched : (scn : ℕ) (es : List (ℕ × ℕ)) (low high : ℕ) (found : Option (ℕ × ℕ)) → AreRising es → high ≤ low → Searches scn es low high found → MatchOption found (AreAbove scn es) (IsGreatest scn es)
searched scn es low high None rising over s = λ k d lt. s.above k d (omega (arith, s.order, s.before, over)) lt
searched scn es low high (Some e) rising over s =
    let at : (d : ℕ × ℕ) → get_or es (low - 1) d ≡ e = λ d. get_or_from_slice_get es (low - 1) e d s.before.1 in
    let some = s.before.0 in
    let last : low - 1 < length es = omega (arith, s.order, s.within) in
    let scn_of : (d : ℕ × ℕ) → (get_or es (low - 1) d).0 ≡ e.0 = λ d. ap (λ (x : ℕ × ℕ). x.0) (at d) in
    record {
      held = (low - 1, last, at e);
      upto = omega (arith, scn_of e, s.below (low - 1) e (omega arith));
      greatest = λ k d lt upto. elim (cases_lt k (low - 1)) [
        | inl less ↦ omega (arith, rising k (low - 1) d less last, scn_of d)
        | inr more ↦ elim (cases_lt k low) [
          | inl this ↦ (let same : k ≡ low - 1 = omega arith in omega (arith, ap (λ n. (get_or es n d).0) same, scn_of d))
          | inr later ↦ absurd (omega (arith, s.above k d (omega arith) lt, upto))
        ]
      ];
    }

-- ---- how many are read

-- so many entries were read of n, and the others are at most so many
pub record Reads (before now n left : ℕ) : Type 0 where
  pub later : before ≤ now
  pub halves : 2 ^ (now - before) * left ≤ n
  pub few : 2 ^ (now - before) ≤ 2 * n + 1

pub reads_none : (now n : ℕ) → Reads now now n n
reads_none now n =
    let none : now - now ≡ 0 = omega arith in
    record { later = omega arith; halves = rw none (omega arith); few = rw none (omega arith) }

halved : (power n left less : ℕ) → 2 * less ≤ left → power * left ≤ n → (2 * power) * less ≤ n
halved power n left less half h =
    let more = mul-le-mul_left power half in
    let same : (2 * power) * less ≡ power * (2 * less) = ap (λ k. k * less) (mul_comm 2 power) ∙ mul_assoc power 2 less in
    omega (arith, more, same, h)

counted : (power n left : ℕ) → 0 < left → power * left ≤ n → 2 * power ≤ 2 * n + 1
counted power n left some h =
    let more = mul-le-mul_left power some in
    omega (arith, more, h)

twice : (k : ℕ) → 2 ^ suc k ≡ 2 * 2 ^ k
twice k = omega (arith, pow-suc 2 k)

-- one more was read, and at most half of the others are left
pub reads_one : (before now next n left less : ℕ) → next ≡ now + 1 → 0 < left → 2 * less ≤ left → Reads before now n left → Reads before next n less
reads_one before now next n left less e some half r =
    let power : 2 ^ (next - before) ≡ 2 * 2 ^ (now - before) = (let more : next - before ≡ suc (now - before) = omega (arith, r.later) in ap (λ k. 2 ^ k) more ∙ twice (now - before)) in
    record {
      later = omega (arith, r.later);
      halves = rw power (halved (2 ^ (now - before)) n left less half r.halves);
      few = rw power (counted (2 ^ (now - before)) n left some r.halves);
    }

-- ---- one step of a search

-- a middle between two places, and what is left beside it
pub record Steps (scn : ℕ) (es : List (ℕ × ℕ)) (before next low high : ℕ) (found : Option (ℕ × ℕ)) : Type 0 where
  pub searches : Searches scn es low high found
  pub reads : Reads before next (length es) (high - low)

pub steps_on : (scn : ℕ) (es : List (ℕ × ℕ)) (before now next low high middle : ℕ) (found : Option (ℕ × ℕ)) (e : ℕ × ℕ) (low2 high2 : ℕ) (found2 : Option (ℕ × ℕ)) → AreRising es → low < high → middle ≡ low + (high - low) / 2 → slice_get es middle ≡ Some e → next ≡ now + 1
    → (e.0 ≤ scn → (low2 ≡ middle + 1) × (high2 ≡ high) × (found2 ≡ Some e)) → (scn < e.0 → (low2 ≡ low) × (high2 ≡ middle) × (found2 ≡ found))
    → Searches scn es low high found → Reads before now (length es) (high - low) → Steps scn es before next low2 high2 found2
steps_on scn es before now next low high middle found e low2 high2 found2 rising lt mid is more upper lower s r =
    elim (cases_lt scn e.0) [
      | inl over ↦ (
          let l = lower over in
          let whole = searches_low scn es low high middle found e rising (omega (arith, mid)) (omega (arith, mid)) is over s in
          let left : 2 * (high2 - low2) ≤ high - low = omega (arith, l.0, l.1, mid) in
          record {
            searches = subst (λ n. Searches scn es n high2 found2) (sym l.0) (subst (λ n. Searches scn es low n found2) (sym l.1) (subst (Searches scn es low middle) (sym l.2) whole));
            reads = reads_one before now next (length es) (high - low) (high2 - low2) more (omega arith) left r;
          })
      | inr upto ↦ (
          let u = upper upto in
          let whole = searches_high scn es low high middle found e rising (omega (arith, mid)) is upto s in
          let left : 2 * (high2 - low2) ≤ high - low = omega (arith, u.0, u.1, mid) in
          record {
            searches = subst (λ n. Searches scn es n high2 found2) (sym u.0) (subst (λ n. Searches scn es (middle + 1) n found2) (sym u.1) (subst (Searches scn es (middle + 1) high) (sym u.2) whole));
            reads = reads_one before now next (length es) (high - low) (high2 - low2) more (omega arith) left r;
          })
    ]
