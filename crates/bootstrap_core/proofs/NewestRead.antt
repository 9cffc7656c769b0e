-- The newest window behind a base up to an SCN, read one window after the other.
use Rattle.std.proofs.Common.{◌≡◌, ℕ, ◌<◌, ◌≤◌, max, List, Option, Some, None, IfSome, Ok, refl, sym, ap, subst, ◌∙◌, arith}
use Rattle.bus_types.specs.Window.{Span}
use Rattle.bus_types.specs.Timeline.{end_from, windows_between}
use Rattle.bus_types.proofs.Stretches.{timeline_rises, between_none}
use Rattle.bus_stores.specs.Log.{LogState, IsLog, Holds, first_after}
use Rattle.bus_stores.proofs.Ahead.{Unmoved, unmoved_none, unmoved_more}
use Rattle.bootstrap_core.specs.Trimming.{scn_upto, ReadsUpto, ReadsNewest}
use Rattle.bootstrap_core.proofs.StretchEnds.{upto_some, upto_none}

-- a window was found behind a base up to an SCN, and what is behind it is still to be read
pub record NewestSo (base found upto : ℕ) (old now : LogState) : Type 0 where
  pub unmoved : Unmoved old now
  pub low : base ≤ found
  pub high : found ≤ max base upto
  pub is : IfSome old.windows (λ ws. end_from base (windows_between base upto ws) ≡ end_from found (windows_between found upto ws))

is_none : (base upto : ℕ) (told : Option (List Span)) → IfSome told (λ ws. end_from base (windows_between base upto ws) ≡ end_from base (windows_between base upto ws))
is_none base upto None = tt
is_none base upto (Some ws) = refl

pub newest_none : (base upto : ℕ) (old : LogState) → NewestSo base base upto old old
newest_none base upto old = record { unmoved = unmoved_none old; low = omega arith; high = omega arith; is = is_none base upto old.windows }

-- what is to be read next is behind the floor
pub newest_behind : (base found upto : ℕ) (old now : LogState) → old.floor ≤ base → NewestSo base found upto old now → now.floor ≤ found
newest_behind base found upto old now low s = omega (arith, ap (λ (l : LogState). l.floor) s.unmoved.same, s.low)

is_more : (base found upto floor high n : ℕ) (told : Option (List Span)) → found < n
    → IfSome told (λ ws. Holds floor high ws)
    → IfSome told (λ ws. Some n ≡ scn_upto upto (first_after found ws))
    → IfSome told (λ ws. end_from base (windows_between base upto ws) ≡ end_from found (windows_between found upto ws))
    → IfSome told (λ ws. end_from base (windows_between base upto ws) ≡ end_from n (windows_between n upto ws))
is_more base found upto floor high n None above h e s = tt
is_more base found upto floor high n (Some ws) above h e s = s ∙ upto_some floor found upto n ws (timeline_rises floor ws h.chained) above e

-- one window more
pub newest_more : (base found upto n : ℕ) (old now new : LogState) → IsLog old → NewestSo base found upto old now → ReadsUpto found upto now new (Ok (Some n)) → NewestSo base n upto old new
newest_more base found upto n old now new log s r =
    let above = r.within.0 in
    let within = r.within.1 in
    let told = subst (λ windows. IfSome windows (λ ws. Some n ≡ scn_upto upto (first_after found ws))) (ap (λ (l : LogState). l.windows) s.unmoved.same) r.told in
    record {
      unmoved = unmoved_more old now new (Ok (Some n)) s.unmoved r.counts r.same;
      low = omega (arith, s.low);
      high = omega (arith, s.high);
      is = is_more base found upto old.floor old.high n old.windows above log.holds told s.is;
    }

is_done : (base found upto floor high : ℕ) (told : Option (List Span))
    → IfSome told (λ ws. Holds floor high ws)
    → IfSome told (λ ws. None ≡ scn_upto upto (first_after found ws))
    → IfSome told (λ ws. end_from base (windows_between base upto ws) ≡ end_from found (windows_between found upto ws))
    → IfSome told (λ ws. found ≡ end_from base (windows_between base upto ws))
is_done base found upto floor high None h e s = tt
is_done base found upto floor high (Some ws) h e s = sym (s ∙ ap (end_from found) (upto_none floor found upto ws (timeline_rises floor ws h.chained) e))

-- none is left
pub newest_done : (base found upto : ℕ) (old now new : LogState) → IsLog old → NewestSo base found upto old now → ReadsUpto found upto now new (Ok None) → ReadsNewest base upto old new (Ok found)
newest_done base found upto old now new log s r =
    let told = subst (λ windows. IfSome windows (λ ws. None ≡ scn_upto upto (first_after found ws))) (ap (λ (l : LogState). l.windows) s.unmoved.same) r.told in
    let u = unmoved_more old now new (Ok None) s.unmoved r.counts r.same in
    record {
      counts = record { faults = u.later; failed = tt; sound = tt; room = ap (λ (l : LogState). l.room) u.same };
      same = u.same;
      low = s.low;
      high = s.high;
      is = is_done base found upto old.floor old.high old.windows log.holds told s.is;
      roomy = tt;
    }

is_full : (base found upto : ℕ) (told : Option (List Span)) → upto ≤ found
    → IfSome told (λ ws. end_from base (windows_between base upto ws) ≡ end_from found (windows_between found upto ws))
    → IfSome told (λ ws. found ≡ end_from base (windows_between base upto ws))
is_full base found upto None above s = tt
is_full base found upto (Some ws) above s = sym (s ∙ ap (end_from found) (between_none found upto ws above))

-- none can be left
pub newest_full : (base found upto : ℕ) (old now : LogState) → upto ≤ found → NewestSo base found upto old now → ReadsNewest base upto old now (Ok found)
newest_full base found upto old now above s = record {
  counts = record { faults = s.unmoved.later; failed = tt; sound = tt; room = ap (λ (l : LogState). l.room) s.unmoved.same };
  same = s.unmoved.same;
  low = s.low;
  high = s.high;
  is = is_full base found upto old.windows above s.is;
  roomy = tt;
}
