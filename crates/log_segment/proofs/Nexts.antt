-- A window that a segment gives.
use Rattle.std.proofs.Common.{◌≡◌, ℕ, ◌+◌, ◌<◌, ◌≤◌, List, ◌∷◌, ◌++◌, length, drop, Option, Some, None, Result, Ok, Err, IfSome, refl, sym, ap, subst, ◌∙◌, arith}
use Rattle.bus_types.specs.Window.{Span, span_size}
use Rattle.bus_types.specs.Timeline.{Follows, IsTimelineFrom}
use Rattle.bus_stores.specs.Log.{first_after}
use Rattle.bus_stores.specs.declared.log.LogFault.{LogFault}
use Rattle.bus_stores.specs.declared.log.LogFault.TheVariants as faults
use Rattle.log_disk.specs.Disk.{DiskState}
use Rattle.log_segment.specs.declared.segment.Entry.{Entry}
use Rattle.log_segment.specs.Image.{records, record_bytes, whole}
use Rattle.log_segment.specs.Looking.{Looks}
use Rattle.log_segment.specs.Segment.{Numbers, SegmentParts, SegmentState, told, IsSegment, entries, Stands}
use Rattle.log_segment.specs.Lookup.{entry_after, Fetches, ReadsNext}
use Rattle.log_segment.proofs.Lookups.{none_some, some_after, none_after, Found, found_entry, none_entry, chain_at, record_within, record_at}

-- the segment whose disk was read
abbrev read : DiskState → Numbers → SegmentState
read d n = record { disk = d; numbers = n }

-- what stands rests, also after it was read
module _ (from : ℕ) (ws : List Span) (a b : DiskState) (m : Numbers) (l : Looks a b) where
  pub stands_read : Stands from ws (read a m) → Stands from ws (read b m)
  stands_read s = record {
    low = s.low;
    chained = s.chained;
    numbers = s.numbers;
    rests = record {
      bytes = s.rests.bytes;
      rests = record { seen = l.seen ∙ s.rests.rests.seen; only = λ c left. s.rests.rests.only c (l.now c left) };
      ends = s.rests.ends;
    };
  }

-- the oldest window behind an SCN of one that stands for windows
module _ (from : ℕ) (ws : List Span) (a : DiskState) (m : Numbers) (s : Stands from ws (read a m)) (scn : ℕ) where
  entries_is : entry_after m.floor scn m.index ≡ entry_after from scn (entries 18 ws)
  entries_is = λ i. entry_after (s.numbers i).floor scn (s.numbers i).index

  pub stands_none : entry_after m.floor scn m.index ≡ None → first_after scn ws ≡ None
  stands_none is = none_entry from 18 scn ws (sym entries_is ∙ is)

  module _ (p : ℕ) (e : Entry) (is : entry_after m.floor scn m.index ≡ Some (p, e)) where
    f : Found from 18 scn ws p e
    f = found_entry from 18 scn ws p e (sym entries_is ∙ is)

    follows : Follows p f.window
    follows = subst (λ (k : ℕ). Follows k f.window) (sym f.prev_is) (chain_at from f.front f.back f.window (subst (IsTimelineFrom from) f.parts s.chained))

    bytes_are : s.rests.bytes ≡ whole from (f.front ++ f.window ∷ f.back) ++ s.rests.ends.gate ∷ s.rests.ends.rest
    bytes_are = s.rests.ends.parts ∙ ap (λ (vs : List Span). whole from vs ++ s.rests.ends.gate ∷ s.rests.ends.rest) f.parts

    lies : drop e.place s.rests.bytes ≡ record_bytes f.window ++ (records f.back ++ s.rests.ends.gate ∷ s.rests.ends.rest)
    lies = (λ i. drop (f.place_is i) (bytes_are i)) ∙ record_at from f.front f.back f.window (s.rests.ends.gate ∷ s.rests.ends.rest)

    fits : e.place + span_size f.window + 4 ≤ m.used
    fits = omega (arith, f.place_is, record_within from f.front f.back f.window, ap (λ (n : Numbers). n.used) s.numbers, ap (λ (vs : List Span). length (whole from vs)) f.parts)

    pub stands_found : (found : Option Span) → IfSome a.seen (λ bytes. m.used ≤ length bytes) → IfSome a.seen (λ bytes. m.used ≤ length bytes → Fetches m.used e p bytes found) → found ≡ first_after scn ws
    stands_found found room fetches =
        let long = subst (λ (o : Option (List ℕ)). IfSome o (λ bytes. m.used ≤ length bytes)) s.rests.rests.seen room in
        let here = subst (λ (o : Option (List ℕ)). IfSome o (λ bytes. m.used ≤ length bytes → Fetches m.used e p bytes found)) s.rests.rests.seen fetches in
        here long f.window (records f.back ++ s.rests.ends.gate ∷ s.rests.ends.rest) follows f.scn_is lies fits ∙ sym f.first

    some_first : first_after scn ws ≡ Some f.window
    some_first = f.first

    pub not_lost : IfSome a.seen (λ bytes. m.used ≤ length bytes) → IfSome a.seen (λ bytes. m.used ≤ length bytes → Fetches m.used e p bytes None) → ⊥
    not_lost room fetches = none_some f.window (stands_found None room fetches ∙ some_first)

-- ---- each answer

module _ (scn : ℕ) (a b : DiskState) (m : Numbers) (is : IsSegment (read a m)) (l : Looks a b) where
  pub next_none : entry_after m.floor scn m.index ≡ None → ReadsNext scn (read a m) (read b m) (Ok None)
  next_none none = record {
    looks = l;
    failed = tt;
    later = omega arith;
    numbers = refl;
    found = record { window = tt; none = none_after m.high m.floor scn m.index is.rises none };
    told = λ from ws s. sym (stands_none from ws a m s scn none);
    stands = λ from ws s. stands_read from ws a b m l s;
    sure = λ from ws s. refl;
    roomy = tt;
  }

  pub next_failed : a.faults < b.faults → ReadsNext scn (read a m) (read b m) (Err faults.Failed)
  next_failed rose = record {
    looks = l;
    failed = omega (arith, rose);
    later = omega arith;
    numbers = refl;
    found = tt;
    told = λ from ws s. tt;
    stands = λ from ws s. stands_read from ws a b m l s;
    sure = λ from ws s. refl;
    roomy = tt;
  }

  pub next_no_memory : ReadsNext scn (read a m) (read b m) (Err faults.NoMemory)
  next_no_memory = record {
    looks = l;
    failed = tt;
    later = omega arith;
    numbers = refl;
    found = tt;
    told = λ from ws s. tt;
    stands = λ from ws s. stands_read from ws a b m l s;
    sure = λ from ws s. refl;
    roomy = tt;
  }

  module _ (p : ℕ) (e : Entry) (at : Some (p, e) ≡ entry_after m.floor scn m.index) where
    pub next_found : (w : Span) → w.scn ≡ e.scn → IfSome a.seen (λ bytes. m.used ≤ length bytes → Fetches m.used e p bytes (Some w)) → ReadsNext scn (read a m) (read b m) (Ok (Some w))
    next_found w same fetches =
        let within = some_after m.high m.floor scn p e m.index is.rises (sym at) in
        record {
          looks = l;
          failed = tt;
          later = omega arith;
          numbers = refl;
          found = record { window = (omega (arith, same, within.0), omega (arith, same, within.1)); none = tt };
          told = λ from ws s. stands_found from ws a m s scn p e (sym at) (Some w) is.room fetches;
          stands = λ from ws s. stands_read from ws a b m l s;
          sure = λ from ws s. refl;
          roomy = tt;
        }

    pub next_lost : (n : Numbers) → n ≡ record m { lost = m.lost + 1 } → IfSome a.seen (λ bytes. m.used ≤ length bytes → Fetches m.used e p bytes None) → ReadsNext scn (read a m) (read b n) (Err faults.Failed)
    next_lost n more fetches =
        let lost : n.lost ≡ m.lost + 1 = ap (λ (k : Numbers). k.lost) more in
        record {
          looks = l;
          failed = omega (arith, lost, l.faults);
          later = omega (arith, lost);
          numbers = more ∙ (λ i. record m { lost = sym lost i });
          found = tt;
          told = λ from ws s. tt;
          stands = λ from ws s. absurd (not_lost from ws a m s scn p e (sym at) is.room fetches);
          sure = λ from ws s. absurd (not_lost from ws a m s scn p e (sym at) is.room fetches);
          roomy = tt;
        }

-- the same, of a segment as it stood
pub next_by : {D : Type 0} (st : D → DiskState) (old view : SegmentParts D) (is_view : view ≡ old) (scn : ℕ) (new : SegmentState) (r : Result (Option Span) LogFault) → ReadsNext scn (told st view) new r → ReadsNext scn (told st old) new r
next_by st old view is_view scn new r reads = subst (λ (o : SegmentParts _). ReadsNext scn (told st o) new r) is_view reads
