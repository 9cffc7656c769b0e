-- A disk that is only read.
use Rattle.std.proofs.Common.{◌≡◌, ℕ, ◌+◌, ◌-◌, ◌<◌, ◌≤◌, min, List, ◌++◌, length, take, drop, Option, Some, None, Result, IfSome, refl, sym, ap, ◌∙◌, arith, length-take}
use Rattle.std.proofs.lemmas.List.{take-append-le, take-take}
use Rattle.bus_types.specs.declared.fault.Failed.{Failed}
use Rattle.log_disk.specs.Disk.{DiskState, may_leave, Keeps, Given}
use Rattle.log_disk.proofs.Moments.{started, goes_on, joined, weaker}
use Rattle.log_segment.specs.Looking.{Looks, ReadsOn}

pub looks_not : (a : DiskState) → Looks a a
looks_not a = record { faults = omega arith; seen = refl; crash = started a.clock (may_leave a.clock) (λ c left. left); now = λ c left. left }

pub looks : {X : Type 0} (a b : DiskState) (r : Result X Failed) → Keeps a b r → Looks a b
looks a b r k = record {
  faults = k.call.cause.later;
  seen = k.seen;
  crash = goes_on a.clock a.clock b.clock (may_leave a.clock) (started a.clock (may_leave a.clock) (λ c left. left)) k.call.time k.crash;
  now = k.crash;
}

pub looks_then : (a b d : DiskState) → Looks a b → Looks b d → Looks a d
looks_then a b d first second = record {
  faults = omega (arith, first.faults, second.faults);
  seen = second.seen ∙ first.seen;
  crash = joined a.clock b.clock d.clock (may_leave a.clock) first.crash (weaker b.clock d.clock (may_leave b.clock) (may_leave a.clock) first.now second.crash);
  now = λ c left. first.now c (second.now c left);
}

-- ---- bytes that were read

take_less : (n m : ℕ) (bytes : List ℕ) → n ≤ m → take n (take m bytes) ≡ take n bytes
take_less n m bytes le = rw take-take (ap (λ (k : ℕ). take k bytes) (omega (arith, le)))

-- the front of a buffer that was lent
pub front_of_lent : (count len : ℕ) (buffer over now : List ℕ) → now ≡ take len (buffer ++ over) → count ≤ length now → count ≤ length buffer → take count now ≡ take count buffer
front_of_lent count len buffer over now is long within =
    ap (λ (l : List ℕ). take count l) is ∙ take_less count len (buffer ++ over) (omega (arith, ap length is, length-take len (buffer ++ over), long)) ∙ take-append-le count buffer over within

module _ (place end raw count : ℕ) (old new buffer : List ℕ) (within : place + length old ≤ end) (fewer : count ≡ min raw (end - (place + length old))) (room : 0 < length buffer) (parts : new ≡ old ++ take count buffer) where
  abbrev next : ℕ
  next = place + length old

  read_of : (bytes : List ℕ) → Given next raw bytes buffer → end ≤ length bytes → ReadsOn place end count bytes old new
  read_of bytes is below = record {
    piece = take count buffer;
    parts = parts;
    given = sym (take_less count raw buffer (omega (arith, fewer))) ∙ ap (λ (l : List ℕ). take count l) is.same ∙ take_less count raw (drop next bytes) (omega (arith, fewer));
    some = λ left. omega (arith, fewer, left, is.some (omega (arith, left, below)) room);
  }

  pub reads_on : (seen : Option (List ℕ)) → IfSome seen (λ bytes. Given next raw bytes buffer) → IfSome seen (λ bytes. end ≤ length bytes → ReadsOn place end count bytes old new)
  reads_on None given = tt
  reads_on (Some bytes) given = read_of bytes given
