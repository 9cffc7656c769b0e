-- A segment is taken into use with its first window.
use Rattle.std.proofs.Common.{◌≡◌, ◌∙◌, ◌⊎◌, inl, inr, ⊎_elim, [], ◌∷◌, Result, Ok, Err, sym, ap, subst, arith}
use Rattle.bus_types.specs.declared.fault.Failed.{Failed}
use Rattle.bus_types.specs.Window.{Span}
use Rattle.bus_stores.specs.declared.log.LogFault.{LogFault}
use Rattle.bus_stores.specs.declared.log.LogFault.TheVariants as faults
use Rattle.log_disk.specs.Disk.{DiskState, LeavesOnly}
use Rattle.log_disk.proofs.Moments.{joined, weaker}
use Rattle.log_segment.specs.Image.{IsFree, HoldsInUse}
use Rattle.log_segment.specs.Segment.{Numbers, SegmentParts, SegmentState, told, numbers_of, with_window, StandsFree, BeginsBehind, Frees, Appends}
use Rattle.log_store.specs.First.{IsRefused, HoldsFirst, PutsFirst}

module _ (w : Span) (o m : SegmentState) (x : Unit {0}) (b : BeginsBehind w.prev o m (Ok x)) where
  begin_crash : StandsFree o → LeavesOnly o.disk.clock m.disk.clock (HoldsFirst w)
  begin_crash free =
      weaker o.disk.clock m.disk.clock (λ c. IsFree c ⊎ HoldsInUse w.prev [] c) (HoldsFirst w) (λ c. ⊎_elim (λ f. inl f) (λ h. inr (inl h))) (b.crash free)

  append_crash : (n : SegmentState) (r : Result Unit LogFault) → Appends w m n r → StandsFree o → LeavesOnly o.disk.clock n.disk.clock (HoldsFirst w)
  append_crash n r a free =
      joined o.disk.clock m.disk.clock n.disk.clock (HoldsFirst w) (begin_crash free)
      (weaker m.disk.clock n.disk.clock (λ c. HoldsInUse w.prev [] c ⊎ HoldsInUse w.prev (w ∷ []) c) (HoldsFirst w)
      (λ c. ⊎_elim (λ h. inr (inl h)) (λ h. inr (inr h))) (a.crash w.prev [] (b.done free)))

  pub first_done : (n : SegmentState) (y : Unit {0}) → Appends w m n (Ok y) → PutsFirst w o n (Ok y)
  first_done n y a =
      let is : n.numbers ≡ with_window w (numbers_of o.numbers.lost w.prev []) = a.leaves.1 ∙ ap (with_window w) b.numbers in
      record {
        faults = omega (arith, b.counts.later, a.faults);
        failed = tt;
        leaves = record { in_use = ap (λ (k : Numbers). k.in_use) is; floor = ap (λ (k : Numbers). k.floor) is; high = ap (λ (k : Numbers). k.high) is };
        lost = ap (λ (k : Numbers). k.lost) is;
        crash = append_crash n (Ok y) a;
        done = λ free. a.done w.prev [] (b.done free);
        back = tt;
      }

  pub first_failed : (n : SegmentState) → Appends w m n (Err faults.Failed) → PutsFirst w o n (Err faults.Failed)
  first_failed n a = record {
    faults = omega (arith, b.counts.later, a.faults);
    failed = omega (arith, b.counts.later, a.failed);
    leaves = tt;
    lost = ap (λ (k : Numbers). k.lost) a.leaves.1 ∙ ap (λ (k : Numbers). k.lost) b.numbers;
    crash = append_crash n (Err faults.Failed) a;
    done = tt;
    back = tt;
  }

  -- the append changed nothing, and the segment was given up
  module _ (f : SegmentState) (r : Result Unit Failed) (freed : Frees m f r) where
    undo_crash : StandsFree o → LeavesOnly o.disk.clock f.disk.clock (HoldsFirst w)
    undo_crash free =
        joined o.disk.clock m.disk.clock f.disk.clock (HoldsFirst w) (begin_crash free)
        (weaker m.disk.clock f.disk.clock (λ c. HoldsInUse w.prev [] c ⊎ IsFree c) (HoldsFirst w)
        (λ c. ⊎_elim (λ h. inr (inl h)) (λ h. inl h)) (freed.crash w.prev [] (b.done free)))

  pub first_undone : (f : SegmentState) (r : Result Unit Failed) (fault : LogFault) → Frees m f r → IsRefused r fault → PutsFirst w o f (Err fault)
  first_undone f (Ok y) fault freed is =
      subst (λ e. PutsFirst w o f (Err e)) (sym is) (record {
        faults = omega (arith, b.counts.later, freed.counts.later);
        failed = tt;
        leaves = ap (λ (k : Numbers). k.in_use) freed.numbers;
        lost = ap (λ (k : Numbers). k.lost) freed.numbers ∙ ap (λ (k : Numbers). k.lost) b.numbers;
        crash = undo_crash f (Ok y) freed;
        done = tt;
        back = λ free. freed.done w.prev [] (b.done free);
      })
  first_undone f (Err e) fault freed is =
      subst (λ e. PutsFirst w o f (Err e)) (sym is) (record {
        faults = omega (arith, b.counts.later, freed.counts.later);
        failed = omega (arith, b.counts.later, freed.counts.failed);
        leaves = tt;
        lost = ap (λ (k : Numbers). k.lost) freed.numbers ∙ ap (λ (k : Numbers). k.lost) b.numbers;
        crash = undo_crash f (Err e) freed;
        done = tt;
        back = tt;
      })

pub undone_by : {D : Type 0} (state : D → DiskState) (w : Span) (o m n f : SegmentParts D) (x : Unit {0}) (r : Result Unit Failed) (fault : LogFault) →
    BeginsBehind w.prev (told state o) (told state m) (Ok x) → n ≡ m → Frees (told state n) (told state f) r → IsRefused r fault →
    PutsFirst w (told state o) (told state f) (Err fault)
undone_by state w o m n f x r fault b kept freed is =
    first_undone w _ _ x b _ r fault (subst (λ (k : SegmentParts _). Frees (told state k) (told state f) r) kept freed) is
