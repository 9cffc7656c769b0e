-- How disks are opened one after the other. Functions within the crate alone cite this.
use Rattle.std.specs.Prelude.{◌≡◌, ◌⊎◌, ℕ, List, [], ◌∷◌, ◌++◌, length, Some, None, Result, Ok, Err}
use Rattle.log_disk.specs.Disk.{DiskState}
use Rattle.log_segment.specs.declared.segment.SegmentFault.{SegmentFault}
use Rattle.log_segment.specs.declared.segment.SegmentFault.TheVariants as faults
use Rattle.log_segment.specs.Opening.{Opened, NotOpened}
use Rattle.log_segment.specs.Segment.{SegmentParts, told}
use Rattle.log_store.specs.declared.opening.OpenLog.{OpenLog}
use Rattle.log_store.specs.declared.opening.OpenLog.TheVariants as opening
use Rattle.log_store.specs.Log.{first_apart}
use Rattle.log_store.specs.Order.{AllRise, IsOrder, floor_at, high_at, numbers_at}

-- what a fault of a disk's segment is to the log
abbrev pub fault_at : ℕ → SegmentFault → OpenLog
fault_at segment (faults.Bad place) = opening.BadSegment segment place
fault_at segment faults.Failed = opening.Failed
fault_at segment faults.NoMemory = opening.NoMemory

-- each of these disks was opened
abbrev pub AllOpened : {D : Type 0} → (D → DiskState) → List D → List (SegmentParts D) → Type 0
AllOpened state [] [] = Unit {0}
AllOpened state [] (s ∷ ss) = ⊥
AllOpened state (d ∷ ds) [] = ⊥
AllOpened state (d ∷ ds) (s ∷ ss) = Opened (state d) (told state s) × AllOpened state ds ss

-- the first disks were opened, and these are left
pub record OpenedSome {D : Type 0} (state : D → DiskState) (all : List D) (ss : List (SegmentParts D)) (rest : List D) : Type 0 where
  pub front : List D
  pub parts : all ≡ front ++ rest
  pub opened : AllOpened state front ss

-- one more was opened
pub record OpensOne {D : Type 0} (state : D → DiskState) (old : List D) (ss : List (SegmentParts D)) (new : List D) (now : List (SegmentParts D))
    : Type 0 where
  pub disk : D
  pub segment : SegmentParts D
  pub parts : old ≡ disk ∷ new
  pub more : now ≡ ss ++ segment ∷ []
  pub opened : Opened (state disk) (told state segment)

-- one was not, and stays in its place
pub record OpensNone {D : Type 0} (state : D → DiskState) (fault : OpenLog) (old : List D) (ss : List (SegmentParts D))
    (new : List D) (now : List (SegmentParts D)) : Type 0 where
  pub disk : D
  pub back : D
  pub behind : List D
  pub cause : SegmentFault
  pub parts : old ≡ disk ∷ behind
  pub left : new ≡ back ∷ behind
  pub same : now ≡ ss
  pub failed : NotOpened cause (state disk) (state back)
  pub fault_is : fault ≡ fault_at (length ss) cause

abbrev pub OpensNext : {D : Type 0} → (D → DiskState) → List D → List (SegmentParts D) → List D → List (SegmentParts D) → Result Unit OpenLog
    → Type 0
OpensNext state old ss new now (Ok x) = OpensOne state old ss new now
OpensNext state old ss new now (Err fault) = OpensNone state fault old ss new now

-- all were opened, or one was not behind some that were
pub record StopsAt {D : Type 0} (state : D → DiskState) (fault : OpenLog) (all : List D) (ss : List (SegmentParts D)) (rest : List D) : Type 0 where
  pub front : List D
  pub left : List D
  pub parts : all ≡ front ++ left
  pub opened : AllOpened state front ss
  pub stops : OpensNone state fault left ss rest ss

abbrev pub OpensAll : {D : Type 0} → (D → DiskState) → List D → List (SegmentParts D) → List D → Result Unit OpenLog → Type 0
OpensAll state all ss rest (Ok x) = (rest ≡ []) × AllOpened state all ss
OpensAll state all ss rest (Err fault) = StopsAt state fault all ss rest

-- segments are in order, and follow each other or not
pub record AreOrdered {D : Type 0} (ss : List (SegmentParts D)) (order : List ℕ) : Type 0 where
  pub is_order : IsOrder (numbers_at ss) (length ss) order
  pub joined : first_apart (floor_at ss) (high_at ss) order ≡ None
  pub rise : AllRise (numbers_at ss) order

pub record AreApart {D : Type 0} (fault : OpenLog) (ss : List (SegmentParts D)) (order : List ℕ) : Type 0 where
  pub is_order : IsOrder (numbers_at ss) (length ss) order
  pub segment : ℕ
  pub apart : first_apart (floor_at ss) (high_at ss) order ≡ Some segment
  pub fault_is : fault ≡ opening.BadSegment segment 9

abbrev pub OrdersAll : {D : Type 0} → List (SegmentParts D) → List ℕ → Result Unit OpenLog → Type 0
OrdersAll ss order (Ok x) = AreOrdered ss order
OrdersAll ss order (Err fault) = AreApart fault ss order

-- all disks were opened and their segments follow each other, or not, for one of these causes
pub record OpensInOrder {D : Type 0} (state : D → DiskState) (all : List D) (ss : List (SegmentParts D)) (order : List ℕ) (rest : List D)
    : Type 0 where
  pub none : rest ≡ []
  pub opened : AllOpened state all ss
  pub ordered : AreOrdered ss order

pub record OpensApart {D : Type 0} (state : D → DiskState) (fault : OpenLog) (all : List D) (ss : List (SegmentParts D)) (rest : List D)
    : Type 0 where
  pub none : rest ≡ []
  pub opened : AllOpened state all ss
  pub order : List ℕ
  pub apart : AreApart fault ss order

abbrev pub OpensOrdered : {D : Type 0} → (D → DiskState) → List D → List (SegmentParts D) → List ℕ → List D → Result Unit OpenLog
    → Type 0
OpensOrdered state all ss order rest (Ok x) = OpensInOrder state all ss order rest
OpensOrdered state all ss order rest (Err fault) = StopsAt state fault all ss rest ⊎ OpensApart state fault all ss rest
