-- The front of a segment, as it is read.
use Rattle.std.specs.Prelude.{◌≡◌, ℕ, ◌≤◌, ◌⊎◌, List, [], ◌∷◌, ◌++◌, length, take, drop, Result, Ok, Err}
use Rattle.std.specs.Int.{w64, from_be_bytes}
use Rattle.bus_types.specs.declared.limits.TheConstants.{MAX_SCN}
use Rattle.log_segment.specs.declared.head.Head.{Head}
use Rattle.log_segment.specs.declared.head.Head.TheVariants as heads
use Rattle.log_segment.specs.Image.{head_bytes, whole, IsFree}
use Rattle.log_segment.specs.Faults.{IsBadAt}

-- the number that bytes begin with, and what stands behind it
pub record IsNumber (bytes : List ℕ) (number : ℕ) (behind : List ℕ) : Type 0 where
  pub long : 8 ≤ length bytes
  pub value : number ≡ from_be_bytes w64 (take 8 bytes)
  pub rest : behind ≡ drop 8 bytes

-- behind the gate the head of a segment stands whole, with this floor
pub record HasFloor (floor : ℕ) (bytes : List ℕ) : Type 0 where
  pub low : floor ≤ MAX_SCN
  pub rest : List ℕ
  pub parts : bytes ≡ head_bytes floor ++ rest

-- the floor behind an open gate, or the place at fault, whatever follows, where so many bytes stand or nothing follows
abbrev pub ShowsFloor : Result ℕ ℕ → List ℕ → Type 0
ShowsFloor (Ok floor) bytes = HasFloor floor bytes
ShowsFloor (Err place) bytes = (more : List ℕ) → (16 ≤ length bytes) ⊎ (more ≡ []) → IsBadAt place (165 ∷ (bytes ++ more))

-- a segment in use begins, behind this floor
pub record BeginsInUse (floor : ℕ) (bytes : List ℕ) : Type 0 where
  pub low : floor ≤ MAX_SCN
  pub rest : List ℕ
  pub parts : bytes ≡ whole floor [] ++ rest

-- what the first bytes of a segment say of it
abbrev pub ShowsHead : Head → List ℕ → Type 0
ShowsHead heads.Free bytes = (more : List ℕ) → IsFree (bytes ++ more)
ShowsHead (heads.InUse floor) bytes = BeginsInUse floor bytes
ShowsHead (heads.Bad place) bytes = (more : List ℕ) → (17 ≤ length bytes) ⊎ (more ≡ []) → IsBadAt place (bytes ++ more)

-- bytes begin with these, and these are as many as the front of a segment has, or all
pub record Fills (bytes ahead : List ℕ) : Type 0 where
  pub rest : List ℕ
  pub parts : bytes ≡ ahead ++ rest
  pub enough : (17 ≤ length ahead) ⊎ (rest ≡ [])
