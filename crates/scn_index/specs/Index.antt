-- Entries of an index: an SCN and a place, in rising order of the SCNs.
use Rattle.std.specs.Prelude.{◌≡◌, ℕ, ◌+◌, ◌*◌, ◌-◌, ◌^◌, ◌<◌, ◌≤◌, List, length, Option, Some, None}
use Rattle.std.specs.List.{All, Contains, slice_index_or}

-- an index: the most entries that it holds, and those that it holds
pub record Index : Type 0 where
  pub slots : ℕ
  pub entries : List (ℕ × ℕ)

-- the SCNs of the entries are below one
abbrev pub AreBelow : ℕ → List (ℕ × ℕ) → Type 0
AreBelow scn entries = All (λ e. e.0 < scn) entries

-- SCNs rise strictly
abbrev pub AreRising : List (ℕ × ℕ) → Type 0
AreRising entries = (i j : ℕ) (d : ℕ × ℕ) → i < j → j < length entries → (slice_index_or entries i d).0 < (slice_index_or entries j d).0

-- no entry is at or below an SCN
abbrev pub AreAbove : ℕ → List (ℕ × ℕ) → Type 0
AreAbove scn entries = All (λ e. scn < e.0) entries

-- the entry with the greatest SCN at or below one
pub record IsGreatest (scn : ℕ) (entries : List (ℕ × ℕ)) (e : ℕ × ℕ) : Type 0 where
  pub held : Contains entries e
  pub upto : e.0 ≤ scn
  pub greatest : (k : ℕ) (d : ℕ × ℕ) → k < length entries → (slice_index_or entries k d).0 ≤ scn → (slice_index_or entries k d).0 ≤ e.0

-- a search that read so many of n entries: 2 to their number is at most 2 * n + 1, so it reads less than one in each half
pub record IsQuick (before now n : ℕ) : Type 0 where
  pub later : before ≤ now
  pub few : 2 ^ (now - before) ≤ 2 * n + 1
