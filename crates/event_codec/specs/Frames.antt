-- The bytes of closing frames and answers. Numbers are big-endian. Each value has one spelling.
use Rattle.std.specs.Prelude.{ℕ, ◌≤◌, Bool, ◌==◌, if◌then◌else◌, List, [], ◌∷◌, ◌++◌}
use Rattle.std.specs.Int.{w64, to_be_bytes}
use Rattle.bus_types.specs.declared.limits.TheConstants.{MAX_SCN}
use Rattle.event_codec.specs.declared.answer.Answer.{Answer}
use Rattle.event_codec.specs.declared.answer.Answer.TheVariants.{NotFound, Empty, TooSmall, Behind, LogGone, StartDelta, StartSnapshot, Target}

-- what a closing frame ends: a run of rows, or of changes
pub data Run : Type 0 where
  Rows : Run
  Changes : Run

abbrev pub run_kind : Run → ℕ
run_kind Rows = 4
run_kind Changes = 5

-- the run of a kind
abbrev pub run_of : ℕ → Run
run_of kind = if kind == 4 then Rows else Changes

-- the end of a run: its SCN, and whether an item is left
pub record Closing : Type 0 where
  pub run : Run
  pub scn : ℕ
  pub more : Bool

pub record IsClosing (c : Closing) : Type 0 where
  pub scn : c.scn ≤ MAX_SCN

abbrev pub closing_bytes : Closing → List ℕ
closing_bytes c = run_kind c.run ∷ to_be_bytes w64 c.scn ++ (if c.more then 1 else 0) ∷ []

-- what is answered where no window, row or change is sent
abbrev pub answer_kind : Answer → ℕ
answer_kind (NotFound n) = 32
answer_kind (Empty n) = 33
answer_kind (TooSmall n) = 34
answer_kind (Behind n) = 35
answer_kind (LogGone n) = 36
answer_kind (StartDelta n) = 37
answer_kind (StartSnapshot n) = 38
answer_kind (Target n) = 39

abbrev pub answer_number : Answer → ℕ
answer_number (NotFound n) = n
answer_number (Empty n) = n
answer_number (TooSmall n) = n
answer_number (Behind n) = n
answer_number (LogGone n) = n
answer_number (StartDelta n) = n
answer_number (StartSnapshot n) = n
answer_number (Target n) = n

pub record IsAnswer (a : Answer) : Type 0 where
  pub number : answer_number a ≤ MAX_SCN

abbrev pub answer_bytes : Answer → List ℕ
answer_bytes a = answer_kind a ∷ to_be_bytes w64 (answer_number a)
