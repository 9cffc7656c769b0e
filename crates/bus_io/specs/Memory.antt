-- What the forms in memory are to a contract.
use Rattle.std.specs.Prelude.{ℕ, ◌+◌, ◌-◌, min, ◌==◌, nat_lt, Bool, ◌&&◌, ◌||◌, if◌then◌else◌, List, [], ◌++◌, length, take, drop, Option, Some, None}
use Rattle.std.specs.List.{list_any}
use Rattle.bus_types.specs.Counting.{next_count}

-- a source in memory: the bytes given and those left, the calls that are to fail, and how many calls were made and have
-- failed
pub record Reader : Type 0 where
  pub given : List ℕ
  pub left : List ℕ
  pub fails : List ℕ
  pub calls : ℕ
  pub faults : ℕ

abbrev pub new_reader : List ℕ → List ℕ → Reader
new_reader bytes fails = record { given = []; left = bytes; fails = fails; calls = 0; faults = 0 }

-- a sink in memory: the bytes written, how many it takes in all, the calls that are to fail, and the counts
pub record Writer : Type 0 where
  pub bytes : List ℕ
  pub room : ℕ
  pub fails : List ℕ
  pub calls : ℕ
  pub faults : ℕ

abbrev pub new_writer : ℕ → List ℕ → Writer
new_writer room fails = record { bytes = []; room = room; fails = fails; calls = 0; faults = 0 }

-- whether this call is to fail
abbrev pub is_listed : List ℕ → ℕ → Bool
is_listed fails call = list_any (λ f. f == call) fails

-- what a read with room for so many bytes leaves
abbrev pub after_read : Reader → ℕ → Reader
after_read s size = if is_listed s.fails s.calls
    then record s { calls = next_count s.calls; faults = s.faults + 1 }
    else
    let count = min size (length s.left) in
    record s { given = s.given ++ take count s.left; left = drop count s.left; calls = next_count s.calls }

-- the room that is left
abbrev pub room_left : Writer → ℕ
room_left s = s.room - length s.bytes

-- whether a write of these bytes is to fail
abbrev pub is_refused : Writer → List ℕ → Bool
is_refused s bytes = is_listed s.fails s.calls || (nat_lt 0 (length bytes) && room_left s == 0)

-- what a write of these bytes leaves
abbrev pub after_write : Writer → List ℕ → Writer
after_write s bytes = if is_refused s bytes
    then record s { calls = next_count s.calls; faults = s.faults + 1 }
    else record s { bytes = s.bytes ++ take (min (length bytes) (room_left s)) bytes; calls = next_count s.calls }

-- the room that is left for certain, where no call is listed to fail
abbrev pub sure_room : Writer → Option ℕ
sure_room s = if length s.fails == 0 then Some (room_left s) else None

-- a connection in memory: what is read from, and what is written to
pub record Wire : Type 0 where
  pub from : Reader
  pub to : Writer

-- a sink in memory that grows: the bytes written, for how many it has room in all without growing, and how often it has
-- failed
pub record Grown : Type 0 where
  pub bytes : List ℕ
  pub capacity : ℕ
  pub faults : ℕ
