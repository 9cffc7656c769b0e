-- How a chunk is filled, row by row.
use Rattle.std.specs.Prelude.{◌≡◌, ℕ, ◌+◌, ◌-◌, nat_lt, nat_le, if◌then◌else◌, List, [], ◌∷◌, ◌++◌, Option, Some, None, is_some}
use Rattle.bus_types.specs.declared.change.RowName.{RowName}
use Rattle.bus_types.specs.declared.change.Change.{Change}
use Rattle.bus_types.specs.Change.{Test, change_size}
use Rattle.bus_types.specs.Table.{RowList}
use Rattle.event_codec.specs.declared.answer.Answer.TheVariants.{TooSmall}
use Rattle.event_codec.specs.declared.reply.Shape.{Shape}
use Rattle.event_codec.specs.declared.reply.Shape.TheVariants.{Rows, Only, Windows, Changes}
use Rattle.event_codec.specs.Bytes.{event_bytes}
use Rattle.event_codec.specs.Chunks.{frame_size}
use Rattle.event_codec.specs.Frames.{closing_bytes, answer_bytes}
use Rattle.event_codec.specs.Frames.Run.{Rows as OfRows}
use Rattle.snapshot_scan.specs.declared.filling.Filling.{Filling}

-- the bytes so far, and how far the chunk has come
pub record Filled : Type 0 where
  pub bytes : List ℕ
  pub count : ℕ
  pub room : ℕ
  pub unfit : Option ℕ

abbrev pub filled : List ℕ → Filling → Filled
filled bytes f = record { bytes = bytes; count = f.count; room = f.room; unfit = f.unfit }

-- nothing in room for so many bytes beside the frame
abbrev pub empty_in : ℕ → List ℕ → Filled
empty_in most bytes = record { bytes = bytes; count = 0; room = most - frame_size; unfit = None }

-- an item more, where it fits
abbrev pub with_item : ℕ → Filled → Change → Filled
with_item scn f c =
    if nat_le (change_size c) f.room then record {
      bytes = f.bytes ++ event_bytes (record { scn = scn; change = c });
      count = f.count + 1;
      room = f.room - change_size c;
      unfit = f.unfit;
    } else record f { unfit = Some (change_size c) }

-- a row as a put
abbrev pub put_of : RowName × List ℕ → Change
put_of r = record { source = r.0.source; key = r.0.key; put = Some r.1 }

-- an accepted row more, unless an item has not fitted
abbrev pub with_row : Test → ℕ → Filled → RowName × List ℕ → Filled
with_row test scn f r = if is_some f.unfit then f else (if test r.0.source r.0.key then with_item scn f (put_of r) else f)

abbrev pub with_rows : Test → ℕ → Filled → RowList → Filled
with_rows test scn f [] = f
with_rows test scn f (r ∷ rs) = with_rows test scn (with_row test scn f r) rs

-- items more, in order
abbrev pub with_items : ℕ → Filled → List Change → Filled
with_items scn f [] = f
with_items scn f (c ∷ cs) = with_items scn (if is_some f.unfit then f else with_item scn f c) cs

-- ---- the end

-- what the smallest reply needs, where that is more than there is
abbrev pub needed_by : ℕ → Option ℕ → Option ℕ
needed_by most (Some size) = Some (size + frame_size)
needed_by most None = if nat_lt most frame_size then Some frame_size else None

abbrev pub needed : ℕ → ℕ → Option ℕ → Option ℕ
needed most count unfit = if nat_lt 0 count then None else needed_by most unfit

abbrev pub shape_by : Option ℕ → ℕ → ℕ → Option ℕ → Shape
shape_by (Some need) scn count unfit = Only (TooSmall need)
shape_by None scn count unfit = Rows count scn (is_some unfit)

abbrev pub shape_at : ℕ → ℕ → ℕ → Option ℕ → Shape
shape_at scn most count unfit = shape_by (needed most count unfit) scn count unfit

-- what stands behind the items
abbrev pub tail_of : Shape → List ℕ
tail_of (Rows count scn more) = closing_bytes (record { run = OfRows; scn = scn; more = more })
tail_of (Only answer) = answer_bytes answer
tail_of (Windows count last) = []
tail_of (Changes count more) = []

-- bytes that others begin with
pub record Extends (old new : List ℕ) : Type 0 where
  pub more : List ℕ
  pub is : new ≡ old ++ more
