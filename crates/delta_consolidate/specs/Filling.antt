-- How a chunk is filled, change by change.
use Rattle.std.specs.Prelude.{◌≡◌, ℕ, ◌+◌, ◌-◌, nat_lt, nat_le, if◌then◌else◌, List, [], ◌∷◌, ◌++◌, Option, Some, None, is_some}
use Rattle.bus_types.specs.declared.change.Change.{Change}
use Rattle.bus_types.specs.Change.{change_size}
use Rattle.event_codec.specs.declared.answer.Answer.TheVariants.{TooSmall}
use Rattle.event_codec.specs.declared.reply.Shape.{Shape}
use Rattle.event_codec.specs.declared.reply.Shape.TheVariants.{Rows, Only, Windows, Changes}
use Rattle.event_codec.specs.Bytes.{event_bytes}
use Rattle.event_codec.specs.Chunks.{frame_size}
use Rattle.event_codec.specs.Frames.{closing_bytes, answer_bytes}
use Rattle.event_codec.specs.Frames.Run.{Changes as OfChanges}
use Rattle.delta_consolidate.specs.declared.filling.Filling.{Filling}

-- the bytes so far, and how far the chunk has come
pub record Filled : Type 0 where
  pub bytes : List ℕ
  pub count : ℕ
  pub room : ℕ
  pub unfit : Option ℕ

abbrev pub filled : List ℕ → Filling → Filled
filled bytes f = record { bytes = bytes; count = f.count; room = f.room; unfit = f.unfit }

-- nothing in room for so many bytes beside the frame
abbrev pub empty_in : ℕ → List ℕ → Filled
empty_in most bytes = record { bytes = bytes; count = 0; room = most - frame_size; unfit = None }

-- an item more, where it fits
abbrev pub with_item : ℕ → Filled → Change → Filled
with_item scn f c =
    if nat_le (change_size c) f.room then record {
      bytes = f.bytes ++ event_bytes (record { scn = scn; change = c });
      count = f.count + 1;
      room = f.room - change_size c;
      unfit = f.unfit;
    } else record f { unfit = Some (change_size c) }

-- an item more, unless one has not fitted
abbrev pub with_next : ℕ → Filled → Change → Filled
with_next scn f c = if is_some f.unfit then f else with_item scn f c

-- items more, in order
abbrev pub with_items : ℕ → Filled → List Change → Filled
with_items scn f [] = f
with_items scn f (c ∷ cs) = with_items scn (with_next scn f c) cs

-- ---- the end

-- what the smallest reply needs, where that is more than there is
abbrev pub needed_by : ℕ → Option ℕ → Option ℕ
needed_by most (Some size) = Some (size + frame_size)
needed_by most None = if nat_lt most frame_size then Some frame_size else None

abbrev pub needed : ℕ → ℕ → Option ℕ → Option ℕ
needed most count unfit = if nat_lt 0 count then None else needed_by most unfit

abbrev pub shape_by : Option ℕ → ℕ → Option ℕ → Shape
shape_by (Some need) count unfit = Only (TooSmall need)
shape_by None count unfit = Changes count (is_some unfit)

abbrev pub shape_at : ℕ → ℕ → Option ℕ → Shape
shape_at most count unfit = shape_by (needed most count unfit) count unfit

-- what stands behind the items
abbrev pub tail_of : ℕ → Shape → List ℕ
tail_of scn (Changes count more) = closing_bytes (record { run = OfChanges; scn = scn; more = more })
tail_of scn (Only answer) = answer_bytes answer
tail_of scn (Windows count last) = []
tail_of scn (Rows count at more) = []

-- bytes that others begin with
pub record Extends (old new : List ℕ) : Type 0 where
  pub more : List ℕ
  pub is : new ≡ old ++ more
