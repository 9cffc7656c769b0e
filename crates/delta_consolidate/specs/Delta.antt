-- The reply to a question for the last changes.
use Rattle.std.specs.Prelude.{◌≡◌, ℕ, List, ◌++◌}
use Rattle.bus_types.specs.declared.row.Cursor.{Cursor}
use Rattle.bus_types.specs.Change.{Test}
use Rattle.bus_types.specs.Window.{Span}
use Rattle.bus_types.specs.Latest.{last_changes, changes_after}
use Rattle.bus_stores.specs.Following.{RiseBetween}
use Rattle.event_codec.specs.declared.reply.Shape.{Shape}
use Rattle.event_codec.specs.Chunks.{chunk_of}
use Rattle.event_codec.specs.Questions.{Reply}
use Rattle.event_codec.specs.Questions.Reply.{Changes}
use Rattle.event_codec.specs.Forms.{bytes_of, shape_of}

-- the chunk of the last changes behind a cursor, in at most so many bytes: of each accepted row that changes in the windows with
-- since < SCN <= target its last change there, in order of name, with the SCN of the target
abbrev pub delta_chunk : Test → ℕ → ℕ → Cursor → ℕ → List Span → Reply
delta_chunk test since target cursor most ws =
    chunk_of (λ cs more. Changes cs target more) most (changes_after cursor (last_changes ws test since target))

-- a reply was appended, and this is told of it
pub record Appends (reply : Reply) (shape : Shape) (old new : List ℕ) : Type 0 where
  pub told : shape ≡ shape_of reply
  pub bytes : new ≡ old ++ bytes_of reply

-- the chunk of some windows between the two SCNs was appended
pub record AppendsSome (test : Test) (since target : ℕ) (cursor : Cursor) (most : ℕ) (shape : Shape) (old new : List ℕ) : Type 0 where
  pub windows : List Span
  pub rising : RiseBetween since target windows
  pub chunk : Appends (delta_chunk test since target cursor most windows) shape old new
