-- The reply to a scan.
use Rattle.std.specs.Prelude.{◌≡◌, ℕ, ◌==◌, if◌then◌else◌, List, [], ◌++◌, filter}
use Rattle.bus_types.specs.declared.row.Cursor.{Cursor}
use Rattle.bus_types.specs.Change.{Test}
use Rattle.bus_types.specs.Table.{RowList}
use Rattle.bus_types.specs.Rows.{rest_of, RiseAfter}
use Rattle.event_codec.specs.declared.reply.Shape.{Shape}
use Rattle.event_codec.specs.Chunks.{chunk_of, puts_of}
use Rattle.event_codec.specs.Questions.{Reply}
use Rattle.event_codec.specs.Questions.Reply.{Rows}
use Rattle.event_codec.specs.Forms.{bytes_of, shape_of}

-- the accepted rows of a table at an SCN: at 0 nothing is applied, and no row has the SCN 0
abbrev pub scan_rows : Test → ℕ → RowList → RowList
scan_rows test applied rows = if applied == 0 then [] else filter (λ r. test r.0.source r.0.key) rows

-- the chunk of those after a cursor, in at most so many bytes: each as a put with the SCN of the table
abbrev pub scan_chunk : Test → ℕ → Cursor → ℕ → RowList → Reply
scan_chunk test applied cursor most rows = chunk_of (λ cs more. Rows cs applied more) most (puts_of (rest_of cursor (scan_rows test applied rows)))

-- a reply was appended, and this is told of it
pub record Appends (reply : Reply) (shape : Shape) (old new : List ℕ) : Type 0 where
  pub told : shape ≡ shape_of reply
  pub bytes : new ≡ old ++ bytes_of reply

-- the chunk of some rows after the cursor was appended
pub record AppendsSome (test : Test) (applied : ℕ) (cursor : Cursor) (most : ℕ) (shape : Shape) (old new : List ℕ) : Type 0 where
  pub rows : RowList
  pub rising : RiseAfter cursor rows
  pub chunk : Appends (scan_chunk test applied cursor most rows) shape old new
