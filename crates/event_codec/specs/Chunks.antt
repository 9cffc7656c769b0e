-- Chunks of items: rows or changes that fit in a reply with their closing frame.
use Rattle.std.specs.Prelude.{ℕ, ◌+◌, ◌-◌, Bool, false, if◌then◌else◌, nat_lt, nat_le, List, [], ◌∷◌, length, map, Some}
use Rattle.bus_types.specs.declared.change.Change.{Change}
use Rattle.bus_types.specs.declared.row.Cursor.{Cursor}
use Rattle.bus_types.specs.declared.row.Cursor.TheVariants.{After}
use Rattle.bus_types.specs.Change.{change_size}
use Rattle.bus_types.specs.Table.{RowList}
use Rattle.event_codec.specs.declared.answer.Answer.TheVariants.{TooSmall}
use Rattle.event_codec.specs.Questions.{Reply}
use Rattle.event_codec.specs.Questions.Reply.{Only}

-- the bytes of a closing frame
abbrev pub frame_size : ℕ
frame_size = 10

-- the longest run of items from the first on whose sizes sum to at most so many bytes
abbrev pub items_within : ℕ → List Change → List Change
items_within room [] = []
items_within room (c ∷ cs) = if nat_le (change_size c) room then c ∷ items_within (room - change_size c) cs else []

-- a chunk of items in at most so many bytes with its frame, as a reply made of them and of whether an item is left; or the size
-- that the smallest reply needs
abbrev pub chunk_of : (List Change → Bool → Reply) → ℕ → List Change → Reply
chunk_of make most [] = if nat_lt most frame_size then Only (TooSmall frame_size) else make [] false
chunk_of make most (c ∷ cs) =
    if nat_lt most (change_size c + frame_size) then Only (TooSmall (change_size c + frame_size))
    else (let run = items_within (most - frame_size) (c ∷ cs) in make run (nat_lt (length run) (length (c ∷ cs))))

-- rows as puts
abbrev pub puts_of : RowList → List Change
puts_of rows = map (λ r. record { source = r.0.source; key = r.0.key; put = Some r.1 }) rows

-- the cursor after the last of these, or the one given
abbrev pub cursor_after : Cursor → List Change → Cursor
cursor_after cursor [] = cursor
cursor_after cursor (c ∷ cs) = cursor_after (After c.source c.key) cs
