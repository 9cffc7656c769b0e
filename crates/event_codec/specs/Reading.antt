-- What the front of bytes is read as, field by field.
use Rattle.std.specs.Prelude.{ℕ, Bool, ◌&&◌, ◌||◌, ◌==◌, nat_lt, nat_le, if◌then◌else◌, List, length, slice_index, take, drop, Option, Some, None, option_and_then}
use Rattle.std.specs.Int.{Width, w16, w32, w64, byte_len, from_be_bytes}
use Rattle.bus_types.specs.declared.limits.TheConstants.{MAX_SCN, MAX_PAYLOAD}
use Rattle.event_codec.specs.declared.head.Head.{Head}
use Rattle.event_codec.specs.Frames.{Closing}
use Rattle.event_codec.specs.Frames.Run.{Rows, Changes}
use Rattle.event_codec.specs.declared.answer.Answer.{Answer}
use Rattle.event_codec.specs.declared.answer.Answer.TheVariants.{NotFound, Empty, TooSmall, Behind, LogGone, StartDelta, StartSnapshot, Target}

-- the number of a width at a place
unfoldable pub number_at : Width → ℕ → List ℕ → ℕ
number_at w place bytes = from_be_bytes w (take (byte_len w) (drop place bytes))

-- whether an event of this kind may have a payload of that many bytes
abbrev pub is_sized : ℕ → ℕ → Bool
is_sized kind len = (kind == 1 && nat_le len MAX_PAYLOAD) || (kind == 2 && len == 0)

-- what stands in the first 23 bytes
abbrev pub head_of : List ℕ → Head
head_of bytes = record {
  kind = slice_index bytes 0;
  source = number_at w16 1 bytes;
  scn = number_at w64 3 bytes;
  key = number_at w64 11 bytes;
  len = number_at w32 19 bytes;
}

-- a head whose numbers are in their ranges
abbrev pub checked : Head → Option Head
checked h =
    if h.scn == 0 || nat_lt MAX_SCN h.scn then None
    else if is_sized h.kind h.len then Some h
    else None

-- the head that bytes begin with
unfoldable pub head_front : List ℕ → Option Head
head_front bytes = if nat_lt (length bytes) 23 then None else checked (head_of bytes)

-- a head and its payload, of which these bytes are the first
abbrev pub with_payload : List ℕ → Head → Option (Head × List ℕ)
with_payload rest h = if nat_lt (length rest) h.len then None else Some (h, take h.len rest)

-- the event that bytes begin with: its head and its payload
unfoldable pub event_front : List ℕ → Option (Head × List ℕ)
event_front bytes = option_and_then (with_payload (drop 23 bytes)) (head_front bytes)

-- the mark that bytes begin with
unfoldable pub mark_front : List ℕ → Option (ℕ × ℕ)
mark_front bytes =
    if nat_lt (length bytes) 17 then None
    else if slice_index bytes 0 == 3 then
    (let scn = number_at w64 1 bytes in
    let prev = number_at w64 9 bytes in
    if nat_lt MAX_SCN scn || nat_le scn prev then None else Some (scn, prev))
    else None

-- the answer of a kind, with its number
abbrev pub answer_of : ℕ → ℕ → Option Answer
answer_of kind number =
    if kind == 32 then Some (NotFound number)
    else if kind == 33 then Some (Empty number)
    else if kind == 34 then Some (TooSmall number)
    else if kind == 35 then Some (Behind number)
    else if kind == 36 then Some (LogGone number)
    else if kind == 37 then Some (StartDelta number)
    else if kind == 38 then Some (StartSnapshot number)
    else if kind == 39 then Some (Target number)
    else None

-- the answer that bytes begin with
unfoldable pub answer_front : List ℕ → Option Answer
answer_front bytes =
    if nat_lt (length bytes) 9 then None
    else (let number = number_at w64 1 bytes in
    if nat_lt MAX_SCN number then None else answer_of (slice_index bytes 0) number)

-- the closing frame of a kind, an SCN and a flag
abbrev pub closing_with : ℕ → ℕ → ℕ → Option Closing
closing_with kind scn flag =
    if nat_lt MAX_SCN scn || nat_lt 1 flag then None
    else if kind == 4 then Some (record { run = Rows; scn = scn; more = flag == 1 })
    else if kind == 5 then Some (record { run = Changes; scn = scn; more = flag == 1 })
    else None

-- the closing frame that bytes begin with
unfoldable pub closing_front : List ℕ → Option Closing
closing_front bytes = if nat_lt (length bytes) 10 then None else closing_with (slice_index bytes 0) (number_at w64 1 bytes) (slice_index bytes 9)
