-- Where the head of a request or of an answer ends.
use Rattle.std.specs.Prelude.{ℕ, ◌+◌, ◌==◌, ◌&&◌, ◌||◌, nat_lt, Bool, false, if◌then◌else◌, List, [], ◌∷◌, Option, Some, None}
use Rattle.bus_http.specs.declared.ending.Seen.{Seen}
use Rattle.bus_http.specs.declared.ending.Seen.TheVariants.{Front, Inside, LineFeed, Return}

-- the most bytes of a head
abbrev pub most_head : ℕ
most_head = 16384

-- a byte of a line's end: CR or LF
abbrev pub is_line_end : ℕ → Bool
is_line_end b = b == 10 || b == 13

-- whether LF stands at the front
abbrev pub begins_lf : List ℕ → Bool
begins_lf [] = false
begins_lf (b ∷ bytes) = b == 10

-- the bytes of the empty line at the front, LF or CRLF, and none where none stands there
abbrev pub empty_line : List ℕ → ℕ
empty_line [] = 0
empty_line (b ∷ bytes) = if b == 10 then 1 else if b == 13 && begins_lf bytes then 2 else 0

-- behind the first other byte: behind the empty line that follows the first LF that one follows
abbrev pub end_inside : ℕ → List ℕ → Option ℕ
end_inside place [] = None
end_inside place (b ∷ bytes) = if b == 10 && nat_lt 0 (empty_line bytes) then Some (place + 1 + empty_line bytes) else end_inside (place + 1) bytes

-- the same from the front, where CR and LF belong to the head
abbrev pub end_from : ℕ → List ℕ → Option ℕ
end_from place [] = None
end_from place (b ∷ bytes) = if is_line_end b then end_from (place + 1) bytes else end_inside (place + 1) bytes

-- how many bytes the head at the front of these has, where it ends in them
unfoldable pub head_end : List ℕ → Option ℕ
head_end bytes = end_from 0 bytes

-- ---- as the bytes come

-- what stands behind one more byte that doesn't end the head
abbrev pub seen_after : Seen → ℕ → Seen
seen_after Front b = if is_line_end b then Front else Inside
seen_after Inside b = if b == 10 then LineFeed else Inside
seen_after LineFeed b = if b == 13 then Return else Inside
seen_after Return b = Inside

-- whether a byte ends the head
abbrev pub ends_with : Seen → ℕ → Bool
ends_with Front b = false
ends_with Inside b = false
ends_with LineFeed b = b == 10
ends_with Return b = b == 10

-- how many bytes the head has, of which so many came before these
abbrev pub end_after : ℕ → Seen → List ℕ → Option ℕ
end_after place seen [] = None
end_after place seen (b ∷ bytes) = if ends_with seen b then Some (place + 1) else end_after (place + 1) (seen_after seen b) bytes

-- what stands behind bytes that don't end the head
abbrev pub seen_behind : Seen → List ℕ → Seen
seen_behind seen [] = seen
seen_behind seen (b ∷ bytes) = seen_behind (seen_after seen b) bytes
