-- Marks: their rules, and the one text of each.
use Rattle.std.specs.Prelude.{◌≡◌, ℕ, ◌<◌, ◌≤◌, ◌^◌, List, ◌++◌, length, get_or, codes, decimal}
use Rattle.bus_types.specs.declared.row.Cursor.{Cursor}
use Rattle.bus_types.specs.declared.limits.TheConstants.{MAX_SCN}
use Rattle.bus_types.specs.Text.{IsCursor, cursor_text}
use Rattle.checkpoint.specs.declared.mark.Mark.{Mark}
use Rattle.checkpoint.specs.declared.mark.Mark.TheVariants.{Online, Delta, Snapshot, Scanned, Catchup}

-- a mark keeps the rule of its kind, and its SCNs are at most MAX_SCN
abbrev pub IsMark : Mark → Type 0
IsMark (Online scn) = scn ≤ MAX_SCN
IsMark (Delta since target cursor) = (since < target) × (target ≤ MAX_SCN) × IsCursor cursor
IsMark (Snapshot since start top cursor) = (start ≤ top) × (since ≤ MAX_SCN) × (top ≤ MAX_SCN) × IsCursor cursor
IsMark (Scanned since start top) = (start ≤ top) × (since ≤ MAX_SCN) × (top ≤ MAX_SCN)
IsMark (Catchup since start target at) = (start ≤ at) × (at < target) × (since ≤ target) × (target ≤ MAX_SCN)

-- compact JSON, the members in the order of their names
abbrev pub mark_text : Mark → List ℕ
mark_text (Online scn) = codes "{\"mode\":\"online\",\"scn\":" ++ decimal scn ++ codes "}"
mark_text (Delta since target cursor) =
    codes "{\"cursor\":\"" ++ cursor_text cursor ++ codes "\",\"mode\":\"delta\",\"since\":" ++ decimal since ++ codes ",\"target\":"
    ++ decimal target ++ codes "}"
mark_text (Snapshot since start top cursor) =
    codes "{\"cursor\":\"" ++ cursor_text cursor ++ codes "\",\"mode\":\"snapshot\",\"since\":" ++ decimal since ++ codes ",\"start\":"
    ++ decimal start ++ codes ",\"top\":" ++ decimal top ++ codes "}"
mark_text (Scanned since start top) =
    codes "{\"mode\":\"scanned\",\"since\":" ++ decimal since ++ codes ",\"start\":" ++ decimal start ++ codes ",\"top\":" ++ decimal top ++ codes "}"
mark_text (Catchup since start target at) =
    codes "{\"at\":" ++ decimal at ++ codes ",\"mode\":\"catchup\",\"since\":" ++ decimal since ++ codes ",\"start\":" ++ decimal start
    ++ codes ",\"target\":" ++ decimal target ++ codes "}"

-- bytes that may be the text of a mark, by their number and the first of them: no text of a mark has fewer or more, and each
-- begins with a brace
pub record MayBeMark (text : List ℕ) : Type 0 where
  pub least : 25 ≤ length text
  pub most : length text ≤ 139
  pub first : get_or text 0 0 ≡ 123

-- the SCN that the consumer stands at, or stood at before it began to move
abbrev pub floor_of : Mark → ℕ
floor_of (Online scn) = scn
floor_of (Delta since target cursor) = since
floor_of (Snapshot since start top cursor) = since
floor_of (Scanned since start top) = since
floor_of (Catchup since start target at) = since
