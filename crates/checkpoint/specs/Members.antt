-- A mark as a JSON object, and the mark that a JSON object holds, whatever else stands in it.
use Rattle.std.specs.Prelude.{if◌then◌else◌, List, [], ◌∷◌, ℕ, codes, bytes_eq, Option, Some, None}
use Rattle.bus_types.specs.declared.row.Cursor.{Cursor}
use Rattle.bus_types.specs.Text.{◌>>=◌, cursor_text, cursor_of}
use Rattle.serde_json.specs.Data.{Data}
use Rattle.json_forms.specs.Objects.{Number, Text, Fixed, Member, object_data, text_at, number_at}
use Rattle.checkpoint.specs.declared.mark.Mark.{Mark}
use Rattle.checkpoint.specs.declared.mark.Mark.TheVariants.{Online, Delta, Snapshot, Scanned, Catchup}

-- ---- from a mark

-- the members of each mark, in the order of their names
abbrev pub mark_members : Mark → List Member
mark_members (Online scn) = (codes "mode", Fixed (codes "online")) ∷ (codes "scn", Number scn) ∷ []
mark_members (Delta since target cursor) =
    (codes "cursor", Text (cursor_text cursor)) ∷ (codes "mode", Fixed (codes "delta")) ∷ (codes "since", Number since)
    ∷ (codes "target", Number target) ∷ []
mark_members (Snapshot since start top cursor) =
    (codes "cursor", Text (cursor_text cursor)) ∷ (codes "mode", Fixed (codes "snapshot")) ∷ (codes "since", Number since)
    ∷ (codes "start", Number start) ∷ (codes "top", Number top) ∷ []
mark_members (Scanned since start top) =
    (codes "mode", Fixed (codes "scanned")) ∷ (codes "since", Number since) ∷ (codes "start", Number start) ∷ (codes "top", Number top) ∷ []
mark_members (Catchup since start target at) =
    (codes "at", Number at) ∷ (codes "mode", Fixed (codes "catchup")) ∷ (codes "since", Number since) ∷ (codes "start", Number start)
    ∷ (codes "target", Number target) ∷ []

abbrev pub data_of : Mark → Data
data_of mark = object_data (mark_members mark)

-- ---- from an object

-- the member `cursor`
abbrev pub cursor_at : Data → Option Cursor
cursor_at d = text_at (codes "cursor") d >>= cursor_of

-- the mark of each kind, of the members that it has
unfoldable pub online_in : Data → Option Mark
online_in d = do
  scn ← number_at (codes "scn") d
  Some (Online scn)

unfoldable pub delta_in : Data → Option Mark
delta_in d = do
  since ← number_at (codes "since") d
  target ← number_at (codes "target") d
  cursor ← cursor_at d
  Some (Delta since target cursor)

unfoldable pub snapshot_in : Data → Option Mark
snapshot_in d = do
  since ← number_at (codes "since") d
  start ← number_at (codes "start") d
  top ← number_at (codes "top") d
  cursor ← cursor_at d
  Some (Snapshot since start top cursor)

unfoldable pub scanned_in : Data → Option Mark
scanned_in d = do
  since ← number_at (codes "since") d
  start ← number_at (codes "start") d
  top ← number_at (codes "top") d
  Some (Scanned since start top)

unfoldable pub catchup_in : Data → Option Mark
catchup_in d = do
  since ← number_at (codes "since") d
  start ← number_at (codes "start") d
  target ← number_at (codes "target") d
  at ← number_at (codes "at") d
  Some (Catchup since start target at)

-- the mark of this mode
unfoldable pub mode_in : List ℕ → Data → Option Mark
mode_in mode d =
    if bytes_eq mode (codes "online") then online_in d
    else if bytes_eq mode (codes "delta") then delta_in d
    else if bytes_eq mode (codes "snapshot") then snapshot_in d
    else if bytes_eq mode (codes "scanned") then scanned_in d
    else if bytes_eq mode (codes "catchup") then catchup_in d
    else None

-- the mark by the member `mode`
abbrev pub mark_in : Data → Option Mark
mark_in d = text_at (codes "mode") d >>= λ mode. mode_in mode d
