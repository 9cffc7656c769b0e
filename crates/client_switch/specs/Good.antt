-- When the rows of a client are right for its mark.
use Rattle.std.specs.Prelude.{◌≡◌, ℕ, ◌≤◌, max, Bool, true, false, List, None, is_some}
use Rattle.std.specs.FinMap.{is_sorted}
use Rattle.bus_types.specs.declared.change.RowName.{RowName}
use Rattle.bus_types.specs.Change.{Test, name_cmp}
use Rattle.bus_types.specs.Window.{Span}
use Rattle.bus_types.specs.Timeline.{end_of}
use Rattle.bus_types.specs.Table.{RowList, table, payload_at, last_between}
use Rattle.bus_types.specs.Rows.{is_after}
use Rattle.bus_types.specs.View.{view}
use Rattle.checkpoint.specs.declared.mark.Mark.{Mark}
use Rattle.checkpoint.specs.declared.mark.Mark.TheVariants.{Online, Delta, Snapshot, Scanned, Catchup}

-- a row is as in the table at an SCN, also where both lack it
abbrev pub IsAsAt : List Span → RowList → RowName → ℕ → Type 0
IsAsAt ws rows name scn = payload_at rows name ≡ payload_at (table ws scn) name

-- a row is as in the table at some SCN of a range, both ends of it included
pub record IsAsWithin (ws : List Span) (rows : RowList) (name : RowName) (from upto : ℕ) : Type 0 where
  pub at : ℕ
  pub low : from ≤ at
  pub high : at ≤ upto
  pub same : IsAsAt ws rows name at

-- the greatest SCN that a mark names
abbrev pub greatest : Mark → ℕ
greatest (Online scn) = scn
greatest (Delta since target cursor) = max since target
greatest (Snapshot since start top cursor) = max since (max start top)
greatest (Scanned since start top) = max since (max start top)
greatest (Catchup since start target at) = max since (max start (max target at))

-- whether a row that the test accepts changed in the windows with low < SCN <= high
abbrev pub changed : List Span → RowName → ℕ → ℕ → Bool
changed ws name low high = is_some (last_between ws name low high)

-- online: the view at the SCN. In a delta: up to the cursor as at the target, behind it as at the beginning. In a scan: up to the
-- cursor as at an SCN of its own from the start to the top, behind it nothing. Scanned: each as at such an SCN. In a replay: what
-- changed since the start as at where the replay is, else as at an SCN of its own from the start to the target
abbrev pub AreRight : List Span → Test → Mark → RowList → Type 0
AreRight ws test (Online scn) rows = rows ≡ view test ws scn
AreRight ws test (Delta since target cursor) rows =
    (name : RowName) → test name.source name.key ≡ true →
    (is_after cursor name ≡ false → IsAsAt ws rows name target) × (is_after cursor name ≡ true → IsAsAt ws rows name since)
AreRight ws test (Snapshot since start top cursor) rows =
    (name : RowName) → test name.source name.key ≡ true →
    (is_after cursor name ≡ false → IsAsWithin ws rows name start top) × (is_after cursor name ≡ true → payload_at rows name ≡ None)
AreRight ws test (Scanned since start top) rows =
    (name : RowName) → test name.source name.key ≡ true → IsAsWithin ws rows name start top
AreRight ws test (Catchup since start target at) rows =
    (since ≤ target) × ((name : RowName) → test name.source name.key ≡ true →
    (changed ws name start at ≡ true → IsAsAt ws rows name at) × (changed ws name start at ≡ false → IsAsWithin ws rows name start target))

-- rows and mark are good for a timeline and a test: a table of rows that the test accepts, right for the mark, and the timeline
-- has come to every SCN of the mark
pub record Good (ws : List Span) (test : Test) (mark : Mark) (rows : RowList) : Type 0 where
  pub ordered : is_sorted name_cmp rows ≡ true
  pub accepted : (name : RowName) → test name.source name.key ≡ false → payload_at rows name ≡ None
  pub come : greatest mark ≤ end_of ws
  pub right : AreRight ws test mark rows
