-- Rows of a scan and changes of a delta: which were asked for, and where bytes stop being them.
use Rattle.std.specs.Prelude.{◌≡◌, ℕ, ◌+◌, ◌<◌, ◌≤◌, ◌⊎◌, Bool, true, false, IsTrue, if◌then◌else◌, ◌&&◌, ◌||◌, ◌==◌, nat_lt, nat_le, List, [], ◌∷◌, ◌++◌, length, Option, Some, None, is_some}
use Rattle.bus_types.specs.declared.change.Change.{Change}
use Rattle.bus_types.specs.declared.limits.TheConstants.{MAX_SCN}
use Rattle.bus_types.specs.declared.row.Cursor.{Cursor}
use Rattle.bus_types.specs.declared.row.Cursor.TheVariants.{After}
use Rattle.bus_types.specs.Change.{name_of}
use Rattle.bus_types.specs.Rows.{is_after}
use Rattle.partition_filter.specs.Selection.{Selection, test_of}
use Rattle.event_codec.specs.Bytes.{Event, changes_bytes}
use Rattle.event_codec.specs.Frames.{Run, run_kind, Closing, IsClosing, closing_bytes}
use Rattle.event_codec.specs.Frames.Run.{Rows, Changes}
use Rattle.event_codec.specs.Forms.{run_bytes}
use Rattle.event_codec.specs.Parsing.{event_in_front, closing_in_front}
use Rattle.event_codec.specs.ReplyViews.{IsRunOf}

-- ---- what is wanted

-- what an item that comes next may be: a delete or only a put; of which SCNs; after which row; of which rows
pub record Wanted : Type 0 where
  pub deletes : Bool
  pub least : ℕ
  pub most : ℕ
  pub cursor : Cursor
  pub filter : Selection

-- rows after a cursor: puts of one SCN, from a least one on
abbrev pub rows_wanted : ℕ → Cursor → Selection → Wanted
rows_wanted start cursor filter = record { deletes = false; least = start; most = MAX_SCN; cursor = cursor; filter = filter }

-- changes after a cursor: puts and deletes, all of the SCN that the delta goes to
abbrev pub changes_wanted : ℕ → Cursor → Selection → Wanted
changes_wanted target cursor filter = record { deletes = true; least = target; most = target; cursor = cursor; filter = filter }

-- changes have deletes among them, rows have none
abbrev pub run_wanted : Wanted → Run
run_wanted w = if w.deletes then Changes else Rows

-- the most items of a reply
abbrev pub most_items : ℕ
most_items = 4294967295

abbrev pub is_scn_wanted : Wanted → ℕ → Bool
is_scn_wanted w n = nat_le w.least n && nat_le n w.most

-- whether a change of this SCN may come next
abbrev pub is_wanted : Wanted → ℕ → Change → Bool
is_wanted w n c = is_scn_wanted w n && (w.deletes || is_some c.put) && test_of w.filter c.source c.key && is_after w.cursor (name_of c)

-- what may come behind it: others of its SCN, after it
abbrev pub wanted_behind : Wanted → ℕ → Change → Wanted
wanted_behind w n c = record { deletes = w.deletes; least = n; most = n; cursor = After c.source c.key; filter = w.filter }

abbrev pub wanted_after : Wanted → ℕ → List Change → Wanted
wanted_after w n [] = w
wanted_after w n (c ∷ cs) = wanted_after (wanted_behind w n c) n cs

-- items of one SCN that may come one after the other
abbrev pub AreWanted : Wanted → ℕ → List Change → Type 0
AreWanted w n [] = Unit {0}
AreWanted w n (c ∷ cs) = IsTrue (is_wanted w n c) × AreWanted (wanted_behind w n c) n cs

-- whether a closing frame may come behind so many items. An item can be left only where one came
abbrev pub can_end : Wanted → ℕ → Closing → Bool
can_end w count c = run_kind c.run == run_kind (run_wanted w) && is_scn_wanted w c.scn && (if c.more then nat_lt 0 count else true)

-- ---- lawful runs

-- items and the closing frame with which they are a lawful reply
pub record AreAsked (w : Wanted) (cs : List Change) (scn : ℕ) (more : Bool) : Type 0 where
  pub formed : IsRunOf scn cs
  pub wanted : AreWanted w scn cs
  pub few : length cs ≤ most_items
  pub ends : IsTrue (can_end (wanted_after w scn cs) (length cs) (record { run = run_wanted w; scn = scn; more = more }))

-- the bytes of such a reply
pub record HoldsItems (w : Wanted) (bytes : List ℕ) (count scn : ℕ) (more : Bool) : Type 0 where
  pub changes : List Change
  pub spelled : bytes ≡ run_bytes (run_wanted w) changes scn more
  pub asked : AreAsked w changes scn more
  pub counted : count ≡ length changes

-- ---- faults

-- items with which a reply can begin, and the part behind them
pub record ItemsRead (w : Wanted) (bytes : List ℕ) : Type 0 where
  pub scn : ℕ
  pub changes : List Change
  pub part : List ℕ
  pub parts : bytes ≡ changes_bytes scn changes ++ part
  pub formed : IsRunOf scn changes
  pub wanted : AreWanted w scn changes
  pub few : length changes ≤ most_items

-- whether the event that stands in front, if one does, may come behind so many items
abbrev pub goes_on : Wanted → ℕ → Option (Event × List ℕ) → Bool
goes_on w count None = false
goes_on w count (Some x) = nat_lt count most_items && is_wanted w x.0.scn x.0.change

-- whether the closing frame that stands in front, if one does, may
abbrev pub ends : Wanted → ℕ → Option (Closing × List ℕ) → Bool
ends w count None = false
ends w count (Some x) = can_end w count x.0

-- bytes stand behind a closing frame that may end them
pub record StandsBehindFrame (w : Wanted) (count : ℕ) (part : List ℕ) : Type 0 where
  pub frame : Closing
  pub rest : List ℕ
  pub there : closing_in_front part ≡ Some (frame, rest)
  pub can : can_end w count frame ≡ true
  pub more : 0 < length rest

-- the place where bytes stop being such a reply: behind its closing frame, or where neither an item nor the frame that may come
-- stands
pub record ItemsStop (w : Wanted) (bytes : List ℕ) (place : ℕ) : Type 0 where
  pub read : ItemsRead w bytes
  pub stops :
      (StandsBehindFrame (wanted_after w read.scn read.changes) (length read.changes) read.part
      × (place ≡ length (changes_bytes read.scn read.changes) + 10))
      ⊎ ((goes_on (wanted_after w read.scn read.changes) (length read.changes) (event_in_front read.part) ≡ false)
      × (ends (wanted_after w read.scn read.changes) (length read.changes) (closing_in_front read.part) ≡ false)
      × (place ≡ length (changes_bytes read.scn read.changes)))
