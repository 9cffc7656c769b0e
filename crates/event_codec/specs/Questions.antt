-- What is asked of a relay or a bootstrap beside the filter, and what can be replied.
use Rattle.std.specs.Prelude.{ℕ, Bool, List}
use Rattle.bus_types.specs.declared.change.Change.{Change}
use Rattle.bus_types.specs.declared.row.Cursor.{Cursor}
use Rattle.bus_types.specs.Window.{Span}
use Rattle.event_codec.specs.declared.answer.Answer.{Answer}

-- what is asked, beside the filter: the windows after an SCN; how to begin again; the rows after a cursor, none read before an
-- SCN; where a scan's replay is to end; the windows up to there; the last changes of the rows that changed. The last number of
-- those with windows, rows or changes is the most bytes of the reply
pub data Question : Type 0 where
  Stream : ℕ → ℕ → Question
  Start : ℕ → Bool → Question
  Scan : ℕ → Cursor → ℕ → Question
  Target : ℕ → ℕ → Question
  Catchup : ℕ → ℕ → ℕ → Question
  Delta : ℕ → ℕ → Cursor → ℕ → Question

-- a reply: cut windows; rows as puts, their SCN, and whether a row is left; changes, their SCN, and whether one is left; or an
-- answer
pub data Reply : Type 0 where
  Windows : List Span → Reply
  Rows : List Change → ℕ → Bool → Reply
  Changes : List Change → ℕ → Bool → Reply
  Only : Answer → Reply
