-- What a lawful reply shows without the timeline.
use Rattle.std.specs.Prelude.{ℕ, ◌<◌, ◌≤◌, max, List}
use Rattle.std.specs.List.{AllByRecursion}
use Rattle.bus_types.specs.Window.{Span}
use Rattle.event_codec.specs.declared.answer.Answer.{Answer}
use Rattle.event_codec.specs.declared.answer.Answer.TheVariants.{NotFound, Empty, TooSmall, Behind, LogGone, StartDelta, StartSnapshot, Target as GoTo}
use Rattle.checkpoint.specs.declared.mark.Mark.{Mark}
use Rattle.checkpoint.specs.declared.mark.Mark.TheVariants.{Online, Delta, Snapshot, Scanned, Catchup}
use Rattle.event_codec.specs.Questions.{Reply}
use Rattle.event_codec.specs.Questions.Reply.{Windows, Rows, Changes, Only}

-- the SCN after which a mark asks for windows, or 0 where it asks for none
abbrev pub asked_after : Mark → ℕ
asked_after (Online scn) = scn
asked_after (Delta since target cursor) = 0
asked_after (Snapshot since start top cursor) = 0
asked_after (Scanned since start top) = 0
asked_after (Catchup since start target at) = at

-- the least SCN at which a mark's replay can end, or 0 where it asks for no target
abbrev pub asked_least : Mark → ℕ
asked_least (Online scn) = 0
asked_least (Delta since target cursor) = 0
asked_least (Snapshot since start top cursor) = 0
asked_least (Scanned since start top) = max start (max since top)
asked_least (Catchup since start target at) = 0

abbrev pub AreAbove : ℕ → List Span → Type 0
AreAbove scn ws = AllByRecursion (λ w. scn < w.scn) ws

abbrev pub IsLawfulAnswer : Mark → Answer → Type 0
IsLawfulAnswer mark (NotFound floor) = Unit {0}
IsLawfulAnswer mark (Empty end) = Unit {0}
IsLawfulAnswer mark (TooSmall need) = Unit {0}
IsLawfulAnswer mark (Behind high) = Unit {0}
IsLawfulAnswer mark (LogGone base) = Unit {0}
IsLawfulAnswer mark (StartDelta high) = Unit {0}
IsLawfulAnswer mark (StartSnapshot applied) = Unit {0}
IsLawfulAnswer mark (GoTo t) = asked_least mark ≤ t

-- of what a lawful reply shows, this alone bears on where a client stands: windows are above the SCN after which they were
-- asked for, and a replay ends at or above the least SCN that was asked for
abbrev pub IsLawfulFor : Mark → Reply → Type 0
IsLawfulFor mark (Windows ws) = AreAbove (asked_after mark) ws
IsLawfulFor mark (Rows cs scn more) = Unit {0}
IsLawfulFor mark (Changes cs scn more) = Unit {0}
IsLawfulFor mark (Only answer) = IsLawfulAnswer mark answer
