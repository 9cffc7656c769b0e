-- What an ask means: its question, the rows that it is about, and the rules that each ask keeps.
use Rattle.std.specs.Prelude.{ℕ, ◌<◌, ◌≤◌}
use Rattle.bus_types.specs.declared.limits.TheConstants.{MAX_SCN}
use Rattle.bus_types.specs.Change.{Test}
use Rattle.bus_types.specs.View.{everything}
use Rattle.partition_filter.specs.Selection.{Selection, test_of}
use Rattle.event_codec.specs.Questions.{Question}
use Rattle.event_codec.specs.Questions.Question.{Stream, Start, Scan, Target, Catchup, Delta}
use Rattle.bus_wire.specs.declared.ask.Ask.{Ask}
use Rattle.bus_wire.specs.declared.ask.Ask.TheVariants as asks

-- a question of who follows the rows of a filter, as an ask
abbrev pub ask_of : Selection → Question → Ask
ask_of filter (Stream scn most) = asks.Stream scn filter most
ask_of filter (Start since fresh) = asks.Start since fresh
ask_of filter (Scan start cursor most) = asks.Scan start cursor filter most
ask_of filter (Target start least) = asks.Target start least
ask_of filter (Catchup at target most) = asks.Catchup at target filter most
ask_of filter (Delta since target cursor most) = asks.Delta since target cursor filter most

-- the question of an ask
abbrev pub question_of : Ask → Question
question_of (asks.Stream scn filter max) = Stream scn max
question_of (asks.Start since fresh) = Start since fresh
question_of (asks.Scan start cursor filter max) = Scan start cursor max
question_of (asks.Target start atleast) = Target start atleast
question_of (asks.Catchup at target filter max) = Catchup at target max
question_of (asks.Delta since target cursor filter max) = Delta since target cursor max

-- the rows that it is about: where only SCNs are asked for, all are
abbrev pub test_in : Ask → Test
test_in (asks.Stream scn filter max) = test_of filter
test_in (asks.Start since fresh) = everything
test_in (asks.Scan start cursor filter max) = test_of filter
test_in (asks.Target start atleast) = everything
test_in (asks.Catchup at target filter max) = test_of filter
test_in (asks.Delta since target cursor filter max) = test_of filter

-- the rules of an ask: its SCNs are in their range, a replay and a delta go to a later SCN, and a target isn't asked for below the
-- start of its scan
abbrev pub IsAsk : Ask → Type 0
IsAsk (asks.Stream scn filter max) = scn ≤ MAX_SCN
IsAsk (asks.Start since fresh) = since ≤ MAX_SCN
IsAsk (asks.Scan start cursor filter max) = start ≤ MAX_SCN
IsAsk (asks.Target start atleast) = (start ≤ atleast) × (atleast ≤ MAX_SCN)
IsAsk (asks.Catchup at target filter max) = (at < target) × (target ≤ MAX_SCN)
IsAsk (asks.Delta since target cursor filter max) = (since < target) × (target ≤ MAX_SCN)

-- every ask but one for a stream is a bootstrap's to answer
abbrev pub AsksBootstrap : Ask → Type 0
AsksBootstrap (asks.Stream scn filter max) = ⊥
AsksBootstrap (asks.Start since fresh) = Unit {0}
AsksBootstrap (asks.Scan start cursor filter max) = Unit {0}
AsksBootstrap (asks.Target start atleast) = Unit {0}
AsksBootstrap (asks.Catchup at target filter max) = Unit {0}
AsksBootstrap (asks.Delta since target cursor filter max) = Unit {0}
