-- The reply of what a relay serves.
use Rattle.std.specs.Prelude.{ℕ, length}
use Rattle.bus_types.specs.declared.limits.TheConstants.{MAX_SCN}
use Rattle.bus_types.specs.Timeline.{end_of}
use Rattle.bus_types.specs.Relay.{Served}
use Rattle.bus_types.specs.Relay.Served.{NotFound, Empty, TooSmall, Windows}
use Rattle.partition_filter.specs.Selection.{Selection}
use Rattle.event_codec.specs.declared.answer.Answer.TheVariants as answers
use Rattle.event_codec.specs.declared.reply.Shape.{Shape}
use Rattle.event_codec.specs.declared.reply.Shape.TheVariants as shapes
use Rattle.event_codec.specs.Reply.{reply_bytes}
use Rattle.bus_wire.specs.declared.ask.Ask.{Ask}
use Rattle.bus_wire.specs.declared.ask.Ask.TheVariants.{Stream}
use Rattle.bus_wire.specs.Lawful.{IsAnswerTo, IsRun, IsLawful}

-- its shape
abbrev pub served_shape : Served → Shape
served_shape (NotFound floor) = shapes.Only (answers.NotFound floor)
served_shape (Empty end) = shapes.Only (answers.Empty end)
served_shape (TooSmall need) = shapes.Only (answers.TooSmall need)
served_shape (Windows ws) = shapes.Windows (length ws) (end_of ws)

-- it is an answer to a stream that was asked for, or a run of its windows
abbrev pub Serves : ℕ → Selection → ℕ → Served → Type 0
Serves scn filter max (NotFound floor) = IsAnswerTo (Stream scn filter max) (answers.NotFound floor)
Serves scn filter max (Empty end) = IsAnswerTo (Stream scn filter max) (answers.Empty end)
Serves scn filter max (TooSmall need) = IsAnswerTo (Stream scn filter max) (answers.TooSmall need)
Serves scn filter max (Windows ws) = IsRun scn MAX_SCN filter ws

-- it is a lawful reply
abbrev pub IsLawfullyServed : Ask → Served → Type 0
IsLawfullyServed ask served = IsLawful ask (reply_bytes served) (served_shape served)
