-- The lines that commands print of relays, bootstraps and the replies that consumers take.
use Rattle.std.specs.Prelude.{ℕ, ◌==◌, if◌then◌else◌, Bool, List, [], ◌++◌, codes, decimal}
use Rattle.event_codec.specs.declared.answer.Answer.{Answer}
use Rattle.event_codec.specs.declared.answer.Answer.TheVariants.{NotFound, Empty, TooSmall, Behind, LogGone, StartDelta, StartSnapshot, Target}
use Rattle.event_codec.specs.declared.reply.Shape.{Shape}
use Rattle.event_codec.specs.declared.reply.Shape.TheVariants.{Windows, Rows, Changes, Only}
use Rattle.trace_script.specs.declared.printing.Stage.{Stage}
use Rattle.trace_script.specs.declared.printing.Stage.TheVariants as stages

-- ---- relays and bootstraps

-- a word and a number
abbrev pub line_with : List ℕ → ℕ → List ℕ
line_with word n = word ++ codes " " ++ decimal n ++ codes "\n"

-- a relay, by the SCNs of the newest windows that it has evicted and published
abbrev pub relay_line : ℕ → ℕ → List ℕ
relay_line floor end = codes "relay " ++ decimal floor ++ codes " " ++ decimal end ++ codes "\n"

-- a relay that has evicted windows, up to this SCN, that weren't logged
abbrev pub gap_line : ℕ → List ℕ
gap_line floor = line_with (codes "gap") floor

-- a bootstrap, by its numbers
abbrev pub boot_line : ℕ → ℕ → ℕ → List ℕ
boot_line base applied high = codes "boot " ++ decimal base ++ codes " " ++ decimal applied ++ codes " " ++ decimal high ++ codes "\n"

-- ---- replies, by the stage that their consumer was at when it asked

-- windows that were followed online
abbrev pub served_line : ℕ → ℕ → ℕ → List ℕ
served_line count bytes last = codes "served " ++ decimal count ++ codes " " ++ decimal bytes ++ codes " online " ++ decimal last ++ codes "\n"

-- windows that were replayed up to an SCN short of the target, and up to the target
abbrev pub replay_line : ℕ → ℕ → ℕ → List ℕ
replay_line count bytes last = codes "replay " ++ decimal count ++ codes " " ++ decimal bytes ++ codes " at " ++ decimal last ++ codes "\n"

abbrev pub replayed_line : ℕ → ℕ → ℕ → List ℕ
replayed_line count bytes target = codes "replay " ++ decimal count ++ codes " " ++ decimal bytes ++ codes " online " ++ decimal target ++ codes "\n"

-- windows are asked for online and at a catch-up alone
abbrev pub windows_line : Stage → ℕ → ℕ → ℕ → List ℕ
windows_line (stages.Online scn) count bytes last = served_line count bytes last
windows_line (stages.Delta target) count bytes last = []
windows_line stages.Snapshot count bytes last = []
windows_line (stages.Scanned start) count bytes last = []
windows_line (stages.Catchup target) count bytes last = if last == target then replayed_line count bytes target else replay_line count bytes last

-- rows at an SCN, of which more are left, and the last ones of a scan
abbrev pub left_line : ℕ → ℕ → ℕ → List ℕ
left_line count bytes scn = codes "rows " ++ decimal count ++ codes " " ++ decimal bytes ++ codes " at " ++ decimal scn ++ codes " more\n"

abbrev pub scanned_line : ℕ → ℕ → ℕ → List ℕ
scanned_line count bytes scn =
    codes "rows " ++ (decimal count ++ (codes " " ++ (decimal bytes ++ (codes " at " ++ (decimal scn ++ codes " scanned\n")))))

abbrev pub rows_line : ℕ → ℕ → ℕ → Bool → List ℕ
rows_line count bytes scn more = if more then left_line count bytes scn else scanned_line count bytes scn

-- last changes up to a target, and whether more are left
abbrev pub delta_line : ℕ → ℕ → ℕ → Bool → List ℕ
delta_line count bytes target more =
    if more then codes "changes " ++ decimal count ++ codes " " ++ decimal bytes ++ codes " more\n"
    else codes "changes " ++ decimal count ++ codes " " ++ decimal bytes ++ codes " online " ++ decimal target ++ codes "\n"

-- changes are asked for at a delta alone
abbrev pub changes_line : Stage → ℕ → ℕ → Bool → List ℕ
changes_line (stages.Online scn) count bytes more = []
changes_line (stages.Delta target) count bytes more = delta_line count bytes target more
changes_line stages.Snapshot count bytes more = []
changes_line (stages.Scanned start) count bytes more = []
changes_line (stages.Catchup target) count bytes more = []

-- a delta begins at the SCN where a consumer is online
abbrev pub delta_from_line : ℕ → ℕ → List ℕ
delta_from_line scn target = codes "start delta " ++ (decimal scn ++ (codes " " ++ (decimal target ++ codes "\n")))

abbrev pub delta_start_line : Stage → ℕ → List ℕ
delta_start_line (stages.Online scn) target = delta_from_line scn target
delta_start_line (stages.Delta old) target = []
delta_start_line stages.Snapshot target = []
delta_start_line (stages.Scanned start) target = []
delta_start_line (stages.Catchup old) target = []

-- a scan from a start is replayed up to a target, if that is later
abbrev pub target_line : Stage → ℕ → List ℕ
target_line (stages.Online scn) target = []
target_line (stages.Delta old) target = []
target_line stages.Snapshot target = []
target_line (stages.Scanned start) target = if target == start then codes "target " ++ decimal target ++ codes " online\n"
    else codes "target " ++ decimal target ++ codes " catchup\n"
target_line (stages.Catchup old) target = []

abbrev pub answer_line : Stage → Answer → List ℕ
answer_line stage (NotFound floor) = line_with (codes "notfound") floor
answer_line stage (Empty end) = line_with (codes "empty") end
answer_line stage (TooSmall need) = line_with (codes "small") need
answer_line stage (Behind high) = line_with (codes "behind") high
answer_line stage (LogGone base) = line_with (codes "gone") base
answer_line stage (StartDelta target) = delta_start_line stage target
answer_line stage (StartSnapshot applied) = codes "start snapshot " ++ decimal applied ++ codes "\n"
answer_line stage (Target target) = target_line stage target

-- what is printed of a reply of this shape with so many bytes
abbrev pub reply_line : Stage → Shape → ℕ → List ℕ
reply_line stage (Windows count last) bytes = windows_line stage count bytes last
reply_line stage (Rows count scn more) bytes = rows_line count bytes scn more
reply_line stage (Changes count more) bytes = changes_line stage count bytes more
reply_line stage (Only answer) bytes = answer_line stage answer
