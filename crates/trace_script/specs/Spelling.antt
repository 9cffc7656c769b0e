-- The texts of a line, said without reading: each line that isn't blank has one text.
use Rattle.std.specs.Prelude.{◌≡◌, ℕ, ◌<◌, ◌≤◌, ◌^◌, Bool, true, false, ◌==◌, ◌&&◌, nat_lt, nat_le, List, [], ◌∷◌, ◌++◌, length, map, codes, decimal, Option, Some, None}
use Rattle.std.specs.List.{list_any, AllByRecursion, join_with_byte}
use Rattle.hex.specs.Hex.{encode_lower}
use Rattle.bus_types.specs.declared.change.Change.{Change}
use Rattle.bus_types.specs.Change.{AreChanges, key_text}
use Rattle.bus_types.specs.declared.limits.TheConstants.{MAX_SCN}
use Rattle.partition_filter.specs.Spelling.{IsFilter, filter_text}
use Rattle.trace_script.specs.declared.line.Line.{Line}
use Rattle.trace_script.specs.declared.line.Line.TheVariants.{Blank, Relay, Consumer, Commit, Gen, Feed, Poll, Show, Sum, Crash, Stop, Stream, Log, Apply, Trim, RestartBoot}
use Rattle.trace_script.specs.Words.{is_name_text}
use Rattle.trace_script.specs.Lines.{is_blank}

abbrev pub put_text : Option (List ℕ) → List ℕ
put_text None = codes "-"
put_text (Some payload) = codes "=" ++ encode_lower payload

-- `S/K=HEX` or `S/K-`
abbrev pub change_text : Change → List ℕ
change_text c = decimal c.source ++ codes "/" ++ key_text c.key ++ put_text c.put

-- when a stop comes: after the commit, or before it
abbrev pub when_text : Bool → List ℕ
when_text false = codes "before"
when_text true = codes "after"

-- the words of a line that isn't blank
abbrev pub line_words : Line → List (List ℕ)
line_words Blank = []
line_words (Relay bytes windows) = codes "relay" ∷ decimal bytes ∷ decimal windows ∷ []
line_words (Consumer name filter) = codes "consumer" ∷ name ∷ filter_text filter ∷ []
line_words (Commit scn changes) = codes "commit" ∷ decimal scn ∷ map change_text changes
line_words (Gen seed count) = codes "gen" ∷ decimal seed ∷ decimal count ∷ []
line_words (Feed count) = codes "feed" ∷ decimal count ∷ []
line_words (Poll name max) = codes "poll" ∷ name ∷ decimal max ∷ []
line_words (Show name) = codes "show" ∷ name ∷ []
line_words (Sum name) = codes "sum" ∷ name ∷ []
line_words (Crash name) = codes "crash" ∷ name ∷ []
line_words (Stop name after) = codes "stop" ∷ name ∷ when_text after ∷ []
line_words (Stream scn filter max) = codes "stream" ∷ decimal scn ∷ filter_text filter ∷ decimal max ∷ []
line_words (Log count) = codes "log" ∷ decimal count ∷ []
line_words (Apply count) = codes "apply" ∷ decimal count ∷ []
line_words (Trim scn) = codes "trim" ∷ decimal scn ∷ []
line_words RestartBoot = codes "restart" ∷ codes "boot" ∷ []

-- the words with one space between two of them
abbrev pub line_text : Line → List ℕ
line_text line = join_with_byte 32 (line_words line)

abbrev pub IsName : List ℕ → Type 0
IsName name = is_name_text name ≡ true

-- the bytes of a put are bytes
abbrev pub AreBytesOf : Option (List ℕ) → Type 0
AreBytesOf None = Unit {0}
AreBytesOf (Some payload) = AllByRecursion (λ b. b < 256) payload

-- the room of a relay: bytes and windows
abbrev pub IsRoom : ℕ → ℕ → Type 0
IsRoom bytes windows = (1048576 ≤ bytes) × (bytes ≤ 268435456) × (1 ≤ windows) × (windows ≤ 65536)

-- what windows are made from, and how many
abbrev pub IsGenerated : ℕ → ℕ → Type 0
IsGenerated seed count = (seed ≤ 2147483647) × (1 ≤ count) × (count ≤ 100000)

abbrev pub IsCount : ℕ → Type 0
IsCount count = (1 ≤ count) × (count ≤ 1000000)

-- the most bytes of a reply
abbrev pub IsMost : ℕ → Type 0
IsMost max = (1 ≤ max) × (max ≤ 16777216)

-- the names, numbers and filters of a line are in the ranges of the grammar
abbrev pub IsLine : Line → Type 0
IsLine Blank = Unit {0}
IsLine (Relay bytes windows) = IsRoom bytes windows
IsLine (Consumer name filter) = IsName name × IsFilter filter
IsLine (Commit scn changes) = (scn < 2 ^ 64) × (0 < length changes) × AreChanges changes × AllByRecursion (λ c. AreBytesOf c.put) changes
IsLine (Gen seed count) = IsGenerated seed count
IsLine (Feed count) = IsCount count
IsLine (Poll name max) = IsName name × IsMost max
IsLine (Show name) = IsName name
IsLine (Sum name) = IsName name
IsLine (Crash name) = IsName name
IsLine (Stop name after) = IsName name
IsLine (Stream scn filter max) = (scn ≤ MAX_SCN) × IsFilter filter × IsMost max
IsLine (Log count) = IsCount count
IsLine (Apply count) = IsCount count
IsLine (Trim scn) = scn ≤ MAX_SCN
IsLine RestartBoot = Unit {0}

-- the numbers of a line are in the ranges of the grammar, where these are narrower than those of their types
abbrev pub IsInRange : Line → Type 0
IsInRange Blank = Unit {0}
IsInRange (Relay bytes windows) = IsRoom bytes windows
IsInRange (Consumer name filter) = Unit {0}
IsInRange (Commit scn changes) = 0 < length changes
IsInRange (Gen seed count) = IsGenerated seed count
IsInRange (Feed count) = IsCount count
IsInRange (Poll name max) = IsMost max
IsInRange (Show name) = Unit {0}
IsInRange (Sum name) = Unit {0}
IsInRange (Crash name) = Unit {0}
IsInRange (Stop name after) = Unit {0}
IsInRange (Stream scn filter max) = (scn ≤ MAX_SCN) × IsMost max
IsInRange (Log count) = IsCount count
IsInRange (Apply count) = IsCount count
IsInRange (Trim scn) = scn ≤ MAX_SCN
IsInRange RestartBoot = Unit {0}

-- ---- the same ranges as tests

abbrev pub is_room : ℕ → ℕ → Bool
is_room bytes windows = nat_le 1048576 bytes && nat_le bytes 268435456 && nat_le 1 windows && nat_le windows 65536

abbrev pub is_generated : ℕ → ℕ → Bool
is_generated seed count = nat_le seed 2147483647 && nat_le 1 count && nat_le count 100000

abbrev pub is_count : ℕ → Bool
is_count count = nat_le 1 count && nat_le count 1000000

abbrev pub is_most : ℕ → Bool
is_most max = nat_le 1 max && nat_le max 16777216

abbrev pub is_in_range : Line → Bool
is_in_range Blank = true
is_in_range (Relay bytes windows) = is_room bytes windows
is_in_range (Consumer name filter) = true
is_in_range (Commit scn changes) = nat_lt 0 (length changes)
is_in_range (Gen seed count) = is_generated seed count
is_in_range (Feed count) = is_count count
is_in_range (Poll name max) = is_most max
is_in_range (Show name) = true
is_in_range (Sum name) = true
is_in_range (Crash name) = true
is_in_range (Stop name after) = true
is_in_range (Stream scn filter max) = nat_le scn MAX_SCN && is_most max
is_in_range (Log count) = is_count count
is_in_range (Apply count) = is_count count
is_in_range (Trim scn) = nat_le scn MAX_SCN
is_in_range RestartBoot = true

-- ---- filters and texts

-- the text of its filter, where it has one
abbrev pub filter_part : Line → List ℕ
filter_part (Consumer name filter) = filter_text filter
filter_part (Stream scn filter max) = filter_text filter
filter_part line = []

-- its filter, where it has one, is in the ranges of the grammar
abbrev pub IsFiltered : Line → Type 0
IsFiltered (Consumer name filter) = IsFilter filter
IsFiltered (Stream scn filter max) = IsFilter filter
IsFiltered line = Unit {0}

-- a blank line is empty or a comment, and any other line is its words
abbrev pub Spells : List ℕ → Line → Type 0
Spells text Blank = (is_blank text ≡ true) × (list_any (λ b. b == 13) text ≡ false)
Spells text line = IsLine line × (text ≡ line_text line)
