-- The words that start a node.
use Rattle.std.specs.Prelude.{ℕ, ◌*◌, ◌≤◌, ◌==◌, ◌&&◌, Bool, true, false, not, if◌then◌else◌, bytes_eq, List, [], ◌∷◌, length, codes, Option, Some, None}
use Rattle.std.specs.List.{list_all}
use Rattle.bus_types.specs.Text.{◌>>=◌}
use Rattle.partition_filter.specs.Selection.{Selection}
use Rattle.trace_script.specs.Words.{number_in, name_of, selection_of}
use Rattle.bus_node.specs.declared.words.RelayWords.{RelayWords}
use Rattle.bus_node.specs.declared.words.BootstrapWords.{BootstrapWords}
use Rattle.bus_node.specs.declared.words.ConsumeWords.{ConsumeWords}
use Rattle.bus_node.specs.declared.words.Polling.{Polling}
use Rattle.bus_node.specs.declared.words.NodeWords.{NodeWords}
use Rattle.bus_node.specs.declared.words.NodeWords.TheVariants.{Relay, Bootstrap, Consume}

-- an option: its name and its value
abbrev pub Pair : Type 0
Pair = List ℕ × List ℕ

-- words two by two; a last one alone is no option
abbrev pub in_pairs : List (List ℕ) → List Pair
in_pairs [] = []
in_pairs (name ∷ []) = []
in_pairs (name ∷ value ∷ words) = (name, value) ∷ in_pairs words

-- the value of an option, where it stands
abbrev pub value_of : List ℕ → List Pair → Option (List ℕ)
value_of name [] = None
value_of name (pair ∷ pairs) = if bytes_eq pair.0 name then Some pair.1 else value_of name pairs

-- the word of an option, by its name: two hyphens (45) and the name
abbrev pub option_word : List ℕ → List ℕ
option_word name = 45 ∷ 45 ∷ name

-- what options say, by their names
abbrev pub Values : Type 0
Values = List ℕ → Option (List ℕ)

-- what some pairs say
abbrev pub values_of : List Pair → Values
values_of pairs name = value_of (option_word name) pairs

-- options that are as many as wanted: where each wanted one stands, it stands once, and no other does
unfoldable pub options_of : ℕ → List (List ℕ) → Option (List Pair)
options_of count words = if length words == count * 2 then Some (in_pairs words) else None

-- ---- values

-- the number from one to another that an option says
unfoldable pub number_at : List ℕ → ℕ → ℕ → Values → Option ℕ
number_at name least most values = do
  text ← values name
  number_in least most text

abbrev pub port_at : List ℕ → Values → Option ℕ
port_at name values = number_at name 1 65535 values

abbrev pub count_at : List ℕ → Values → Option ℕ
count_at name values = number_at name 1 1000000 values

-- the name of a consumer that an option says
unfoldable pub name_at : List ℕ → Values → Option (List ℕ)
name_at name values = do
  text ← values name
  name_of text

-- the filter that an option spells
unfoldable pub filter_at : List ℕ → Values → Option Selection
filter_at name values = do
  text ← values name
  selection_of text

-- ---- nodes

-- what the options of a relay say
unfoldable pub relay_at : Values → Option RelayWords
relay_at values = do
  port ← port_at (codes "port") values
  bytes ← number_at (codes "bytes") 1048576 268435456 values
  windows ← number_at (codes "windows") 1 65536 values
  connections ← count_at (codes "connections") values
  Some (record { port = port; bytes = bytes; windows = windows; connections = connections })

-- of a bootstrap
unfoldable pub bootstrap_at : Values → Option BootstrapWords
bootstrap_at values = do
  port ← port_at (codes "port") values
  relay ← port_at (codes "relay") values
  rounds ← count_at (codes "rounds") values
  connections ← count_at (codes "connections") values
  Some (record { port = port; relay = relay; rounds = rounds; connections = connections })

-- of a consumer but its name and its filter
unfoldable pub polling_at : Values → Option Polling
polling_at values = do
  relay ← port_at (codes "relay") values
  bootstrap ← port_at (codes "bootstrap") values
  polls ← count_at (codes "polls") values
  max ← number_at (codes "max") 1 16777216 values
  Some (record { relay = relay; bootstrap = bootstrap; polls = polls; max = max })

-- of a consumer
unfoldable pub consume_at : Values → Option ConsumeWords
consume_at values = do
  name ← name_at (codes "name") values
  polling ← polling_at values
  filter ← filter_at (codes "filter") values
  Some (record { name = name; filter = filter; relay = polling.relay; bootstrap = polling.bootstrap; polls = polling.polls; max = polling.max })

unfoldable pub relay_words : List (List ℕ) → Option RelayWords
relay_words words = do
  pairs ← options_of 4 words
  relay_at (values_of pairs)

unfoldable pub bootstrap_words : List (List ℕ) → Option BootstrapWords
bootstrap_words words = do
  pairs ← options_of 4 words
  bootstrap_at (values_of pairs)

unfoldable pub consume_words : List (List ℕ) → Option ConsumeWords
consume_words words = do
  pairs ← options_of 6 words
  consume_at (values_of pairs)

unfoldable pub relay_node : List (List ℕ) → Option NodeWords
relay_node words = do
  found ← relay_words words
  Some (Relay found)

unfoldable pub bootstrap_node : List (List ℕ) → Option NodeWords
bootstrap_node words = do
  found ← bootstrap_words words
  Some (Bootstrap found)

unfoldable pub consume_node : List (List ℕ) → Option NodeWords
consume_node words = do
  found ← consume_words words
  Some (Consume found)

-- the node that words start: its word, and then its options
unfoldable pub node_words : List (List ℕ) → Option NodeWords
node_words [] = None
node_words (first ∷ words) =
    if bytes_eq first (codes "relay") then relay_node words
    else if bytes_eq first (codes "bootstrap") then bootstrap_node words
    else if bytes_eq first (codes "consume") then consume_node words
    else None

-- ---- the plain form

-- a value that begins with no hyphen, as no number, name or filter does
abbrev pub is_plain_value : List ℕ → Bool
is_plain_value [] = true
is_plain_value (b ∷ bs) = not (b == 45)

-- an option stands, with such a value
abbrev pub is_said : Option (List ℕ) → Bool
is_said None = false
is_said (Some value) = is_plain_value value

-- words are as many options as there are names, and the option of each name stands, with such a value
abbrev pub has_options : List (List ℕ) → List (List ℕ) → Bool
has_options names words = length words == length names * 2 && list_all (λ name. is_said (values_of (in_pairs words) name)) names

-- the names of each node's options
abbrev pub relay_names : List (List ℕ)
relay_names = codes "port" ∷ codes "bytes" ∷ codes "windows" ∷ codes "connections" ∷ []

abbrev pub bootstrap_names : List (List ℕ)
bootstrap_names = codes "port" ∷ codes "relay" ∷ codes "rounds" ∷ codes "connections" ∷ []

abbrev pub consume_names : List (List ℕ)
consume_names = codes "name" ∷ codes "filter" ∷ codes "relay" ∷ codes "bootstrap" ∷ codes "polls" ∷ codes "max" ∷ []

-- the word of a node, and then its options, whatever their values
unfoldable pub is_plain : List (List ℕ) → Bool
is_plain [] = false
is_plain (first ∷ words) =
    if bytes_eq first (codes "relay") then has_options relay_names words
    else if bytes_eq first (codes "bootstrap") then has_options bootstrap_names words
    else if bytes_eq first (codes "consume") then has_options consume_names words
    else false

-- ---- ranges

abbrev pub IsPort : ℕ → Type 0
IsPort n = (1 ≤ n) × (n ≤ 65535)

abbrev pub IsCount : ℕ → Type 0
IsCount n = (1 ≤ n) × (n ≤ 1000000)

-- the numbers of a relay's words are in their ranges
pub record IsRelay (w : RelayWords) : Type 0 where
  pub port : IsPort w.port
  pub bytes : (1048576 ≤ w.bytes) × (w.bytes ≤ 268435456)
  pub windows : (1 ≤ w.windows) × (w.windows ≤ 65536)
  pub connections : IsCount w.connections

-- those of a bootstrap's are
pub record IsBootstrap (w : BootstrapWords) : Type 0 where
  pub port : IsPort w.port
  pub relay : IsPort w.relay
  pub rounds : IsCount w.rounds
  pub connections : IsCount w.connections

-- those of a consumer's are, but its name and its filter
pub record IsPolling (p : Polling) : Type 0 where
  pub relay : IsPort p.relay
  pub bootstrap : IsPort p.bootstrap
  pub polls : IsCount p.polls
  pub max : (1 ≤ p.max) × (p.max ≤ 16777216)

pub record IsConsume (w : ConsumeWords) : Type 0 where
  pub relay : IsPort w.relay
  pub bootstrap : IsPort w.bootstrap
  pub polls : IsCount w.polls
  pub max : (1 ≤ w.max) × (w.max ≤ 16777216)

-- those of a node's are
abbrev pub IsInRange : NodeWords → Type 0
IsInRange (Relay w) = IsRelay w
IsInRange (Bootstrap w) = IsBootstrap w
IsInRange (Consume w) = IsConsume w
