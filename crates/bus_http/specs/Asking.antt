-- What a client writes to ask.
use Rattle.std.specs.Prelude.{ℕ, ◌≤◌, List, [], ◌∷◌, ◌++◌, Bool, true, false, codes, decimal}
use Rattle.form_urlencoded.specs.Form.{extend_pairs}
use Rattle.partition_filter.specs.Spelling.{filter_text, IsFilter}
use Rattle.bus_types.specs.Text.{IsCursor, cursor_text}
use Rattle.bus_wire.specs.declared.ask.Ask.{Ask}
use Rattle.bus_wire.specs.declared.ask.Ask.TheVariants.{Stream, Start, Scan, Target, Catchup, Delta}

-- `1` or `0`
abbrev pub flag_text : Bool → List ℕ
flag_text true = codes "1"
flag_text false = codes "0"

-- the path of an ask
abbrev pub path_of : Ask → List ℕ
path_of (Stream scn filter max) = codes "/stream"
path_of (Start since fresh) = codes "/start"
path_of (Scan start cursor filter max) = codes "/scan"
path_of (Target start atleast) = codes "/target"
path_of (Catchup at target filter max) = codes "/catchup"
path_of (Delta since target cursor filter max) = codes "/delta"

-- its parameters, in the order of the path
abbrev pub pairs_of : Ask → List (List ℕ × List ℕ)
pairs_of (Stream scn filter max) = (codes "scn", decimal scn) ∷ (codes "filter", filter_text filter) ∷ (codes "max", decimal max) ∷ []
pairs_of (Start since fresh) = (codes "since", decimal since) ∷ (codes "fresh", flag_text fresh) ∷ []
pairs_of (Scan start cursor filter max) =
    (codes "start", decimal start) ∷ (codes "cursor", cursor_text cursor) ∷ (codes "filter", filter_text filter) ∷ (codes "max", decimal max) ∷ []
pairs_of (Target start atleast) = (codes "start", decimal start) ∷ (codes "atleast", decimal atleast) ∷ []
pairs_of (Catchup at target filter max) =
    (codes "at", decimal at) ∷ (codes "target", decimal target) ∷ (codes "filter", filter_text filter) ∷ (codes "max", decimal max) ∷ []
pairs_of (Delta since target cursor filter max) =
    (codes "since", decimal since) ∷ (codes "target", decimal target) ∷ (codes "cursor", cursor_text cursor) ∷ (codes "filter", filter_text filter)
    ∷ (codes "max", decimal max) ∷ []

-- the request of an ask: its parameters are written as a form
abbrev pub ask_text : Ask → List ℕ
ask_text ask = codes "GET " ++ path_of ask ++ codes "?" ++ extend_pairs [] (pairs_of ask) ++ codes " HTTP/1.1\r\nHost: localhost\r\n\r\n"

-- the most bytes that are asked for are in their range, as the numbers of a cursor are, and the filter is one
abbrev pub IsInRange : Ask → Type 0
IsInRange (Stream scn filter max) = IsFilter filter × (1 ≤ max) × (max ≤ 16777216)
IsInRange (Start since fresh) = Unit {0}
IsInRange (Scan start cursor filter max) = IsCursor cursor × IsFilter filter × (1 ≤ max) × (max ≤ 16777216)
IsInRange (Target start atleast) = Unit {0}
IsInRange (Catchup at target filter max) = IsFilter filter × (1 ≤ max) × (max ≤ 16777216)
IsInRange (Delta since target cursor filter max) = IsCursor cursor × IsFilter filter × (1 ≤ max) × (max ≤ 16777216)

-- the most bytes that are asked for are in their range
abbrev pub IsSized : Ask → Type 0
IsSized (Stream scn filter max) = (1 ≤ max) × (max ≤ 16777216)
IsSized (Start since fresh) = Unit {0}
IsSized (Scan start cursor filter max) = (1 ≤ max) × (max ≤ 16777216)
IsSized (Target start atleast) = Unit {0}
IsSized (Catchup at target filter max) = (1 ≤ max) × (max ≤ 16777216)
IsSized (Delta since target cursor filter max) = (1 ≤ max) × (max ≤ 16777216)
