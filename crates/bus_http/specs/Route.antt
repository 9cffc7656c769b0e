-- What is asked for by a path and its query.
use Rattle.std.specs.Prelude.{◌≡◌, ℕ, if◌then◌else◌, List, [], codes, bytes_eq, Option, Some, None, Result, Ok, Err}
use Rattle.bus_types.specs.Text.{cut_at}
use Rattle.bus_wire.specs.declared.ask.Ask.{Ask}
use Rattle.bus_wire.specs.declared.ask.Ask.TheVariants as asks
use Rattle.bus_wire.specs.Asks.{AsksBootstrap, IsAsk}
use Rattle.bus_http.specs.declared.route.Side.{Side}
use Rattle.bus_http.specs.declared.route.Side.TheVariants.{Relay, Boot}
use Rattle.bus_http.specs.declared.route.Route.{Route}
use Rattle.bus_http.specs.declared.route.Route.TheVariants.{Stream, Start, Scan, Target, Catchup, Delta}
use Rattle.bus_http.specs.declared.fault.QueryFault.{QueryFault}
use Rattle.bus_http.specs.declared.fault.QueryFault.TheVariants.{BadQuery, NoMemory}
use Rattle.bus_http.specs.Asking.{IsSized}
use Rattle.bus_http.specs.Query.{scn_in, scn_from, scn_above, max_in, filter_in, fresh_in, cursor_in}

-- ---- paths

-- the path and the query of a target: what stands before and after its first `?`
abbrev pub parts_of : List ℕ → List ℕ × List ℕ
parts_of target = parts_or target (cut_at 63 target)
  where
    parts_or : List ℕ → Option (List ℕ × List ℕ) → List ℕ × List ℕ
    parts_or target None = (target, [])
    parts_or target (Some parts) = parts

-- the paths of a bootstrap
unfoldable pub boot_route : List ℕ → Option Route
boot_route path =
    if bytes_eq path (codes "/start") then Some Start
    else if bytes_eq path (codes "/scan") then Some Scan
    else if bytes_eq path (codes "/target") then Some Target
    else if bytes_eq path (codes "/catchup") then Some Catchup
    else if bytes_eq path (codes "/delta") then Some Delta
    else None

-- what a path asks for, of those that a side has
unfoldable pub route_of : Side → List ℕ → Option Route
route_of Relay path = if bytes_eq path (codes "/stream") then Some Stream else None
route_of Boot path = boot_route path

-- ---- queries

-- a parameter, by its number in the order of its path; where it is at fault, its number
abbrev pub needed : {X Y : Type 0} → ℕ → Option X → (X → Result Y ℕ) → Result Y ℕ
needed name None next = Err name
needed name (Some x) next = next x

unfoldable pub stream_in : List ℕ → Result Ask ℕ
stream_in query =
    needed 0 (scn_in (codes "scn") query) (λ scn.
    needed 1 (filter_in query) (λ filter.
    needed 2 (max_in query) (λ max.
    Ok (asks.Stream scn filter max))))

unfoldable pub start_in : List ℕ → Result Ask ℕ
start_in query =
    needed 0 (scn_in (codes "since") query) (λ since.
    needed 1 (fresh_in query) (λ fresh.
    Ok (asks.Start since fresh)))

unfoldable pub scan_in : List ℕ → Result Ask ℕ
scan_in query =
    needed 0 (scn_in (codes "start") query) (λ start.
    needed 1 (cursor_in query) (λ cursor.
    needed 2 (filter_in query) (λ filter.
    needed 3 (max_in query) (λ max.
    Ok (asks.Scan start cursor filter max)))))

-- the target is asked for from the start on
unfoldable pub target_in : List ℕ → Result Ask ℕ
target_in query =
    needed 0 (scn_in (codes "start") query) (λ start.
    needed 1 (scn_from start (codes "atleast") query) (λ atleast.
    Ok (asks.Target start atleast)))

-- the target lies above the place
unfoldable pub catchup_in : List ℕ → Result Ask ℕ
catchup_in query =
    needed 0 (scn_in (codes "at") query) (λ place.
    needed 1 (scn_above place (codes "target") query) (λ target.
    needed 2 (filter_in query) (λ filter.
    needed 3 (max_in query) (λ max.
    Ok (asks.Catchup place target filter max)))))

unfoldable pub delta_in : List ℕ → Result Ask ℕ
delta_in query =
    needed 0 (scn_in (codes "since") query) (λ since.
    needed 1 (scn_above since (codes "target") query) (λ target.
    needed 2 (cursor_in query) (λ cursor.
    needed 3 (filter_in query) (λ filter.
    needed 4 (max_in query) (λ max.
    Ok (asks.Delta since target cursor filter max))))))

-- the ask of a path and a query, or the number of the first parameter that is at fault
unfoldable pub ask_in : Route → List ℕ → Result Ask ℕ
ask_in Stream query = stream_in query
ask_in Start query = start_in query
ask_in Scan query = scan_in query
ask_in Target query = target_in query
ask_in Catchup query = catchup_in query
ask_in Delta query = delta_in query

-- an ask for a stream is a relay's to answer
abbrev pub AsksRelay : Ask → Type 0
AsksRelay (asks.Stream scn filter max) = Unit {0}
AsksRelay (asks.Start since fresh) = ⊥
AsksRelay (asks.Scan start cursor filter max) = ⊥
AsksRelay (asks.Target start atleast) = ⊥
AsksRelay (asks.Catchup place target filter max) = ⊥
AsksRelay (asks.Delta since target cursor filter max) = ⊥

-- an ask that a side answers
abbrev pub AsksOf : Side → Ask → Type 0
AsksOf Relay ask = AsksRelay ask
AsksOf Boot ask = AsksBootstrap ask

-- the same, which keeps the rules of an ask and asks for a number of bytes in its range
pub record IsAskOf (side : Side) (ask : Ask) : Type 0 where
  pub asks_side : AsksOf side ask
  pub rules : IsAsk ask
  pub sized : IsSized ask

-- ---- calls

-- an ask of a path
abbrev pub AsksBy : Route → Ask → Type 0
AsksBy Stream ask = AsksRelay ask
AsksBy Start ask = AsksBootstrap ask
AsksBy Scan ask = AsksBootstrap ask
AsksBy Target ask = AsksBootstrap ask
AsksBy Catchup ask = AsksBootstrap ask
AsksBy Delta ask = AsksBootstrap ask

-- what a call answered of one parameter is what the query has
abbrev pub Finds : {X : Type 0} → ℕ → Result X QueryFault → Option X → Type 0
Finds name (Ok x) defined = defined ≡ Some x
Finds name (Err (BadQuery number)) defined = (number ≡ name) × (defined ≡ None)
Finds name (Err NoMemory) defined = Unit {0}

-- what a call answered is what the query asks for; want of memory says nothing
abbrev pub Asks : Result Ask QueryFault → Result Ask ℕ → Type 0
Asks (Ok ask) defined = defined ≡ Ok ask
Asks (Err (BadQuery name)) defined = defined ≡ Err name
Asks (Err NoMemory) defined = Unit {0}
