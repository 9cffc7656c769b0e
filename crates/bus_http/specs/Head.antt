-- What the head of a request means.
use Rattle.std.specs.Prelude.{◌≡◌, ℕ, ◌≤◌, ◌⊎◌, ◌==◌, ◌||◌, ◌&&◌, not, Bool, if◌then◌else◌, List, [], length, map, codes, bytes_eq, Option, Some, None, Result, Ok, Err}
use Rattle.std.specs.Char.{to_ascii_lowercase}
use Rattle.std.specs.List.{list_any}
use Rattle.httparse.specs.Grammar.{RequestHead, ReadsRequest}
use Rattle.httparse.specs.Spans.{name_and_value}
use Rattle.bus_wire.specs.declared.ask.Ask.{Ask}
use Rattle.bus_http.specs.declared.fault.QueryFault.{QueryFault}
use Rattle.bus_http.specs.declared.fault.QueryFault.TheVariants as queries
use Rattle.bus_http.specs.declared.fault.HeadFault.{HeadFault}
use Rattle.bus_http.specs.declared.fault.HeadFault.TheVariants as heads
use Rattle.bus_http.specs.declared.fault.RequestFault.{RequestFault}
use Rattle.bus_http.specs.declared.fault.RequestFault.TheVariants.{BadHead, BadMethod, NoSuchPath, BadQuery}
use Rattle.bus_http.specs.declared.request.Request.{Request}
use Rattle.bus_http.specs.declared.route.Side.{Side}
use Rattle.bus_http.specs.declared.route.Route.{Route}
use Rattle.bus_http.specs.Route.{parts_of, route_of, ask_in}

-- ---- headers, each as its name and its value without the white space around it

-- the same word in any case of letters
abbrev pub is_word : List ℕ → List ℕ → Bool
is_word a b = bytes_eq (map to_ascii_lowercase a) (map to_ascii_lowercase b)

-- a body follows in chunks, or one that isn't empty
abbrev pub says_body : List ℕ × List ℕ → Bool
says_body header = is_word header.0 (codes "transfer-encoding") || (is_word header.0 (codes "content-length") && not (bytes_eq header.1 (codes "0")))

-- no request follows
abbrev pub says_close : List ℕ × List ℕ → Bool
says_close header = is_word header.0 (codes "connection") && is_word header.1 (codes "close")

-- ---- heads

-- the request of a query, or the number of the parameter at fault
abbrev pub asked : Bool → Result Ask ℕ → Result Request RequestFault
asked close (Ok ask) = Ok record { ask = ask; close = close }
asked close (Err name) = Err (BadQuery name)

-- the request of a path and a query
unfoldable pub answered : Bool → Option Route → List ℕ → Result Request RequestFault
answered close None query = Err NoSuchPath
answered close (Some route) query = asked close (ask_in route query)

-- what the parts of a head ask for: the first refusal that applies, or the request. One of HTTP/1.0 asks to close.
unfoldable pub requested : Side → List ℕ → List ℕ → ℕ → List (List ℕ × List ℕ) → Result Request RequestFault
requested side method target minor headers =
    if list_any says_body headers then Err BadHead
    else if bytes_eq method (codes "GET") then
    answered (minor == 0 || list_any says_close headers) (route_of side (parts_of target).0) (parts_of target).1
    else Err BadMethod

abbrev pub meaning : Side → RequestHead → Result Request RequestFault
meaning side h = requested side h.method h.target h.minor (map name_and_value h.fields)

-- the whole text is one head of HTTP's grammar, of at most 64 header lines
pub record IsHead (text : List ℕ) (h : RequestHead) : Type 0 where
  pub reads : ReadsRequest text h []
  pub lines : length h.fields ≤ 64

-- what a text means up to its end of a head: what its head means, and a bad head where it is none
abbrev pub Means : Side → List ℕ → Result Request RequestFault → Type 0
Means side text result =
    ((h : RequestHead) × IsHead text h × (result ≡ meaning side h))
    ⊎ (((h : RequestHead) → IsHead text h → ⊥) × (result ≡ Err BadHead))

-- ---- calls

-- a fault of a query, as one of its head
abbrev pub fault_of : QueryFault → HeadFault
fault_of (queries.BadQuery name) = heads.BadQuery name
fault_of queries.NoMemory = heads.NoMemory

-- what a call says of a head, where memory sufficed
abbrev pub told : Result Request HeadFault → Option (Result Request RequestFault)
told (Ok request) = Some (Ok request)
told (Err heads.BadHead) = Some (Err BadHead)
told (Err heads.BadMethod) = Some (Err BadMethod)
told (Err heads.NoSuchPath) = Some (Err NoSuchPath)
told (Err (heads.BadQuery name)) = Some (Err (BadQuery name))
told (Err heads.NoMemory) = None
