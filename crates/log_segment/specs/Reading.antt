-- A segment read from its bytes, record by record, and where the bytes are at fault.
use Rattle.std.specs.Prelude.{◌≡◌, ℕ, ◌<◌, ◌≤◌, ◌⊎◌, List, [], ◌∷◌, ◌++◌, length, take, drop, Option, Some, None}
use Rattle.std.specs.Int.{w32, from_be_bytes}
use Rattle.bus_types.specs.Window.{Span, IsSpan, span_size}
use Rattle.bus_types.specs.Timeline.{Follows}
use Rattle.event_codec.specs.Bytes.{window_bytes}
use Rattle.log_segment.specs.declared.read.Front.{Front}
use Rattle.log_segment.specs.declared.read.Front.TheVariants as fronts
use Rattle.log_segment.specs.Image.{record_bytes, IsFree}

-- ---- a window

-- bytes are no window in full that follows an SCN
abbrev pub IsNoWindow : ℕ → List ℕ → Type 0
IsNoWindow prev bytes = (w : Span) → Follows prev w → bytes ≡ window_bytes w → ⊥

-- bytes are this window, and it follows an SCN
pub record IsWindow (prev : ℕ) (bytes : List ℕ) (w : Span) : Type 0 where
  pub follows : Follows prev w
  pub spelled : bytes ≡ window_bytes w

-- the window in full that bytes are, where they are one that follows an SCN
abbrev pub FindsWindow : ℕ → List ℕ → Option Span → Type 0
FindsWindow prev bytes None = IsNoWindow prev bytes
FindsWindow prev bytes (Some w) = IsWindow prev bytes w

-- windows of a stream above an SCN, or none where it is bad: one of them alone, that is as long as the bytes, is all of them
pub record Splits (prev : ℕ) (bytes : List ℕ) (windows : List Span) : Type 0 where
  pub each : (w : Span) → Follows prev w → bytes ≡ window_bytes w → windows ≡ w ∷ []
  pub back : (w : Span) → windows ≡ w ∷ [] → span_size w ≡ length bytes → (bytes ≡ window_bytes w) × IsSpan w

-- the one window of a list, that has this SCN before it, changes, and so many bytes
pub record IsOnly (prev long : ℕ) (windows : List Span) (w : Span) : Type 0 where
  pub alone : windows ≡ w ∷ []
  pub chained : w.prev ≡ prev
  pub full : 0 < length w.changes
  pub size : span_size w ≡ long

abbrev pub FindsOnly : ℕ → ℕ → List Span → Option Span → Type 0
FindsOnly prev long windows None = (w : Span) → IsOnly prev long windows w → ⊥
FindsOnly prev long windows (Some w) = IsOnly prev long windows w

-- ---- a record

-- bytes begin with no record of a window that follows an SCN
abbrev pub NoRecord : ℕ → List ℕ → Type 0
NoRecord prev bytes = (w : Span) (rest : List ℕ) → Follows prev w → bytes ≡ record_bytes w ++ rest → ⊥

-- bytes begin with the record of a window, which follows an SCN
pub record BeginsWith (prev : ℕ) (window : Span) (bytes : List ℕ) : Type 0 where
  pub rest : List ℕ
  pub follows : Follows prev window
  pub parts : bytes ≡ record_bytes window ++ rest

-- the length in front of a record, and what stands behind it
pub record IsLength (bytes : List ℕ) (size : ℕ) (behind : List ℕ) : Type 0 where
  pub long : 4 ≤ length bytes
  pub value : size ≡ from_be_bytes w32 (take 4 bytes)
  pub rest : behind ≡ drop 4 bytes

-- what stands behind an open gate
abbrev pub ShowsRecord : Front → ℕ → List ℕ → Type 0
ShowsRecord fronts.Closed prev bytes = ⊥
ShowsRecord fronts.Short prev bytes = NoRecord prev bytes
ShowsRecord fronts.Refused prev bytes = (more : List ℕ) → NoRecord prev (bytes ++ more)
ShowsRecord (fronts.Record window) prev bytes = BeginsWith prev window bytes

-- an open gate stands in front, and behind it no whole record
pub record IsBegun (prev : ℕ) (bytes : List ℕ) : Type 0 where
  pub rest : List ℕ
  pub parts : bytes ≡ 165 ∷ rest
  pub none : NoRecord prev rest

-- no gate stands in front, or an open one and behind it no whole record
abbrev pub IsShort : ℕ → List ℕ → Type 0
IsShort prev bytes = (bytes ≡ []) ⊎ IsBegun prev bytes

-- an open gate stands in front, and behind it what is no record, whatever follows
pub record IsRefused (prev : ℕ) (bytes : List ℕ) : Type 0 where
  pub rest : List ℕ
  pub parts : bytes ≡ 165 ∷ rest
  pub none : (more : List ℕ) → NoRecord prev (rest ++ more)

-- an open gate stands in front, and behind it the record of a window
pub record IsRecord (prev : ℕ) (window : Span) (bytes : List ℕ) : Type 0 where
  pub rest : List ℕ
  pub parts : bytes ≡ 165 ∷ rest
  pub begins : BeginsWith prev window rest

-- what stands at a gate
abbrev pub Shows : Front → ℕ → List ℕ → Type 0
Shows fronts.Closed prev bytes = IsFree bytes
Shows fronts.Short prev bytes = IsShort prev bytes
Shows fronts.Refused prev bytes = IsRefused prev bytes
Shows (fronts.Record window) prev bytes = IsRecord prev window bytes
