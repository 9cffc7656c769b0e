-- The bytes of a segment. Numbers are big-endian.
use Rattle.std.specs.Prelude.{◌≡◌, ◌≢◌, ◌⊎◌, ℕ, ◌≤◌, List, [], ◌∷◌, ◌++◌, codes}
use Rattle.std.specs.Int.{w32, w64, to_be_bytes}
use Rattle.bus_types.specs.declared.limits.TheConstants.{MAX_SCN}
use Rattle.bus_types.specs.Window.{Span, span_size}
use Rattle.bus_types.specs.Timeline.{IsTimelineFrom}
use Rattle.event_codec.specs.Bytes.{window_bytes}

-- a record: the length of a window, and the window in full
unfoldable pub record_bytes : Span → List ℕ
record_bytes w = to_be_bytes w32 (span_size w) ++ window_bytes w

-- records in order, each behind an open gate
abbrev pub records : List Span → List ℕ
records [] = []
records (w ∷ ws) = 165 ∷ (record_bytes w ++ records ws)

-- behind the gate of a segment: the tag, and the SCN before its first window
unfoldable pub head_bytes : ℕ → List ℕ
head_bytes floor = codes "DBUSLOG1" ++ to_be_bytes w64 floor

-- a segment in use, up to the gate behind its last record
abbrev pub whole : ℕ → List Span → List ℕ
whole floor ws = 165 ∷ (head_bytes floor ++ records ws)

-- behind a front stands a closed gate, and then anything
pub record Ends (front bytes : List ℕ) : Type 0 where
  pub gate : ℕ
  pub rest : List ℕ
  pub closed : gate ≢ 165
  pub parts : bytes ≡ front ++ gate ∷ rest

-- a segment that isn't in use
abbrev pub IsFree : List ℕ → Type 0
IsFree = Ends []

-- a segment in use, with these windows behind a floor
abbrev pub StandsFor : ℕ → List Span → List ℕ → Type 0
StandsFor floor ws = Ends (whole floor ws)

-- the bytes are a segment in use with these windows, which follow its floor and each other
pub record HoldsInUse (from : ℕ) (ws : List Span) (bytes : List ℕ) : Type 0 where
  pub low : from ≤ MAX_SCN
  pub chained : IsTimelineFrom from ws
  pub ends : StandsFor from ws bytes

-- the bytes end behind a front, or behind the same front with a body more, each part of it behind an open gate
abbrev pub EndsEither : List ℕ → List ℕ → List ℕ → Type 0
EndsEither front body bytes = Ends front bytes ⊎ Ends (front ++ 165 ∷ body) bytes
