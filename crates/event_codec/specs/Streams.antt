-- Streams of windows: the windows that have come, and what stands behind them.
use Rattle.std.specs.Prelude.{◌≡◌, ℕ, ◌+◌, ◌<◌, ◌≤◌, ◌⊎◌, true, List, [], ◌∷◌, ◌++◌, length, flat_map}
use Rattle.bus_types.specs.declared.change.Change.{Change}
use Rattle.bus_types.specs.declared.limits.TheConstants.{MAX_SCN, MAX_CHANGES, MAX_WINDOW}
use Rattle.bus_types.specs.Change.{AreChanges, changes_size}
use Rattle.bus_types.specs.Window.{Span, IsSpan}
use Rattle.event_codec.specs.Bytes.{changes_bytes, window_bytes}
use Rattle.event_codec.specs.Items.{Since, Open, open_of, has_right_prev, Front, front_of}
use Rattle.event_codec.specs.Items.Front.{Unfinished, Refused}

-- a window, in full or as a filter left it, that can come next
pub record Comes (s : Since) (w : Span) : Type 0 where
  pub within : IsSpan w
  pub above : s.floor < w.scn
  pub chained : has_right_prev s w.prev ≡ true

abbrev pub after_window : Since → Span → Since
after_window s w = record { floor = w.scn; started = true }

-- windows that come one after the other
abbrev pub Come : Since → List Span → Type 0
Come s [] = Unit {0}
Come s (w ∷ ws) = Comes s w × Come (after_window s w) ws

abbrev pub after_windows : Since → List Span → Since
after_windows s [] = s
after_windows s (w ∷ ws) = after_windows (after_window s w) ws

abbrev pub windows_bytes : List Span → List ℕ
windows_bytes ws = flat_map window_bytes ws

-- changes with which a window of this SCN can begin
pub record Begins (s : Since) (first : ℕ) (cs : List Change) : Type 0 where
  pub above : 0 < length cs → s.floor < first
  pub scn : first ≤ MAX_SCN
  pub count : length cs ≤ MAX_CHANGES
  pub size : changes_size cs + 17 ≤ MAX_WINDOW
  pub changes : AreChanges cs

-- the bytes begin with whole events of a window, of which that much is known
pub record Begun (s : Since) (o : Open) (rest : List ℕ) : Type 0 where
  pub scn : ℕ
  pub changes : List Change
  pub part : List ℕ
  pub parts : rest ≡ changes_bytes scn changes ++ part
  pub begins : Begins s scn changes
  pub known : o ≡ open_of scn changes

-- bytes behind whole windows: whole events of the next window, and then something that is no whole item, as front says
pub record Behind (s : Since) (rest : List ℕ) (front : Front) : Type 0 where
  pub scn : ℕ
  pub changes : List Change
  pub part : List ℕ
  pub bytes : rest ≡ changes_bytes scn changes ++ part
  pub begins : Begins s scn changes
  pub stops : front_of s (open_of scn changes) part ≡ front

-- the bytes are these windows and this rest, which isn't whole yet or begins, behind whole events, with a head that can't stand
pub record IsReading (s : Since) (bytes : List ℕ) (ws : List Span) (rest : List ℕ) : Type 0 where
  pub parts : bytes ≡ windows_bytes ws ++ rest
  pub come : Come s ws
  pub stops : Behind (after_windows s ws) rest Unfinished ⊎ Behind (after_windows s ws) rest Refused
