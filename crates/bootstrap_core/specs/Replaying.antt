-- How a replay goes on, window by window, and how it ends.
use Rattle.std.specs.Prelude.{◌≡◌, ℕ, ◌+◌, ◌-◌, ◌<◌, ◌≤◌, nat_lt, nat_le, if◌then◌else◌, List, [], ◌∷◌, ◌++◌, length, Option, Some, None, IfSome, Result, IfOk}
use Rattle.bus_types.specs.Window.{Span, span_size}
use Rattle.bus_types.specs.Timeline.{end_from}
use Rattle.bus_types.specs.Relay.{longest_run, most_windows}
use Rattle.event_codec.specs.declared.answer.Answer.{Answer}
use Rattle.event_codec.specs.declared.answer.Answer.TheVariants.{Behind, TooSmall}
use Rattle.event_codec.specs.declared.reply.Shape.{Shape}
use Rattle.event_codec.specs.declared.reply.Shape.TheVariants.{Windows, Only}
use Rattle.event_codec.specs.Bytes.{window_bytes}
use Rattle.event_codec.specs.Streams.{windows_bytes}
use Rattle.bus_stores.specs.declared.log.LogFault.{LogFault}
use Rattle.bus_stores.specs.Log.{LogState, LogCounts, SameLog, OnFull, first_after}
use Rattle.bootstrap_core.specs.declared.replaying.Replay.{Replay}

-- ---- a log is read

-- a call that only reads a log, and never finds it full
pub record OnlyReadsLog {X : Type 0} (old new : LogState) (result : Result X LogFault) : Type 0 where
  pub counts : LogCounts old new result
  pub same : SameLog old new
  pub roomy : OnFull result ⊥

-- a window, where it isn't above an SCN
abbrev pub span_upto : ℕ → Option Span → Option Span
span_upto upto None = None
span_upto upto (Some w) = if nat_le w.scn upto then Some w else None

-- a call that reads the oldest window behind an SCN, where it isn't above another
pub record ReadsWithin (scn upto : ℕ) (old new : LogState) (result : Result (Option Span) LogFault) : Type 0 where
  pub reads : OnlyReadsLog old new result
  pub within : IfOk result (λ found. IfSome found (λ w. (scn < w.scn) × (w.scn ≤ upto)))
  pub told : IfOk result (λ found. IfSome old.windows (λ ws. found ≡ span_upto upto (first_after scn ws)))

-- ---- a replay

-- the bytes so far, and how far the replay has come
pub record Replayed : Type 0 where
  pub bytes : List ℕ
  pub count : ℕ
  pub last : ℕ
  pub room : ℕ
  pub unfit : Option ℕ

abbrev pub replayed : List ℕ → Replay → Replayed
replayed bytes r = record { bytes = bytes; count = r.count; last = r.last; room = r.room; unfit = r.unfit }

-- a cut window behind bytes, where it fits in room for so many
abbrev pub with_cut : ℕ → Span → List ℕ → List ℕ
with_cut room w bytes = if nat_le (span_size w) room then bytes ++ window_bytes w else bytes

-- a cut window more, where it fits
abbrev pub with_window : Replayed → Span → Replayed
with_window r w =
    if nat_le (span_size w) r.room then record {
      bytes = r.bytes ++ window_bytes w;
      count = r.count + 1;
      last = w.scn;
      room = r.room - span_size w;
      unfit = r.unfit;
    } else record r { unfit = Some (span_size w) }

-- where no window was taken: none is there, or the first one doesn't fit
abbrev pub HasNone : ℕ → Option ℕ → List Span → Type 0
HasNone most None left = left ≡ []
HasNone most (Some size) [] = ⊥
HasNone most (Some size) (w ∷ ws) = (size ≡ span_size w) × (most < size)

-- the longest run of cut windows was taken, or none, and then it is known why
pub record IsReplay (at most : ℕ) (before : List ℕ) (left : List Span) (r : Replayed) : Type 0 where
  pub taken : List Span
  pub bytes : r.bytes ≡ before ++ windows_bytes taken
  pub count : r.count ≡ length taken
  pub last : r.last ≡ end_from at taken
  pub longest : taken ≡ longest_run most_windows most left
  pub none : r.count ≡ 0 → HasNone most r.unfit left

-- ---- its reply

-- in place of windows
abbrev pub no_window : ℕ → Option ℕ → Answer
no_window high None = Behind high
no_window high (Some size) = TooSmall size

abbrev pub replay_shape : ℕ → ℕ → ℕ → Option ℕ → Shape
replay_shape high count last unfit = if nat_lt 0 count then Windows count last else Only (no_window high unfit)
