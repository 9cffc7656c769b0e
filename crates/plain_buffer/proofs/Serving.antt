-- What is served from a place on.
use Rattle.std.proofs.Common.{◌≡◌, ℕ, ◌+◌, ◌<◌, ◌≤◌, nat_lt, List, [], ◌∷◌, length, length-take, length-drop, get_or, take, drop, Option, Err, sym, ap, subst, ◌∙◌, arith}
use Rattle.std.proofs.lemmas.Bool.{cond-true, cond-false, lt-ltb, le-ltb}
use Rattle.std.proofs.lemmas.List.{drop_more, length-map}
use Rattle.std.specs.Io.KnownBytes.{Appends}
use Rattle.std.specs.Prelude.{IfSome}
use Rattle.bus_io.specs.declared.write.WriteFault.{WriteFault}
use Rattle.bus_types.specs.Change.{Test}
use Rattle.bus_types.specs.Window.{Span}
use Rattle.bus_types.specs.Cut.{cut, cuts, cut_size}
use Rattle.bus_types.specs.Relay.{longest_run, most_windows, fitting, TooSmall, Windows}
use Rattle.bus_types.proofs.Stretches.{take-cuts}
use Rattle.bus_types.proofs.Runs.{run_takes, longest_run_is}
use Rattle.event_codec.specs.Streams.{windows_bytes}
use Rattle.event_codec.specs.Reply.{AreTold, windows_sent}
use Rattle.plain_buffer.specs.Run.{Tells}
use Rattle.plain_buffer.specs.Send.{Told, Sends}

first_is : (ws : List Span) (from : ℕ) (w : Span) → from < length ws → w ≡ get_or ws from w → drop from ws ≡ w ∷ drop (from + 1) ws
first_is ws from w lt is = drop_more ws from w lt ∙ ap (λ (v : Span). v ∷ drop (from + 1) ws) (sym is)

-- the first window is larger than the limit
pub served_small : (test : Test) (ws : List Span) (from max : ℕ) (w : Span) → from < length ws → w ≡ get_or ws from w → max < cut_size test w → fitting max (cuts test (drop from ws)) ≡ TooSmall (cut_size test w)
served_small test ws from max w lt is large =
    ap (λ (rest : List Span). fitting max (cuts test rest)) (first_is ws from w lt is)
    ∙ cond-true (nat_lt max (cut_size test w)) (TooSmall (cut_size test w)) (Windows (longest_run most_windows max (cuts test (w ∷ drop (from + 1) ws)))) (lt-ltb max (cut_size test w) large)

-- a run of the windows from a place on, that is told
pub record ServesRun (test : Test) (ws : List Span) (from max number scn size : ℕ) : Type 0 where
  pub answer : fitting max (cuts test (drop from ws)) ≡ Windows (longest_run most_windows max (cuts test (drop from ws)))
  pub told : AreTold number scn size (longest_run most_windows max (cuts test (drop from ws)))
  pub within : from + number ≤ length ws
  pub front : cuts test (take number (drop from ws)) ≡ longest_run most_windows max (cuts test (drop from ws))

-- the first window fits
pub served_run : (test : Test) (ws : List Span) (from max number scn size : ℕ) (w : Span) → from < length ws → w ≡ get_or ws from w → cut_size test w ≤ max → Tells number scn size [] (longest_run most_windows max (cuts test (drop from ws)))
    → ServesRun test ws from max number scn size
served_run test ws from max number scn size w lt is fits t =
    let all = cuts test (drop from ws) in
    let run = longest_run most_windows max all in
    let rest = cuts test (drop (from + 1) ws) in
    let first = first_is ws from w lt is in
    let longest = longest_run_is most_windows max all in
    let count : number ≡ length run = omega (arith, t.count) in
    let some : 0 < length run = (let taken = ap length (ap (λ (left : List Span). longest_run most_windows max (cuts test left)) first ∙ run_takes most_windows max (cut test w) rest (omega arith) fits) in omega arith) in
    let short = ap length longest.front ∙ length-take (length run) all in
    let long = length-map (drop from ws) (cut test) in
    record {
      answer =
          ap (λ (left : List Span). fitting max (cuts test left)) first
          ∙ cond-false (nat_lt max (cut_size test w)) (TooSmall (cut_size test w)) (Windows (longest_run most_windows max (cuts test (w ∷ drop (from + 1) ws)))) (le-ltb max (cut_size test w) fits)
          ∙ ap (λ (left : List Span). Windows (longest_run most_windows max (cuts test left))) (sym first);
      told = record { some = omega arith; count = count; last = t.last; bytes = omega (arith, t.bytes) };
      within = omega (arith, length-drop from ws);
      front = sym (take-cuts test number (drop from ws)) ∙ ap (λ n. take n all) count ∙ sym longest.front;
    }

-- what is sent of a run is the reply's bytes
pub run_bytes : (test : Test) (ws : List Span) (from max number scn size : ℕ) → ServesRun test ws from max number scn size → windows_bytes (cuts test (take number (drop from ws))) ≡ windows_sent (fitting max (cuts test (drop from ws)))
run_bytes test ws from max number scn size s = ap windows_bytes s.front ∙ ap windows_sent (sym s.answer)

-- what went out before a fault
pub record Broken (old new : Told) (fault : WriteFault) (all : List ℕ) : Type 0 where
  pub part : Appends old.written new.written (take fault.written all)
  pub short : fault.written < length all
  pub full : IfSome old.room (λ room. room < length all)

pub sent_part : (old new : Told) (fault : WriteFault) (text all : List ℕ) → text ≡ all → Sends old new 0 (Err fault) text → Broken old new fault all
sent_part old new fault text all e s =
    let n : s.0 ≡ fault.written = omega (arith, s.1) in
    let long = ap (λ (bytes : List ℕ). length bytes) e in
    record {
      part = subst (λ m. Appends old.written new.written (take m all)) n (subst (λ (bytes : List ℕ). Appends old.written new.written (take s.0 bytes)) e s.3);
      short = omega (arith, s.1, s.2);
      full = subst (λ (bytes : List ℕ). IfSome old.room (λ room. room < length bytes)) e s.4;
    }
