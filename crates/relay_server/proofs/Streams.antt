-- A reply of a pass, as it was written.
use Rattle.std.proofs.Common.{◌≡◌, ℕ, true, false, inr, List, Option, Some, None, Result, Ok, Err, OnOk, OnErr, refl, sym, subst}
use Rattle.std.specs.Io.KnownBytes.{Appends}
use Rattle.bus_types.specs.Change.{Test}
use Rattle.bus_types.specs.Window.{Span}
use Rattle.bus_types.specs.Cut.{cuts}
use Rattle.bus_types.specs.Relay.{Served, Windows}
use Rattle.event_codec.specs.Streams.{windows_bytes}
use Rattle.event_codec.specs.Reply.{reply_bytes}
use Rattle.bus_http.specs.Talks.{reply_text}
use Rattle.bus_http.specs.Sent.{WroteFront, Sends}
use Rattle.range_ring.specs.Answering.{HasLooked, IsLawful}
use Rattle.range_ring.specs.Belonging.{PassIs}
use Rattle.range_ring.specs.Ranges.{RangeIs, IsRange, IsAnswer}
use Rattle.partition_filter.specs.declared.filter.Filter.{Filter}
use Rattle.partition_filter.specs.Selection.{test_of}
use Rattle.bus_wire.specs.declared.ask.Ask.{Ask}
use Rattle.bus_wire.specs.declared.ask.Ask.TheVariants.{Stream}
use Rattle.bus_http.specs.declared.request.Request.{Request}
use Rattle.bus_http.specs.declared.route.Side.TheVariants.{Relay}
use Rattle.bus_http.specs.declared.service.ServeEnd.TheVariants.{Closed, WriteFault}
use Rattle.bus_http.specs.Turns.{Responding}
use Rattle.relay_server.specs.Shared.{Shares, MayShare, KeepsPass, SendsReply}

shared : {T E : Type 0} (told : Option (List Span)) (before after : PassIs) (scn : ℕ) (test : Test) (max : ℕ) (result : Result T E) (old new : Option (List ℕ)) (served : Served) → HasLooked before after → IsLawful told after
    → IsAnswer told after scn test max served → Sends result old new (reply_text (reply_bytes served)) → SendsReply told before after scn test max result old new
shared told before after scn test max result old new served looked lawful is sends = record {
  bytes = reply_bytes served;
  shares = record { looked = looked; lawful = lawful; answer = served; answers = is; bytes_are = refl };
  sends = sends;
}

-- where an answer without windows was written
pub streams_answer : {T E : Type 0} (told : Option (List Span)) (before after : PassIs) (scn : ℕ) (test : Test) (max : ℕ) (result : Result T E) (old new : Option (List ℕ)) (served : Served) → HasLooked before after → IsLawful told after
    → IsAnswer told after scn test max served → OnOk result (Appends old new (reply_text (reply_bytes served))) → OnErr result (WroteFront old new (reply_text (reply_bytes served)))
    → SendsReply told before after scn test max result old new
streams_answer told before after scn test max (Ok x) old new served looked lawful is ok part = shared told before after scn test max (Ok x) old new served looked lawful is ok
streams_answer told before after scn test max (Err e) old new served looked lawful is ok part = shared told before after scn test max (Err e) old new served looked lawful is part

-- what was written of each list of windows that a range holds
abbrev pub Written : {F : Type 0} → (F → Test) → Option (List Span) → RangeIs F → (List ℕ → Type 0) → Type 0
Written test_by told range P =
    (position most : ℕ) (windows : List Span) → IsRange told position (test_by range.filter) most range.entries range.size windows → P (reply_text (windows_bytes (cuts (test_by range.filter) windows)))

written : {T E F : Type 0} (test_by : F → Test) (told : Option (List Span)) (result : Result T E) (old new : Option (List ℕ)) (range : RangeIs F) (position most : ℕ) (windows : List Span)
    → OnOk result (Written test_by told range (λ text. Appends old new text)) → OnErr result (Written test_by told range (λ text. WroteFront old new text))
    → IsRange told position (test_by range.filter) most range.entries range.size windows → Sends result old new (reply_text (windows_bytes (cuts (test_by range.filter) windows)))
written test_by told (Ok x) old new range position most windows ok part is = ok position most windows is
written test_by told (Err e) old new range position most windows ok part is = part position most windows is

pub streams_range : {T E F : Type 0} (test_by : F → Test) (told : Option (List Span)) (before after : PassIs) (scn : ℕ) (filter : F) (max : ℕ) (result : Result T E) (old new : Option (List ℕ)) (range : RangeIs F) → HasLooked before after
    → IsLawful told after
    → (range.filter ≡ filter) × ((position : ℕ) × (windows : List Span) × IsRange told position (test_by filter) max range.entries range.size windows × IsAnswer told after scn (test_by filter) max (Windows (cuts (test_by filter) windows)))
    → OnOk result (Written test_by told range (λ text. Appends old new text)) → OnErr result (Written test_by told range (λ text. WroteFront old new text)) → SendsReply told before after scn (test_by filter) max result old new
streams_range test_by told before after scn filter max result old new range looked lawful opened ok part =
    let position = opened.1.0 in
    let windows = opened.1.1 in
    let held : IsRange told position (test_by range.filter) max range.entries range.size windows = subst (λ f. IsRange told position (test_by f) max range.entries range.size windows) (sym opened.0) opened.1.2 in
    let sent = written test_by told result old new range position max windows ok part held in
    shared told before after scn (test_by filter) max result old new (Windows (cuts (test_by filter) windows)) looked lawful opened.1.3
    (subst (λ f. Sends result old new (reply_text (windows_bytes (cuts (test_by f) windows)))) opened.0 sent)

-- ---- as a turn tells it

asks : (told : Option (List Span)) (before after : PassIs) (scn : ℕ) (filter : Filter) (max : ℕ) (ask : Ask) (bytes : List ℕ) → ask ≡ Stream scn filter max → Shares told before after scn (test_of filter) max bytes
    → MayShare told before after ask bytes
asks told before after scn filter max ask bytes is shares = subst (λ (a : Ask). MayShare told before after a bytes) (sym is) shares

pub responded_open : {T E : Type 0} (told : Option (List Span)) (before after : PassIs) (scn : ℕ) (filter : Filter) (max : ℕ) (request : Request) (x : T) (old new : Option (List ℕ)) → request.ask ≡ Stream scn filter max
    → SendsReply {T = T} {E = E} told before after scn (test_of filter) max (Ok x) old new → request.close ≡ false → Responding Relay (MayShare told) KeepsPass true before after request old new None
responded_open told before after scn filter max request x old new is r close = record {
  said = reply_text r.bytes;
  written = r.sends;
  as_said = (close, (r.bytes, asks told before after scn filter max request.ask r.bytes is r.shares, refl));
}

pub responded_closed : {T E : Type 0} (told : Option (List Span)) (before after : PassIs) (scn : ℕ) (filter : Filter) (max : ℕ) (request : Request) (x : T) (old new : Option (List ℕ)) → request.ask ≡ Stream scn filter max
    → SendsReply {T = T} {E = E} told before after scn (test_of filter) max (Ok x) old new → request.close ≡ true → Responding Relay (MayShare told) KeepsPass true before after request old new (Some Closed)
responded_closed told before after scn filter max request x old new is r close = record {
  said = reply_text r.bytes;
  written = r.sends;
  as_said = (close, (r.bytes, asks told before after scn filter max request.ask r.bytes is r.shares, refl));
}

pub responded_part : {T E : Type 0} (told : Option (List Span)) (before after : PassIs) (scn : ℕ) (filter : Filter) (max : ℕ) (request : Request) (e : E) (old new : Option (List ℕ)) → request.ask ≡ Stream scn filter max
    → SendsReply {T = T} {E = E} told before after scn (test_of filter) max (Err e) old new → Responding Relay (MayShare told) KeepsPass true before after request old new (Some WriteFault)
responded_part told before after scn filter max request e old new is r = record {
  said = r.sends.said;
  written = r.sends.written;
  as_said = inr (r.bytes, asks told before after scn filter max request.ask r.bytes is r.shares, r.sends.front);
}
