-- What a shared ring replies to a pass.
use Rattle.std.specs.Prelude.{◌≡◌, ℕ, ◌≤◌, List, Option, Result}
use Rattle.bus_types.specs.Change.{Test}
use Rattle.bus_types.specs.Window.{Span}
use Rattle.bus_types.specs.Relay.{Served}
use Rattle.partition_filter.specs.Selection.{test_of}
use Rattle.event_codec.specs.Reply.{reply_bytes}
use Rattle.bus_wire.specs.declared.ask.Ask.{Ask}
use Rattle.bus_wire.specs.declared.ask.Ask.TheVariants.{Stream, Start, Scan, Target, Catchup, Delta}
use Rattle.bus_http.specs.Talks.{reply_text}
use Rattle.bus_http.specs.Sent.{Sends}
use Rattle.range_ring.specs.Answering.{HasLooked, IsLawful}
use Rattle.range_ring.specs.Belonging.{PassIs}
use Rattle.range_ring.specs.Ranges.{IsAnswer}

-- A pass loaded both words of the ring again. The numbers that it has seen then aren't below those before and are such as the
-- ring has, and the bytes are the reply of a relay: where a timeline is told, its reply at these numbers.
pub record Shares (timeline : Option (List Span)) (before after : PassIs) (scn : ℕ) (test : Test) (max : ℕ) (bytes : List ℕ) : Type 0 where
  pub looked : HasLooked before after
  pub lawful : IsLawful timeline after
  pub answer : Served
  pub answers : IsAnswer timeline after scn test max answer
  pub bytes_are : bytes ≡ reply_bytes answer

-- the reply to an ask for a stream
abbrev pub MayShare : Option (List Span) → PassIs → PassIs → Ask → List ℕ → Type 0
MayShare timeline before after (Stream scn filter max) bytes = Shares timeline before after scn (test_of filter) max bytes
MayShare timeline before after (Start since fresh) bytes = ⊥
MayShare timeline before after (Scan start cursor filter max) bytes = ⊥
MayShare timeline before after (Target start atleast) bytes = ⊥
MayShare timeline before after (Catchup at target filter max) bytes = ⊥
MayShare timeline before after (Delta since target cursor filter max) bytes = ⊥

-- where there was no reply, the pass has seen what it had seen
abbrev pub KeepsPass : PassIs → PassIs → Type 0
KeepsPass before after = after ≡ before

-- a pass of the same ring that has not seen lower numbers, nor loaded a word less often
pub record IsBehind (before after : PassIs) : Type 0 where
  pub home : after.home ≡ before.home
  pub evicted : before.evicted ≤ after.evicted
  pub published : before.published ≤ after.published
  pub floor_loads : before.floor_loads ≤ after.floor_loads
  pub tail_loads : before.tail_loads ≤ after.tail_loads

-- ---- the code's words

-- a reply of a pass was written, or a front of it
pub record SendsReply {T E : Type 0} (timeline : Option (List Span)) (before after : PassIs) (scn : ℕ) (test : Test) (max : ℕ) (result : Result T E) (old new : Option (List ℕ)) : Type 0 where
  pub bytes : List ℕ
  pub shares : Shares timeline before after scn test max bytes
  pub sends : Sends result old new (reply_text bytes)
