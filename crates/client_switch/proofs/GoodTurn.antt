-- Each reply that is true of the timeline keeps the rows right, whatever the mark and the wish.
use Rattle.std.proofs.Common.{ℕ, List}
use Rattle.bus_types.specs.Change.{Test}
use Rattle.bus_types.specs.Window.{Span}
use Rattle.bus_types.specs.Timeline.{IsTimeline}
use Rattle.bus_types.specs.Table.{RowList}
use Rattle.checkpoint.specs.declared.mark.Mark.{Mark}
use Rattle.checkpoint.specs.declared.mark.Mark.TheVariants.{Online, Delta, Snapshot, Scanned, Catchup}
use Rattle.checkpoint.specs.Mark.{IsMark}
use Rattle.event_codec.specs.Questions.{Reply}
use Rattle.client_switch.specs.Moves.{Wish, NoWish, StartWish, FreshWish, IsWished, question}
use Rattle.client_switch.specs.Good.{Good}
use Rattle.bus_wire.specs.True.{IsTrueOf}
use Rattle.client_switch.proofs.Replies.{Keeps}
use Rattle.client_switch.proofs.GoodOnline.{good_stream}
use Rattle.client_switch.proofs.GoodStart.{good_start, good_fresh}
use Rattle.client_switch.proofs.GoodDelta.{good_delta}
use Rattle.client_switch.proofs.GoodScan.{good_scan, good_target}
use Rattle.client_switch.proofs.GoodReplay.{good_replay}

pub good_turn : (ws : List Span) (test : Test) (mark : Mark) (wish : Wish) (most : ℕ) (rows : RowList) (reply : Reply) → IsTimeline ws → IsMark mark → IsWished mark wish → Good ws test mark rows → IsTrueOf ws test (question mark wish most) reply → Keeps ws test mark rows reply
good_turn ws test mark FreshWish most rows reply t m w g r = good_fresh ws test mark rows reply t m g r
good_turn ws test (Online scn) NoWish most rows reply t m w g r = good_stream ws test scn most rows reply t m g r
good_turn ws test (Delta since target cursor) NoWish most rows reply t m w g r = good_delta ws test since target cursor most rows reply t m g r
good_turn ws test (Snapshot since start top cursor) NoWish most rows reply t m w g r = good_scan ws test since start top cursor most rows reply t m g r
good_turn ws test (Scanned since start top) NoWish most rows reply t m w g r = good_target ws test since start top rows reply t m g r
good_turn ws test (Catchup since start target at) NoWish most rows reply t m w g r = good_replay ws test since start target at most rows reply t m g r
good_turn ws test (Online scn) StartWish most rows reply t m w g r = good_start ws test scn rows reply t m g r
good_turn ws test (Delta since target cursor) StartWish most rows reply t m w g r = absurd w
good_turn ws test (Snapshot since start top cursor) StartWish most rows reply t m w g r = absurd w
good_turn ws test (Scanned since start top) StartWish most rows reply t m w g r = absurd w
good_turn ws test (Catchup since start target at) StartWish most rows reply t m w g r = absurd w
