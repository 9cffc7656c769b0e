-- One poll.
use Rattle.std.proofs.Common.{◌≡◌, ℕ, inl, inr, List, Option, None, Result, Ok, Err, String, refl, sym, subst, take}
use Rattle.std.specs.Prelude.{OnOk, OnErr, IfErr}
use Rattle.std.specs.Global.{Global}
use Rattle.std.specs.Io.KnownBytes.{Appends}
use Rattle.bus_link.specs.Links.{Told}
use Rattle.bus_stores.specs.Keeper.{KeeperState}
use Rattle.bus_wire.specs.declared.ask.Ask.{Ask}
use Rattle.bus_wire.specs.declared.ask.Ask.TheVariants.{Stream, Start, Scan, Target, Catchup, Delta}
use Rattle.partition_filter.specs.Selection.{test_of}
use Rattle.client_switch.specs.Client.{Held, Keeps, IsAskOf, asks, TakesIt}
use Rattle.client_switch.specs.declared.client.Took.{Took}
use Rattle.bus_node.specs.declared.exchanging.ExchangeFault.{ExchangeFault}
use Rattle.bus_node.specs.declared.exchanging.ExchangeFault.TheVariants as exchanges
use Rattle.bus_node.specs.Exchange.{Exchanged, HandedBack, IsAnswered, IsMisanswered}
use Rattle.consume_node.specs.declared.stop.Stop.{Stop}
use Rattle.consume_node.specs.declared.stop.Stop.TheVariants.{LinkFault, BadAnswer, BadReply, StoreFault, BadMark, WriteFault, NoMemory}
use Rattle.consume_node.specs.Polls.{port_of, IsPoll}
use Rattle.consume_node.specs.Runs.{Tried, Starved}
use Rattle.consume_node.specs.Failing.{exchange_stop, KeepsTrue, Settles, Misses, Polled, Gives, Fails, Turned}
use Rattle.consume_node.proofs.Holding.{good_stored, same_itself}

-- ---- connections

module _ {P : Type 0} (relay bootstrap : ℕ) (told told' : Option (Told P)) where
  pub tried_at : (ask : Ask) → HandedBack P (port_of relay bootstrap ask) told told' → Tried relay bootstrap told told'
  tried_at (Stream scn filter max) back = inl back
  tried_at (Start since fresh) back = inr back
  tried_at (Scan start cursor filter max) back = inr back
  tried_at (Target start atleast) back = inr back
  tried_at (Catchup at target filter max) back = inr back
  tried_at (Delta since target cursor filter max) back = inr back

  handed_back : {Is : P → Type 0} (port : ℕ) → Exchanged P Is port told told' → HandedBack P port told told'
  handed_back port exchanged = inr (exchanged.0, exchanged.1)

module _ {P : Type 0} (given left written : P → Option (List ℕ)) (relay bootstrap most : ℕ) where
  -- ---- no reply

  -- nothing was done
  pub starved_before : (c : Held) (k : KeeperState) (told : Option (Told P)) → Starved given left written relay bootstrap most c k told k told
  starved_before c k told = inl (inl (inl refl), same_itself k)

  -- there was no answer
  pub exchange_misses : (fault : ExchangeFault) (c : Held) (k : KeeperState) (told told' : Option (Told P)) (ask : Ask) → IsAskOf c.filter (asks c most) ask
      → HandedBack P (port_of relay bootstrap ask) told told'
      → (fault ≡ exchanges.BadAnswer → Exchanged P (IsMisanswered given left written ask) (port_of relay bootstrap ask) told told')
      → Misses given left written relay bootstrap most (exchange_stop fault) c k told k told'
  exchange_misses exchanges.LinkFault c k told told' ask asked back bad = record { tried = tried_at relay bootstrap told told' ask back; same = refl }
  exchange_misses exchanges.BadAnswer c k told told' ask asked back bad = record { ask = ask; asked = asked; exchanged = bad refl; same = refl }
  exchange_misses exchanges.NoMemory c k told told' ask asked back bad = inl (tried_at relay bootstrap told told' ask back, same_itself k)

  -- ---- a reply

  is_poll : (c c' : Held) (k k' : KeeperState) (ask : Ask) (body : List ℕ) (took : Took) (peer : P) → IsAskOf c.filter (asks c most) ask → IsAnswered given left written ask body peer → TakesIt took c c' ask body k k' None None → Keeps k' c'.mark → KeepsTrue most c ask body k k'
      → IsPoll given left written most c k (record { ask = ask; peer = peer; body = body; took = took; client = c'; keeper = k' })
  is_poll c c' k k' ask body took peer asked answered taken stored good = record {
    asked = asked;
    answered = answered;
    taken = taken;
    good = λ ws timeline held true_of. good_stored ws (test_of c.filter) k' c'.mark stored (good ws timeline held true_of);
  }

  settle_is : (result : Result (String Global) Stop) (c c' : Held) (k k' : KeeperState) (told told' : Option (Told P)) (ask : Ask) (body : List ℕ) → IsAskOf c.filter (asks c most) ask
      → Exchanged P (IsAnswered given left written ask body) (port_of relay bootstrap ask) told told'
      → Settles result c c' ask body k k' → OnOk result (Keeps k c.mark → Keeps k' c'.mark) → Keeps k c.mark → KeepsTrue most c ask body k k' → Polled given left written relay bootstrap most result c k told c' k' told'
  settle_is (Ok text) c c' k k' told told' ask body asked exchanged settles keeps stored good = record {
    poll = record { ask = ask; peer = exchanged.0; body = body; took = settles.took; client = c'; keeper = k' };
    is = is_poll c c' k k' ask body settles.took exchanged.0 asked exchanged.2 settles.taken (keeps stored) good;
    client = refl;
    keeper = refl;
    linked = exchanged.1;
    line = settles.is;
  }
  settle_is (Err (BadReply place)) c c' k k' told told' ask body asked exchanged settles keeps stored good = record { ask = ask; body = body; asked = asked; exchanged = exchanged; refused = settles }
  settle_is (Err StoreFault) c c' k k' told told' ask body asked exchanged settles keeps stored good =
      record { ask = ask; body = body; asked = asked; exchanged = exchanged; client = settles.0; halts = settles.1; good = good }
  settle_is (Err NoMemory) c c' k k' told told' ask body asked exchanged (inl same) keeps stored good =
      inl (tried_at relay bootstrap told told' ask (handed_back relay bootstrap told told' (port_of relay bootstrap ask) exchanged), same)
  settle_is (Err NoMemory) c c' k k' told told' ask body asked exchanged (inr loses) keeps stored good = inr (record {
    poll = record { ask = ask; peer = exchanged.0; body = body; took = loses.took; client = loses.client; keeper = k' };
    is = is_poll c loses.client k k' ask body loses.took exchanged.0 asked exchanged.2 loses.taken (loses.keeps stored) good;
    keeper = refl;
    linked = exchanged.1;
  })
  settle_is (Err LinkFault) c c' k k' told told' ask body asked exchanged settles keeps stored good = absurd settles
  settle_is (Err BadAnswer) c c' k k' told told' ask body asked exchanged settles keeps stored good = absurd settles
  settle_is (Err BadMark) c c' k k' told told' ask body asked exchanged settles keeps stored good = absurd settles
  settle_is (Err WriteFault) c c' k k' told told' ask body asked exchanged settles keeps stored good = absurd settles

  -- the same by the port and the bytes as they were handed on
  pub settle_polls : (result : Result (String Global) Stop) (c c' : Held) (k k' : KeeperState) (told told' : Option (Told P)) (ask : Ask) (body items : List ℕ) (port : ℕ) → body ≡ items → port ≡ port_of relay bootstrap ask → IsAskOf c.filter (asks c most) ask
      → Exchanged P (IsAnswered given left written ask items) port told told'
      → Settles result c c' ask body k k' → OnOk result (Keeps k c.mark → Keeps k' c'.mark) → Keeps k c.mark → KeepsTrue most c ask body k k' → Polled given left written relay bootstrap most result c k told c' k' told'
  settle_polls result c c' k k' told told' ask body items port same at asked exchanged settles keeps stored good =
      settle_is result c c' k k' told told' ask body asked
      (subst (λ (n : ℕ). Exchanged P (IsAnswered given left written ask body) n told told') at
      (subst (λ (b : List ℕ). Exchanged P (IsAnswered given left written ask b) port told told') (sym same) exchanged))
      settles keeps stored good

  -- ---- its line

  -- no poll was made, and nothing written
  pub fails_missed : (stop : Stop) (c : Held) (k k' : KeeperState) (told told' : Option (Told P)) (out : Option (List ℕ)) → Misses given left written relay bootstrap most stop c k told k' told' → Fails given left written relay bootstrap most stop c k told out k' told' out
  fails_missed LinkFault c k k' told told' out misses = record { misses = misses; same = refl }
  fails_missed BadAnswer c k k' told told' out misses = record { misses = misses; same = refl }
  fails_missed (BadReply place) c k k' told told' out misses = record { misses = misses; same = refl }
  fails_missed StoreFault c k k' told told' out misses = record { misses = misses; same = refl }
  fails_missed BadMark c k k' told told' out misses = misses
  fails_missed WriteFault c k k' told told' out misses = absurd misses
  fails_missed NoMemory c k k' told told' out misses = record { misses = misses; same = refl }

  -- a poll was made, and its line was written or a front of it
  pub turned_written : (result : Result Unit Stop) (c c' : Held) (k k' : KeeperState) (told told' : Option (Told P)) (out out' : Option (List ℕ)) (text : List ℕ) → Gives given left written relay bootstrap most c k told c' k' told' text
      → OnOk result (Appends out out' text) → OnErr result ((count : ℕ) × Appends out out' (take count text)) → IfErr result (λ stop. stop ≡ WriteFault)
      → Turned given left written relay bootstrap most result c k told out c' k' told' out'
  turned_written (Ok u) c c' k k' told told' out out' text gives wrote part only = record { text = text; gives = gives; wrote = wrote }
  turned_written (Err stop) c c' k k' told told' out out' text gives wrote part only =
      subst (λ s. Fails given left written relay bootstrap most s c k told out k' told' out') (sym only) (record { client = c'; text = text; gives = gives; count = part.0; wrote = part.1 })
