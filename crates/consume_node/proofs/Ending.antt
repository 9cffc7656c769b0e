-- How a run ends.
use Rattle.std.proofs.Common.{◌≡◌, ℕ, ◌+◌, ◌≤◌, inl, inr, false, List, [], ◌∷◌, ◌++◌, Option, Result, Ok, Err, refl, sym, ap, subst, ◌∙◌, arith, length, take, append-nil}
use Rattle.std.specs.Prelude.{OnOk, OnErr, IfErr}
use Rattle.std.specs.Io.KnownBytes.{Appends}
use Rattle.std.proofs.KnownBytes.{Appends-trans}
use Rattle.std.proofs.Math.Seq.{take-append-add}
use Rattle.bus_link.specs.Links.{Told}
use Rattle.bus_stores.specs.declared.keeper.StoreFault.{StoreFault}
use Rattle.bus_stores.specs.declared.keeper.StoreFault.TheVariants as stores
use Rattle.bus_stores.specs.Keeper.{KeeperState, SameStore}
use Rattle.partition_filter.specs.Selection.{Selection, test_of}
use Rattle.checkpoint.specs.declared.mark.Mark.{Mark}
use Rattle.client_switch.specs.declared.fault.ClientOpen.{ClientOpen}
use Rattle.client_switch.specs.declared.fault.ClientOpen.TheVariants as opens
use Rattle.client_switch.specs.Moves.Wish.{NoWish}
use Rattle.client_switch.specs.Client.{Held, Keeps}
use Rattle.bus_node.specs.declared.words.ConsumeWords.{ConsumeWords}
use Rattle.bus_node.specs.declared.status.NodeStatus.{NodeStatus}
use Rattle.bus_node.specs.declared.status.NodeStatus.TheVariants as statuses
use Rattle.consume_node.specs.declared.stop.Stop.{Stop}
use Rattle.consume_node.specs.declared.stop.Stop.TheVariants.{LinkFault, BadAnswer, BadReply, StoreFault as KeeperFault, BadMark, WriteFault, NoMemory}
use Rattle.consume_node.specs.Polls.{lines_of}
use Rattle.consume_node.specs.Runs.{opened, Shows, HasNoMark, Ran, Stopped, Unshown, Broken, Ended}
use Rattle.consume_node.specs.Failing.{open_stop, store_stop, stop_status, end_status, Came, Reached, Halted, Cuts, Fails}
use Rattle.consume_node.proofs.Holding.{good_stored, good_same, same_itself}
use Rattle.consume_node.proofs.Reaching.{came_more, lines_more}

-- a client that was opened
pub opened_is : (c : Held) (filter : Selection) → c.filter ≡ filter → c.wish ≡ NoWish → c.halted ≡ false → c ≡ opened filter c.mark
opened_is c filter f w h = λ i. record { filter = f i; mark = c.mark; wish = w i; halted = h i }

-- a text, and a front of another behind it
appends_front : (out out1 out2 : Option (List ℕ)) (xs ys : List ℕ) (n : ℕ) → Appends out out1 xs → Appends out1 out2 (take n ys) → Appends out out2 (take (length xs + n) (xs ++ ys))
appends_front out out1 out2 xs ys n one two = subst (Appends out out2) (sym (take-append-add xs ys n)) (Appends-trans out out1 out2 xs (take n ys) one two)

module _ {P : Type 0} (given left written : P → Option (List ℕ)) (words : ConsumeWords) where
  -- it was not opened
  pub ended_unopened : (fault : ClientOpen) (before after : KeeperState) (told : Option (Told P)) (out : Option (List ℕ)) → SameStore before after → (fault ≡ opens.BadMark → HasNoMark after)
      → Ended given left written words (stop_status (open_stop fault)) before after told told out out
  ended_unopened opens.BadMark before after told out same bad = (record { keeper = same; link = refl; output = refl }, bad refl)
  ended_unopened opens.StoreFault before after told out same bad = inl (record { keeper = same; link = refl; output = refl })
  ended_unopened opens.NoMemory before after told out same bad = inl (record { keeper = same; link = refl; output = refl })

  module _ (before start : KeeperState) (mark : Mark) (same : SameStore before start) (stored : Keeps start mark) (told : Option (Told P)) (out : Option (List ℕ)) where
    -- polls that were made from there on
    abbrev Comes : ℕ → Held → KeeperState → Option (Told P) → Type 0
    Comes count c k told' = Came given left written words.relay words.bootstrap words.max (opened words.filter mark) start told count c k told'

    abbrev Reaches : ℕ → Held → KeeperState → Option (Told P) → Option (List ℕ) → Type 0
    Reaches count c k told' out' = Reached given left written words.relay words.bootstrap words.max (opened words.filter mark) start told out count c k told' out'

    unfoldable ran : (count : ℕ) (c : Held) (k : KeeperState) (told' : Option (Told P)) → count ≤ words.polls → Comes count c k told' → Ran given left written words before told told' c k
    ran count c k told' few came =
        let counted = came.counted in
        record {
          mark = mark;
          start = start;
          polls = came.polls;
          same = same;
          stored = stored;
          made = came.made;
          few = omega (arith, counted, few);
          linked = came.linked;
          good = λ ws timeline good all. came.good ws timeline (good_stored ws (test_of words.filter) start mark stored (good_same ws (test_of words.filter) before start same good)) all;
        }

    -- it stopped in a poll, or behind them
    stopped : (Last : Held → KeeperState → Option (Told P) → KeeperState → Option (Told P) → Type 0) (count : ℕ) (c : Held) (k : KeeperState) (told1 : Option (Told P)) (out1 : Option (List ℕ)) (k' : KeeperState) (told' : Option (Told P)) (out' : Option (List ℕ))
        → count + 1 ≤ words.polls → Reaches count c k told1 out1 → Last c k told1 k' told' → out' ≡ out1 → Stopped given left written words Last before k' told told' out out'
    unfolding ran
    stopped Last count c k told1 out1 k' told' out' few reached last is =
        let counted = reached.came.counted in
        record {
          client = c;
          keeper = k;
          between = told1;
          ran = ran count c k told1 (omega (arith, few)) reached.came;
          fewer = omega (arith, counted, few);
          wrote = subst (λ (o : Option (List ℕ)). Appends out o (lines_of mark reached.came.polls)) (sym is) reached.wrote;
          last = last;
        }

    -- a line was written in part
    cut : (count : ℕ) (c : Held) (k : KeeperState) (told1 : Option (Told P)) (out1 : Option (List ℕ)) (k' : KeeperState) (told' : Option (Told P)) (out' : Option (List ℕ)) → count + 1 ≤ words.polls → Reaches count c k told1 out1
        → Cuts given left written words.relay words.bootstrap words.max c k told1 out1 k' told' out' → Broken given left written words before k' told told' out out'
    unfolding ran came_more
    cut count c k told1 out1 k' told' out' few reached cuts =
        let came = reached.came in
        let p = cuts.gives.poll in
        let xs = lines_of mark came.polls in
        let lines : lines_of mark (came.polls ++ p ∷ []) ++ [] ≡ xs ++ cuts.text = append-nil (lines_of mark (came.polls ++ p ∷ [])) ∙ lines_more given left written words.relay words.bootstrap words.max (opened words.filter mark) start came.polls c k p came.made ∙ ap (λ (l : List ℕ). xs ++ l) (sym cuts.gives.line) in
        record {
          client = cuts.client;
          keeper = k';
          ran = ran (count + 1) cuts.client k' told' few (came_more given left written words.relay words.bootstrap words.max (opened words.filter mark) start told count c k told1 cuts.client k' told' cuts.text came cuts.gives);
          same = same_itself k';
          text = [];
          shown = inl refl;
          count = length xs + cuts.count;
          wrote = subst (λ (l : List ℕ). Appends out out' (take (length xs + cuts.count) l)) (sym lines) (appends_front out out1 out' xs cuts.text cuts.count reached.wrote cuts.wrote);
        }

    failed : (stop : Stop) (count : ℕ) (c : Held) (k : KeeperState) (told1 : Option (Told P)) (out1 : Option (List ℕ)) (k' : KeeperState) (told' : Option (Told P)) (out' : Option (List ℕ)) → count + 1 ≤ words.polls → Reaches count c k told1 out1
        → Fails given left written words.relay words.bootstrap words.max stop c k told1 out1 k' told' out' → Ended given left written words (stop_status stop) before k' told told' out out'
    failed LinkFault count c k told1 out1 k' told' out' few reached fails = stopped _ count c k told1 out1 k' told' out' few reached fails.misses fails.same
    failed BadAnswer count c k told1 out1 k' told' out' few reached fails = stopped _ count c k told1 out1 k' told' out' few reached fails.misses fails.same
    failed (BadReply place) count c k told1 out1 k' told' out' few reached fails = stopped _ count c k told1 out1 k' told' out' few reached fails.misses fails.same
    failed KeeperFault count c k told1 out1 k' told' out' few reached fails = inr (inl (stopped _ count c k told1 out1 k' told' out' few reached fails.misses fails.same))
    failed NoMemory count c k told1 out1 k' told' out' few reached fails = inr (inl (stopped _ count c k told1 out1 k' told' out' few reached fails.misses fails.same))
    failed BadMark count c k told1 out1 k' told' out' few reached fails = absurd fails
    failed WriteFault count c k told1 out1 k' told' out' few reached fails = cut count c k told1 out1 k' told' out' few reached fails

    -- the polls ended before they were all made
    halted : (stop : Stop) (k' : KeeperState) (told' : Option (Told P)) (out' : Option (List ℕ)) → Halted given left written words.relay words.bootstrap words.max stop (opened words.filter mark) start told out words.polls k' told' out'
        → Ended given left written words (stop_status stop) before k' told told' out out'
    halted stop k' told' out' h = failed stop h.some h.client h.keeper h.between h.so_far k' told' out' h.fewer h.reached h.fails

    read_only : (c : Held) (k k' : KeeperState) (told' : Option (Told P)) (out' : Option (List ℕ)) → Reaches words.polls c k told' out' → SameStore k k' → Unshown given left written words before k' told told' out out'
    unfolding ran
    read_only c k k' told' out' reached kept = record {
      client = c;
      keeper = k;
      ran = ran words.polls c k told' (omega arith) reached.came;
      all = reached.came.counted;
      same = kept;
      wrote = reached.wrote;
    }

    -- they were all made, and what the keeper holds was not shown
    unshown : (fault : StoreFault) (c : Held) (k k' : KeeperState) (told' : Option (Told P)) (out' : Option (List ℕ)) → Reaches words.polls c k told' out' → SameStore k k'
        → Ended given left written words (stop_status (store_stop fault)) before k' told told' out out'
    unshown stores.Failed c k k' told' out' reached kept = inr (inr (read_only c k k' told' out' reached kept))
    unshown stores.NoMemory c k k' told' out' reached kept = inr (inr (read_only c k k' told' out' reached kept))

    -- it was shown, or a front of that was written
    was_shown : (result : Result Unit Stop) (c : Held) (k k' : KeeperState) (told' : Option (Told P)) (out1 out' : Option (List ℕ)) (text : List ℕ) → Reaches words.polls c k told' out1 → SameStore k k' → Shows words.name c.mark k' text
        → OnOk result (Appends out1 out' text) → OnErr result ((count : ℕ) × Appends out1 out' (take count text)) → IfErr result (λ stop. stop ≡ WriteFault)
        → Ended given left written words (end_status result) before k' told told' out out'
    unfolding ran
    was_shown (Ok u) c k k' told' out1 out' text reached kept shows wrote part only = record {
      client = c;
      keeper = k;
      ran = ran words.polls c k told' (omega arith) reached.came;
      all = reached.came.counted;
      same = kept;
      text = text;
      shown = shows;
      wrote = Appends-trans out out1 out' (lines_of mark reached.came.polls) text reached.wrote wrote;
    }
    was_shown (Err stop) c k k' told' out1 out' text reached kept shows wrote part only =
        let xs = lines_of mark reached.came.polls in
        let broken : Broken given left written words before k' told told' out out' = record {
          client = c;
          keeper = k;
          ran = ran words.polls c k told' (omega arith) reached.came;
          same = kept;
          text = text;
          shown = inr (reached.came.counted, shows);
          count = length xs + part.0;
          wrote = appends_front out out1 out' xs text part.0 reached.wrote part.1;
        } in
        subst (λ (s : Stop). Ended given left written words (stop_status s) before k' told told' out out') (sym only) broken

  -- the same by the client as it was opened
  module _ (before start : KeeperState) (c0 : Held) (same : SameStore before start) (stored : Keeps start c0.mark) (is : c0 ≡ opened words.filter c0.mark) (told : Option (Told P)) (out : Option (List ℕ)) where
    pub ended_halted : (stop : Stop) (k' : KeeperState) (told' : Option (Told P)) (out' : Option (List ℕ)) → Halted given left written words.relay words.bootstrap words.max stop c0 start told out words.polls k' told' out'
        → Ended given left written words (stop_status stop) before k' told told' out out'
    ended_halted stop k' told' out' h =
        halted before start c0.mark same stored told out stop k' told' out' (subst (λ (d : Held). Halted given left written words.relay words.bootstrap words.max stop d start told out words.polls k' told' out') is h)

    pub ended_unshown : (fault : StoreFault) (c : Held) (k k' : KeeperState) (told' : Option (Told P)) (out' : Option (List ℕ)) → Reached given left written words.relay words.bootstrap words.max c0 start told out words.polls c k told' out' → SameStore k k'
        → Ended given left written words (stop_status (store_stop fault)) before k' told told' out out'
    ended_unshown fault c k k' told' out' reached kept =
        unshown before start c0.mark same stored told out fault c k k' told' out' (subst (λ (d : Held). Reached given left written words.relay words.bootstrap words.max d start told out words.polls c k told' out') is reached) kept

    pub ended_shown : (result : Result Unit Stop) (c : Held) (k k' : KeeperState) (told' : Option (Told P)) (out1 out' : Option (List ℕ)) (text sent : List ℕ) → Reached given left written words.relay words.bootstrap words.max c0 start told out words.polls c k told' out1 → SameStore k k'
        → Shows words.name c.mark k' text → sent ≡ text → OnOk result (Appends out1 out' sent) → OnErr result ((count : ℕ) × Appends out1 out' (take count sent)) → IfErr result (λ stop. stop ≡ WriteFault)
        → Ended given left written words (end_status result) before k' told told' out out'
    ended_shown result c k k' told' out1 out' text sent reached kept shows all wrote part only =
        was_shown before start c0.mark same stored told out result c k k' told' out1 out' sent (subst (λ (d : Held). Reached given left written words.relay words.bootstrap words.max d start told out words.polls c k told' out1) is reached)
        kept (subst (Shows words.name c.mark k') (sym all) shows) wrote part only

-- ---- its status

-- the end that has a status, where one has
stop_of : NodeStatus → Result Unit Stop
stop_of statuses.LinkFault = Err LinkFault
stop_of statuses.BadAnswer = Err BadAnswer
stop_of (statuses.BadReply place) = Err (BadReply place)
stop_of statuses.StoreFault = Err KeeperFault
stop_of statuses.BadMark = Err BadMark
stop_of statuses.WriteFault = Err WriteFault
stop_of statuses.NoMemory = Err NoMemory
stop_of statuses.Done = Ok tt
stop_of statuses.Usage = Ok tt
stop_of (statuses.BadLine line) = Ok tt
stop_of statuses.ReadFault = Ok tt
stop_of (statuses.TooLong line) = Ok tt
stop_of (statuses.WrongWord line) = Ok tt
stop_of (statuses.Ahead applied high) = Ok tt
stop_of (statuses.Hole base floor) = Ok tt

stop_back : (run : Result Unit Stop) → stop_of (end_status run) ≡ run
unfolding stop_of
stop_back (Ok u) = refl
stop_back (Err LinkFault) = refl
stop_back (Err BadAnswer) = refl
stop_back (Err (BadReply place)) = refl
stop_back (Err KeeperFault) = refl
stop_back (Err BadMark) = refl
stop_back (Err WriteFault) = refl
stop_back (Err NoMemory) = refl

-- a status is that of one end
pub one_end : (run : Result Unit Stop) (status : NodeStatus) (other : Stop) → status ≡ end_status run → status ≡ stop_status other → run ≡ Err other
one_end run status other one two = sym (stop_back run) ∙ ap stop_of (sym one ∙ two) ∙ stop_back (Err other)
