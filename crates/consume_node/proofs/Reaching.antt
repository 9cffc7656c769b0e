-- Several polls.
use Rattle.std.proofs.Common.{◌≡◌, ℕ, ◌+◌, List, [], ◌∷◌, ◌++◌, Option, Some, None, refl, sym, ap, subst, ◌∙◌, arith, map, append_assoc, append-nil}
use Rattle.std.specs.Prelude.{option_map}
use Rattle.std.specs.Io.KnownBytes.{Appends}
use Rattle.std.proofs.KnownBytes.{Appends-nil, Appends-trans}
use Rattle.std.proofs.lemmas.List.{length-append}
use Rattle.bus_types.specs.Change.{Test}
use Rattle.bus_types.specs.Window.{Span}
use Rattle.bus_link.specs.Links.{Told}
use Rattle.bus_stores.specs.Keeper.{KeeperState}
use Rattle.partition_filter.specs.Selection.{Selection, test_of}
use Rattle.client_switch.specs.Client.{Held, asks, HoldsGood, AreTrueOf}
use Rattle.bus_node.specs.Exchange.{with_exchange}
use Rattle.consume_node.specs.Polls.{Poll, port_of, line_of, lines_of, with_polls, IsPoll, Polls, AreTrue}
use Rattle.consume_node.specs.Failing.{Gives, Turns, Came, Reached}

module _ {P : Type 0} (given left written : P → Option (List ℕ)) (relay bootstrap most : ℕ) where
  -- ---- one poll behind others

  pub polls_more : (c : Held) (k : KeeperState) (ps : List (Poll P)) (c1 : Held) (k1 : KeeperState) (p : Poll P) → Polls given left written most c k ps c1 k1 → IsPoll given left written most c1 k1 p → Polls given left written most c k (ps ++ p ∷ []) p.client p.keeper
  polls_more c k [] c1 k1 p made is = (subst (λ (d : Held). IsPoll given left written most d k p) made.0 (subst (λ (s : KeeperState). IsPoll given left written most c1 s p) made.1 is), (refl, refl))
  polls_more c k (q ∷ ps) c1 k1 p made is = (made.0, polls_more q.client q.keeper ps c1 k1 p made.1 is)

  pub lines_more : (c : Held) (k : KeeperState) (ps : List (Poll P)) (c1 : Held) (k1 : KeeperState) (p : Poll P) → Polls given left written most c k ps c1 k1 → lines_of c.mark (ps ++ p ∷ []) ≡ lines_of c.mark ps ++ line_of c1.mark p
  lines_more c k [] c1 k1 p made = append-nil (line_of c.mark p) ∙ ap (λ (d : Held). line_of d.mark p) (sym made.0)
  lines_more c k (q ∷ ps) c1 k1 p made = ap (λ (l : List ℕ). line_of c.mark q ++ l) (lines_more q.client q.keeper ps c1 k1 p made.1) ∙ sym (append_assoc (line_of c.mark q) (lines_of q.client.mark ps) (line_of c1.mark p))

  pub true_more : (ws : List Span) (test : Test) (c : Held) (k : KeeperState) (ps : List (Poll P)) (c1 : Held) (k1 : KeeperState) (p : Poll P) → Polls given left written most c k ps c1 k1 → AreTrue ws test most c (ps ++ p ∷ []) → AreTrue ws test most c ps × AreTrueOf ws test (asks c1 most) p.ask p.body
  true_more ws test c k [] c1 k1 p made all = (tt, subst (λ (d : Held). AreTrueOf ws test (asks d most) p.ask p.body) (sym made.0) all.0)
  true_more ws test c k (q ∷ ps) c1 k1 p made all = (let rest = true_more ws test q.client q.keeper ps c1 k1 p made.1 all.1 in ((all.0, rest.0), rest.1))

  map_more : {X Y : Type 0} (f : X → Y) (xs : List X) (x : X) → map f (xs ++ x ∷ []) ≡ map f xs ++ f x ∷ []
  map_more f [] x = refl
  map_more f (y ∷ xs) x = ap (λ l. f y ∷ l) (map_more f xs x)

  told_one : (t : Told P) (ps : List (Poll P)) (p : Poll P) → with_exchange (port_of relay bootstrap p.ask) p.peer (with_polls relay bootstrap ps t) ≡ with_polls relay bootstrap (ps ++ p ∷ []) t
  told_one t ps p =
      let port : Poll P → ℕ = λ q. port_of relay bootstrap q.ask in
      let peer : Poll P → P = λ q. q.peer in
      let ports : (t.ports ++ map port ps) ++ port p ∷ [] ≡ t.ports ++ map port (ps ++ p ∷ []) = append_assoc t.ports (map port ps) (port p ∷ []) ∙ ap (λ l. t.ports ++ l) (sym (map_more port ps p)) in
      let peers : (t.hung_up ++ map peer ps) ++ peer p ∷ [] ≡ t.hung_up ++ map peer (ps ++ p ∷ []) = append_assoc t.hung_up (map peer ps) (peer p ∷ []) ∙ ap (λ l. t.hung_up ++ l) (sym (map_more peer ps p)) in
      λ i. record t { ports = ports i; hung_up = peers i }

  pub told_more : (told : Option (Told P)) (ps : List (Poll P)) (p : Poll P) → option_map (with_exchange (port_of relay bootstrap p.ask) p.peer) (option_map (with_polls relay bootstrap ps) told) ≡ option_map (with_polls relay bootstrap (ps ++ p ∷ [])) told
  told_more None ps p = refl
  told_more (Some t) ps p = ap Some (told_one t ps p)

  pub told_zero : (told : Option (Told P)) → told ≡ option_map (with_polls relay bootstrap []) told
  told_zero None = refl
  told_zero (Some t) =
      let ports = sym (append-nil t.ports) in
      let peers = sym (append-nil t.hung_up) in
      λ i. Some (record t { ports = ports i; hung_up = peers i })

  -- ---- what was done

  unfoldable pub came_none : (c : Held) (k : KeeperState) (told : Option (Told P)) → Came given left written relay bootstrap most c k told 0 c k told
  came_none c k told = record { polls = []; made = (refl, refl); counted = refl; linked = told_zero told; filter = refl; good = λ ws timeline good all. good }

  unfoldable pub came_more : (c : Held) (k : KeeperState) (told : Option (Told P)) (count : ℕ) (c1 : Held) (k1 : KeeperState) (told1 : Option (Told P)) (c2 : Held) (k2 : KeeperState) (told2 : Option (Told P)) (text : List ℕ)
      → Came given left written relay bootstrap most c k told count c1 k1 told1 → Gives given left written relay bootstrap most c1 k1 told1 c2 k2 told2 text
      → Came given left written relay bootstrap most c k told (count + 1) c2 k2 told2
  came_more c k told count c1 k1 told1 c2 k2 told2 text came gives =
      let p = gives.poll in
      let same : c2.filter ≡ c1.filter = ap (λ (d : Held). d.filter) (gives.client ∙ gives.is.taken.client) in
      let both = length-append came.polls (p ∷ []) in
      let counted = came.counted in
      record {
        polls = came.polls ++ p ∷ [];
        made = subst (λ (d : Held). Polls given left written most c k (came.polls ++ p ∷ []) d k2) (sym gives.client) (subst (λ (s : KeeperState). Polls given left written most c k (came.polls ++ p ∷ []) p.client s) (sym gives.keeper) (polls_more c k came.polls c1 k1 p came.made gives.is));
        counted = omega (arith, both, counted);
        linked = gives.linked ∙ ap (option_map (with_exchange (port_of relay bootstrap p.ask) p.peer)) came.linked ∙ told_more told came.polls p;
        filter = same ∙ came.filter;
        good = λ ws timeline good all. (let split = true_more ws (test_of c.filter) c k came.polls c1 k1 p came.made all in
            let before = came.good ws timeline good split.0 in
            let moved = gives.is.good ws timeline (subst (λ (f : Selection). HoldsGood ws (test_of f) c1.mark k1) (sym came.filter) before) (subst (λ (f : Selection). AreTrueOf ws (test_of f) (asks c1 most) p.ask p.body) (sym came.filter) split.1) in
            let here = subst (λ (f : Selection). HoldsGood ws (test_of f) p.client.mark p.keeper) came.filter moved in
            subst (λ (d : Held). HoldsGood ws (test_of c.filter) d.mark k2) (sym gives.client) (subst (λ (s : KeeperState). HoldsGood ws (test_of c.filter) p.client.mark s) (sym gives.keeper) here));
      }

  pub reached_none : (c : Held) (k : KeeperState) (told : Option (Told P)) (out : Option (List ℕ)) → Reached given left written relay bootstrap most c k told out 0 c k told out
  unfolding came_none
  reached_none c k told out = record { came = came_none c k told; wrote = Appends-nil out }

  -- the lines of polls with one more
  pub wrote_more : (c : Held) (k : KeeperState) (ps : List (Poll P)) (c1 : Held) (k1 : KeeperState) (p : Poll P) (text : List ℕ) (out out1 out2 : Option (List ℕ)) → Polls given left written most c k ps c1 k1 → text ≡ line_of c1.mark p
      → Appends out out1 (lines_of c.mark ps) → Appends out1 out2 text → Appends out out2 (lines_of c.mark (ps ++ p ∷ []))
  wrote_more c k ps c1 k1 p text out out1 out2 made line one two =
      subst (Appends out out2) (sym (lines_more c k ps c1 k1 p made)) (Appends-trans out out1 out2 (lines_of c.mark ps) (line_of c1.mark p) one (subst (Appends out1 out2) line two))

  pub reached_more : (c : Held) (k : KeeperState) (told : Option (Told P)) (out : Option (List ℕ)) (count : ℕ) (c1 : Held) (k1 : KeeperState) (told1 : Option (Told P)) (out1 : Option (List ℕ)) (c2 : Held) (k2 : KeeperState) (told2 : Option (Told P)) (out2 : Option (List ℕ))
      → Reached given left written relay bootstrap most c k told out count c1 k1 told1 out1 → Turns given left written relay bootstrap most c1 k1 told1 out1 c2 k2 told2 out2
      → Reached given left written relay bootstrap most c k told out (count + 1) c2 k2 told2 out2
  unfolding came_more
  reached_more c k told out count c1 k1 told1 out1 c2 k2 told2 out2 reached turns = record {
    came = came_more c k told count c1 k1 told1 c2 k2 told2 turns.text reached.came turns.gives;
    wrote = wrote_more c k reached.came.polls c1 k1 turns.gives.poll turns.text out out1 out2 reached.came.made turns.gives.line reached.wrote turns.wrote;
  }
