-- What a pass replies over a connection is what the relay does that it sees.
use Rattle.std.proofs.Common.{◌≡◌, ℕ, ◌+◌, Bool, true, false, true≢false, inl, inr, List, [], ◌∷◌, map, Option, Some, None, refl, sym, ap, ◌∙◌, subst}
use Rattle.std.specs.Prelude.{IfSome}
use Rattle.bus_types.specs.Window.{Span}
use Rattle.bus_types.specs.Timeline.{IsTold}
use Rattle.bus_types.specs.Relay.{Relay, answer_of}
use Rattle.partition_filter.specs.Selection.{test_of}
use Rattle.event_codec.specs.Reply.{reply_bytes}
use Rattle.bus_wire.specs.declared.ask.Ask.{Ask}
use Rattle.bus_wire.specs.declared.ask.Ask.TheVariants.{Stream, Start, Scan, Target, Catchup, Delta}
use Rattle.bus_http.specs.declared.reply.Refused.{Refused}
use Rattle.bus_http.specs.declared.reply.Refused.TheVariants.{BadRequest as Bad, NotFound, MethodNotAllowed, HeadTooLarge, ServerError}
use Rattle.bus_http.specs.declared.route.Side.{Side}
use Rattle.bus_http.specs.declared.route.Side.TheVariants.{Relay as RelaySide}
use Rattle.bus_http.specs.declared.service.ServeEnd.{ServeEnd}
use Rattle.bus_http.specs.declared.service.ServeEnd.TheVariants.{Closed, BadRequest, ReadFault, WriteFault, TooMany, NoMemory}
use Rattle.bus_http.specs.Talks.{Turn, Where, IsRefused, Refuses, Due, Ends, IsClosing, Talks, Served}
use Rattle.range_ring.specs.Belonging.{RingIs, PassIs}
use Rattle.relay_server.specs.Steady.{KeepsRelay}
use Rattle.relay_server.specs.Shared.{MayShare, KeepsPass}
use Rattle.relay_node.specs.Passing.{SeesAll}
use Rattle.relay_node.specs.Serving.{MayReply, ServesRelay}
use Rattle.relay_node.proofs.Seen.{relay_of, sees_still, answers_as}

record With (A B : Type 0) : Type 0 where
  pub stays : A
  pub there : B

-- A talk by states of which each is such a state, and whose replies are then those in one state of another kind
module _ {S T : Type 0} (side : Side) (may : S → S → Ask → List ℕ → Type 0) (keeps : S → S → Type 0) (may' : T → T → Ask → List ℕ → Type 0) (keeps' : T → T → Type 0) (Is : S → Type 0) (r : T)
    (replies : (s t : S) (ask : Ask) (body : List ℕ) → Is s → may s t ask body → With (Is t) (may' r r ask body)) (kept : (s t : S) → Is s → keeps s t → Is t) where
  same : (s t : S) → Is s → t ≡ s → Is t
  same s t is e = subst Is (sym e) is

  refused_as : (refused : Refused) (s t : S) (got : List ℕ) (left : Option (List ℕ)) → Is s → IsRefused side may keeps true s t got left refused → With (Is t) (IsRefused side may' keeps' true r r got left refused)
  refused_as refused s t got left is h = record { stays = same s t is h.same; there = record { fault = h.fault; first = h.first; refused_is = h.refused_is; same = refl } }

  refuses_as : (refused : Refused) (s t : S) (got : List ℕ) (left : Option (List ℕ)) → Is s → Refuses side may keeps true s t got left refused → With (Is t) (Refuses side may' keeps' true r r got left refused)
  refuses_as Bad s t got left is h = refused_as Bad s t got left is h
  refuses_as NotFound s t got left is h = refused_as NotFound s t got left is h
  refuses_as MethodNotAllowed s t got left is h = refused_as MethodNotAllowed s t got left is h
  refuses_as HeadTooLarge s t got left is h = refused_as HeadTooLarge s t got left is h
  refuses_as ServerError s t got left is h = absurd (true≢false h.unsure)

  due_as : (s t : S) (got : List ℕ) (left : Option (List ℕ)) (text : List ℕ) → Is s → Due side may keeps true s t got left text → With (Is t) (Due side may' keeps' true r r got left text)
  due_as s t got left text is (inl h) =
      let next = refuses_as h.0 s t got left is h.1 in
      record { stays = next.stays; there = inl (h.0, next.there, h.2) }
  due_as s t got left text is (inr h) =
      let next = replies s t h.1.request.ask h.0 is h.1.reply in
      record { stays = next.stays; there = inr (h.0, record { request = h.1.request; rest = h.1.rest; first = h.1.first; reply = next.there }, h.2) }

  ends_as : (s t : S) (count : ℕ) (got : List ℕ) (left : Option (List ℕ)) (said : List ℕ) (end : ServeEnd) → Is s → Ends side may keeps true s t count got left said end → With (Is t) (Ends side may' keeps' true r r count got left said end)
  ends_as s t count got left said Closed is h = record { stays = same s t is h.4; there = (h.0, h.1, h.2, h.3, refl) }
  ends_as s t count got left said (BadRequest status) is h =
      let next = refuses_as h.1.0 s t got left is h.1.1 in
      record { stays = next.stays; there = (h.0, (h.1.0, next.there, h.1.2, h.1.3)) }
  ends_as s t count got left said ReadFault is h = record { stays = same s t is h.2; there = (h.0, h.1, refl) }
  ends_as s t count got left said WriteFault is h =
      let next = due_as s t got left h.1.0 is h.1.1 in
      record { stays = next.stays; there = (h.0, (h.1.0, next.there, h.1.2)) }
  ends_as s t count got left said TooMany is h = record { stays = same s t is h.2; there = (h.0, h.1, refl) }
  ends_as s t count got left said NoMemory is h = record {
    stays = elim h.2 [ inl e ↦ same s t is e | inr k ↦ kept s t is k ];
    there = (h.0, h.1, inl refl);
  }

  abbrev turn_as : Turn S → Turn T
  turn_as turn = record { request = turn.request; body = turn.body; state = r }

  closing_as : (s t : S) (said : List ℕ) (end : ServeEnd) (turns : List (Turn S)) → Is s → IsClosing side may keeps true s t said end turns → With (Is t) (IsClosing side may' keeps' true r r said end (map turn_as turns))
  closing_as s t said end turns is h = record {
    stays = same s t is h.same;
    there = record { last = ap (map turn_as) h.last; silent = h.silent; closed = h.closed; same = refl };
  }

  where_as : (closes : Bool) (A B A' B' X : Type 0) → (A → With X A') → (B → With X B') → Where closes A B → With X (Where closes A' B')
  where_as true A B A' B' X f g h = f h
  where_as false A B A' B' X f g h = g h

  talks_as : (s t : S) (count : ℕ) (got : List ℕ) (left : Option (List ℕ)) (said : List ℕ) (end : ServeEnd) (turns : List (Turn S)) → Is s → Talks side may keeps true s t count got left said end turns
      → With (Is t) (Talks side may' keeps' true r r count got left said end (map turn_as turns))
  talks_as s t count got left said end [] is h = ends_as s t count got left said end is h
  talks_as s t count got left said end (turn ∷ turns) is h =
      let rest : List ℕ = h.1.0 in
      let behind : List ℕ = h.1.1 in
      let next = replies s turn.state turn.request.ask turn.body is h.1.3 in
      let more = where_as turn.request.close _ _ _ _ _ (closing_as turn.state t behind end turns next.stays) (talks_as turn.state t (count + 1) rest left behind end turns next.stays) h.1.5 in
      record { stays = more.stays; there = (h.0, (rest, behind, h.1.2, next.there, h.1.4, more.there)) }

  served_as : (s t : S) (g g' l l' w w' : Option (List ℕ)) (end : ServeEnd) → Is s → Served side may keeps true s t g g' l l' w w' end → With (Is t) (Served side may' keeps' true r r g g' l l' w w' end)
  served_as s t g g' l l' w w' end is h =
      let talk = talks_as s t 0 h.got l' h.said end h.talk.0 is h.talk.1 in
      record {
        stays = talk.stays;
        there = record { got = h.got; said = h.said; given = h.given; left = h.left; written = h.written; talk = (map turn_as h.talk.0, talk.there) };
      }

-- ---- a pass of a ring

-- it sees all windows of its ring
record Sees (told : Option (List Span)) (ring : RingIs) (pass : PassIs) : Type 0 where
  pub home : pass.home ≡ ring
  pub all : SeesAll ring.limits told pass.evicted pass.published

sees_on : (told : Option (List Span)) (ring : RingIs) (s t : PassIs) (ask : Ask) (body : List ℕ) → Sees told ring s → MayShare told s t ask body → Sees told ring t
sees_on told ring s t (Stream scn filter max) body is h = record {
  home = h.looked.home ∙ is.home;
  all = subst (λ (q : RingIs). SeesAll q.limits told t.evicted t.published) is.home
      (sees_still told s t (subst (λ (q : RingIs). SeesAll q.limits told s.evicted s.published) (sym is.home) is.all) h.looked h.lawful);
}
sees_on told ring s t (Start since fresh) body is h = absurd h
sees_on told ring s t (Scan start cursor filter max) body is h = absurd h
sees_on told ring s t (Target start atleast) body is h = absurd h
sees_on told ring s t (Catchup at target filter max) body is h = absurd h
sees_on told ring s t (Delta since target cursor filter max) body is h = absurd h

replied : (told : Option (List Span)) (ring : RingIs) (r : Relay) (s t : PassIs) (ask : Ask) (body : List ℕ) → IsTold told → IfSome told (λ windows. r ≡ relay_of ring.limits windows) → Sees told ring t → MayShare told s t ask body → MayReply told r r ask body
replied None ring r s t (Stream scn filter max) body timeline relay sees h = (refl, (h.answer, h.bytes_are))
replied (Some ws) ring r s t (Stream scn filter max) body timeline relay sees h =
    let answer = answers_as ring.limits ws t.evicted t.published scn (test_of filter) max h.answer timeline sees.all h.answers in
    (refl, h.bytes_are ∙ ap reply_bytes (answer ∙ ap (λ (q : Relay). answer_of q scn (test_of filter) max) (sym relay)))
replied told ring r s t (Start since fresh) body timeline relay sees h = absurd h
replied told ring r s t (Scan start cursor filter max) body timeline relay sees h = absurd h
replied told ring r s t (Target start atleast) body timeline relay sees h = absurd h
replied told ring r s t (Catchup at target filter max) body timeline relay sees h = absurd h
replied told ring r s t (Delta since target cursor filter max) body timeline relay sees h = absurd h

served_by : (told : Option (List Span)) (ring : RingIs) (r : Relay) (s t : PassIs) (g g' l l' w w' : Option (List ℕ)) (end : ServeEnd) → IsTold told → IfSome told (λ windows. r ≡ relay_of ring.limits windows) → Sees told ring s
    → Served RelaySide (MayShare told) KeepsPass true s t g g' l l' w w' end → With (Sees told ring t) (Served RelaySide (MayReply told) KeepsRelay true r r g g' l l' w w' end)
served_by told ring r s t g g' l l' w w' end timeline relay sees h =
    served_as RelaySide (MayShare told) KeepsPass (MayReply told) KeepsRelay (Sees told ring) r
    (λ s t ask body is may. let on = sees_on told ring s t ask body is may in record { stays = on; there = replied told ring r s t ask body timeline relay on may })
    (λ s t is k. subst (Sees told ring) (sym k) is) s t g g' l l' w w' end sees h

-- it serves the relay
pub serves_relay : (told : Option (List Span)) (ring : RingIs) (r : Relay) (s t : PassIs) (g g' l l' w w' : Option (List ℕ)) (end : ServeEnd) → IsTold told → IfSome told (λ windows. r ≡ relay_of ring.limits windows) → s.home ≡ ring
    → SeesAll ring.limits told s.evicted s.published → Served RelaySide (MayShare told) KeepsPass true s t g g' l l' w w' end → ServesRelay told r r g g' l l' w w' end
serves_relay told ring r s t g g' l l' w w' end timeline relay home all h = (refl, (r, (served_by told ring r s t g g' l l' w w' end timeline relay (record { home = home; all = all }) h).there))

-- and still sees all
pub serves_still : (told : Option (List Span)) (ring : RingIs) (r : Relay) (s t : PassIs) (g g' l l' w w' : Option (List ℕ)) (end : ServeEnd) → IsTold told → IfSome told (λ windows. r ≡ relay_of ring.limits windows) → s.home ≡ ring
    → SeesAll ring.limits told s.evicted s.published → Served RelaySide (MayShare told) KeepsPass true s t g g' l l' w w' end → SeesAll ring.limits told t.evicted t.published
serves_still told ring r s t g g' l l' w w' end timeline relay home all h = (served_by told ring r s t g g' l l' w w' end timeline relay (record { home = home; all = all }) h).stays.all
