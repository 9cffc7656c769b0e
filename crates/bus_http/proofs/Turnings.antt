-- One turn of a connection, by what was read and what was said.
use Rattle.std.proofs.Common.{◌≡◌, ℕ, ◌<◌, ◌⊎◌, inl, inr, ◌==◌, nat_lt, Bool, true, false, List, [], ◌∷◌, ◌++◌, length, take, Option, Some, None, Result, Ok, Err, refl, sym, ap, subst, ◌∙◌, append-nil, length-append, if◌then◌else◌, arith}
use Rattle.std.proofs.lemmas.Bool.{cond-false}
use Rattle.std.proofs.lemmas.Bool.{ne_eqb}
use Rattle.std.specs.Io.KnownBytes.{Appends, IsAtEnd}
use Rattle.bus_wire.specs.declared.ask.Ask.{Ask}
use Rattle.bus_http.specs.declared.fault.RequestFault.{RequestFault}
use Rattle.bus_http.specs.declared.fault.RequestFault.TheVariants as faults
use Rattle.bus_http.specs.declared.request.Request.{Request}
use Rattle.bus_http.specs.declared.reply.Refused.{Refused}
use Rattle.bus_http.specs.declared.reply.Refused.TheVariants as refusals
use Rattle.bus_http.specs.declared.route.Side.{Side}
use Rattle.bus_http.specs.declared.service.ServeEnd.{ServeEnd}
use Rattle.bus_http.specs.declared.service.ServeEnd.TheVariants.{Closed, BadRequest, ReadFault, WriteFault, TooMany, NoMemory}
use Rattle.bus_http.specs.Ending.{head_end, most_head}
use Rattle.bus_http.specs.Replies.{refusal}
use Rattle.bus_http.specs.Requests.{Found, unended, some_request, FirstAt, First, Untaken, Settled, Sees, Saw, IsReadFault}
use Rattle.bus_http.specs.Talks.{reply_text, refusal_of, IsFront, FirstIn, Refuses, Due, IsReadEnd}
use Rattle.bus_http.specs.Turns.{RefusedAs, silent_end, DeclinedBy, Declining, RespondedAs, Responding, TurnedAs, Turned}

-- ---- what was seen, by the answer

-- behind which the input has ended
unended_none : (bytes : List ℕ) → ◌≡◌ {A = Found} (Ok None) (unended (length bytes)) → bytes ≡ []
unended_none [] e = refl
unended_none (b ∷ bytes) e =
    let some : (length (b ∷ bytes) == 0) ≡ false = ne_eqb (length (b ∷ bytes)) 0 (λ z. omega arith) in
    absurd (long (nat_lt (length (b ∷ bytes)) most_head) (e ∙ cond-false (length (b ∷ bytes) == 0) (Ok None) _ some))
  where
    long : (t : Bool) → ◌≡◌ {A = Found} (Ok None) (if t then Err faults.BadHead else Err faults.HeadTooLong) → ⊥
    long true e = cc e
    long false e = cc e

unended_some : (n : ℕ) (request : Request) → ◌≡◌ {A = Found} (Ok (Some request)) (unended n) → ⊥
unended_some n request e = first (n == 0) (nat_lt n most_head) e
  where
    first : (s t : Bool) → ◌≡◌ {A = Found} (Ok (Some request)) (if s then Ok None else if t then Err faults.BadHead else Err faults.HeadTooLong) → ⊥
    first true t e = cc e
    first false true e = cc e
    first false false e = cc e

-- a head means a request or a fault
never_none : (side : Side) (o : Option ℕ) (whole rest : List ℕ) → 0 < length whole → FirstAt side o whole (Ok None) rest → ⊥
never_none side (Some end) whole rest some f = no_request f.answer f.result_is
  where
    no_request : (answer : Result Request RequestFault) → ◌≡◌ {A = Found} (Ok None) (some_request answer) → ⊥
    no_request (Ok request) e = cc e
    no_request (Err fault) e = cc e
never_none side None whole rest some f =
    let none : whole ≡ [] = unended_none whole f.result_is in
    absurd (omega (arith, ap length none))

pub sees_none : (side : Side) (seen : List ℕ) (m : Option (List ℕ)) (rest : List ℕ) → Sees side seen m (Ok None) rest → IsAtEnd m × (seen ≡ [])
sees_none side seen m rest sees =
    elim sees [
      | inl s ↦ absurd (never_none side (head_end (take most_head (seen ++ 0 ∷ []))) (seen ++ 0 ∷ []) (rest ++ 0 ∷ []) (omega (arith, length-append seen (0 ∷ []))) (s (0 ∷ [])))
      | inr other ↦ elim other [
        | inl last ↦ (last.ended, unended_none seen last.answer.result_is)
        | inr u ↦ absurd (elim u.fault [ inl e ↦ cc e | inr e ↦ cc e ])
      ]
    ]

pub sees_some : (side : Side) (seen : List ℕ) (m : Option (List ℕ)) (request : Request) (rest : List ℕ) → Sees side seen m (Ok (Some request)) rest → Settled side seen (Ok (Some request)) rest
sees_some side seen m request rest sees =
    elim sees [
      | inl s ↦ s
      | inr other ↦ elim other [
        | inl last ↦ absurd (unended_some (length seen) request last.answer.result_is)
        | inr u ↦ absurd (elim u.fault [ inl e ↦ cc e | inr e ↦ cc e ])
      ]
    ]

-- the first request, and nothing more was read
pub settled_now : (side : Side) (seen rest : List ℕ) (result : Found) → Settled side seen result rest → First side seen result rest
settled_now side seen rest result s = subst (λ (w : List ℕ). First side w result rest) (append-nil seen) (subst (λ (r : List ℕ). First side (seen ++ []) result r) (append-nil rest) (s []))

-- what is refused was taken, or is unended
never_untaken : (fault : RequestFault) (refused : Refused) (seen rest : List ℕ) → refusal_of fault ≡ Some refused → Untaken seen (Err fault) rest → ⊥
never_untaken faults.ReadFault refused seen rest is u = cc is
never_untaken faults.HeadTooLong refused seen rest is u = elim u.fault [ inl e ↦ cc e | inr e ↦ cc e ]
never_untaken faults.BadHead refused seen rest is u = elim u.fault [ inl e ↦ cc e | inr e ↦ cc e ]
never_untaken faults.BadMethod refused seen rest is u = elim u.fault [ inl e ↦ cc e | inr e ↦ cc e ]
never_untaken faults.NoSuchPath refused seen rest is u = elim u.fault [ inl e ↦ cc e | inr e ↦ cc e ]
never_untaken (faults.BadQuery name) refused seen rest is u = elim u.fault [ inl e ↦ cc e | inr e ↦ cc e ]
never_untaken faults.NoMemory refused seen rest is u = cc is

pub sees_err : (side : Side) (seen : List ℕ) (m : Option (List ℕ)) (fault : RequestFault) (refused : Refused) (rest : List ℕ) → refusal_of fault ≡ Some refused → Sees side seen m (Err fault) rest
    → FirstIn side seen m (Err fault)
sees_err side seen m fault refused rest is sees =
    (rest, elim sees [ inl s ↦ inl s | inr other ↦ elim other [ inl last ↦ inr last | inr u ↦ absurd (never_untaken fault refused seen rest is u) ] ])

-- ---- sources and sinks

appends_none : (w v : Option (List ℕ)) → v ≡ w → Appends w v []
appends_none w v is = subst (λ x. Appends w x []) (sym is) (same w)
  where
    same : (o : Option (List ℕ)) → Appends o o []
    same None = tt
    same (Some x) = sym (append-nil x)

-- ---- turns

module _ {State : Type 0} (side : Side) (may : State → State → Ask → List ℕ → Type 0) (keeps : State → State → Type 0) (sure : Bool) where
  -- the input has ended
  pub ended_turn : (s : State) (l m g h w v : Option (List ℕ)) (old new : List ℕ) → Saw side l m g h old (Ok None) new → v ≡ w
      → Turned side may keeps sure s s g h l m w v old (Some Closed) new
  ended_turn s l m g h w v old new saw kept =
      let none = sees_none side (old ++ saw.came) m new saw.sees in
      record { came = saw.came; said = []; given = saw.given; left = saw.left; written = appends_none w v kept; as_said = λ count room. ([], (room, none.0, none.1, refl, refl)) }

  -- a request was answered
  responded : (s t : State) (request : Request) (seen : List ℕ) (m : Option (List ℕ)) (said rest : List ℕ) (result : Option ServeEnd) → Settled side seen (Ok (Some request)) rest
      → RespondedAs side may keeps sure s t request said result → TurnedAs side may keeps sure s t seen m said result rest
  responded s t request seen m said rest None settled r = record { request = request; body = r.1.0; settled = settled; stays = r.0; reply = r.1.1; said_is = r.1.2 }
  responded s t request seen m said rest (Some Closed) settled r =
      λ count room. (
        record { request = request; body = r.1.0; state = t } ∷ [],
        (
          room,
          (
            rest,
            [],
            settled_now side seen rest _ settled,
            r.1.1,
            r.1.2 ∙ sym (append-nil (reply_text r.1.0)),
            rw r.0 (record { last = refl; silent = refl; closed = refl; same = refl }),
          ),
        ),
      )
  responded s t request seen m said rest (Some (BadRequest status)) settled r =
      λ count room. ([], (room, (refusals.ServerError, record { request = request; rest = rest; first = settled_now side seen rest _ settled; unsure = r.0; kept = r.1 }, r.2.0, r.2.1)))
  responded s t request seen m said rest (Some ReadFault) settled r = absurd r
  responded s t request seen m said rest (Some WriteFault) settled r = λ count room. ([], (room, due r))
    where
      due : ((sure ≡ false) × keeps s t × IsFront said (refusal refusals.ServerError)) ⊎ ((body : List ℕ) × may s t request.ask body × IsFront said (reply_text body))
          → (text : List ℕ) × Due side may keeps sure s t seen m text × IsFront said text
      due (inl f) = (refusal refusals.ServerError, inl (refusals.ServerError, record { request = request; rest = rest; first = settled_now side seen rest _ settled; unsure = f.0; kept = f.1 }, refl), f.2)
      due (inr b) = (reply_text b.0, inr (b.0, record { request = request; rest = rest; first = settled_now side seen rest _ settled; reply = b.1 }, refl), b.2)
  responded s t request seen m said rest (Some TooMany) settled r = absurd r
  responded s t request seen m said rest (Some NoMemory) settled r = λ count room. ([], (room, r.1, inr r.0))

  pub responded_turn : (s t : State) (request : Request) (l m n g h i w v u : Option (List ℕ)) (old new : List ℕ) (result : Option ServeEnd) → Saw side l m g h old (Ok (Some request)) new
      → Responding side may keeps sure s t request v u result → v ≡ w → n ≡ m → i ≡ h → Turned side may keeps sure s t g i l n w u old result new
  responded_turn s t request l m n g h i w v u old new result saw r kept left_is given_is =
      rw (left_is, given_is) record {
        came = saw.came;
        said = r.said;
        given = saw.given;
        left = saw.left;
        written = subst (λ x. Appends x u r.said) kept r.written;
        as_said = responded s t request (old ++ saw.came) m r.said new result (sees_some side (old ++ saw.came) m request new saw.sees) r.as_said;
      }

  -- what isn't a request was declined
  refuses : (s : State) (seen : List ℕ) (m : Option (List ℕ)) (fault : RequestFault) (refused : Refused) → refusal_of fault ≡ Some refused → FirstIn side seen m (Err fault)
      → Refuses side may keeps sure s s seen m refused
  refuses s seen m fault refusals.BadRequest is first = record { fault = fault; first = first; refused_is = is; same = refl }
  refuses s seen m fault refusals.NotFound is first = record { fault = fault; first = first; refused_is = is; same = refl }
  refuses s seen m fault refusals.MethodNotAllowed is first = record { fault = fault; first = first; refused_is = is; same = refl }
  refuses s seen m fault refusals.HeadTooLarge is first = record { fault = fault; first = first; refused_is = is; same = refl }
  refuses s seen m fault refusals.ServerError is first = absurd (never fault is)
    where
      never : (fault : RequestFault) → refusal_of fault ≡ Some refusals.ServerError → ⊥
      never faults.ReadFault e = cc e
      never faults.HeadTooLong e = cc e
      never faults.BadHead e = cc e
      never faults.BadMethod e = cc e
      never faults.NoSuchPath e = cc e
      never (faults.BadQuery name) e = cc e
      never faults.NoMemory e = cc e

  refused_end : (s : State) (seen : List ℕ) (m : Option (List ℕ)) (fault : RequestFault) (refused : Refused) (said rest : List ℕ) (end : ServeEnd) → refusal_of fault ≡ Some refused
      → Sees side seen m (Err fault) rest → RefusedAs refused said end → TurnedAs side may keeps sure s s seen m said (Some end) rest
  refused_end s seen m fault refused said rest Closed is sees r = absurd r
  refused_end s seen m fault refused said rest (BadRequest status) is sees r =
      λ count room. ([], (room, (refused, refuses s seen m fault refused is (sees_err side seen m fault refused rest is sees), r.0, r.1)))
  refused_end s seen m fault refused said rest ReadFault is sees r = absurd r
  refused_end s seen m fault refused said rest WriteFault is sees r =
      λ count room. ([], (room, (refusal refused, inl (refused, refuses s seen m fault refused is (sees_err side seen m fault refused rest is sees), refl), r)))
  refused_end s seen m fault refused said rest TooMany is sees r = absurd r
  refused_end s seen m fault refused said rest NoMemory is sees r = absurd r

  silent_turn : (s : State) (seen : List ℕ) (m : Option (List ℕ)) (fault : RequestFault) (said rest : List ℕ) → said ≡ [] → TurnedAs side may keeps sure s s seen m said (Some (silent_end fault)) rest
  silent_turn s seen m faults.ReadFault said rest none = λ count room. ([], (room, none, refl))
  silent_turn s seen m faults.HeadTooLong said rest none = λ count room. ([], (room, none, inl refl))
  silent_turn s seen m faults.BadHead said rest none = λ count room. ([], (room, none, inl refl))
  silent_turn s seen m faults.BadMethod said rest none = λ count room. ([], (room, none, inl refl))
  silent_turn s seen m faults.NoSuchPath said rest none = λ count room. ([], (room, none, inl refl))
  silent_turn s seen m (faults.BadQuery name) said rest none = λ count room. ([], (room, none, inl refl))
  silent_turn s seen m faults.NoMemory said rest none = λ count room. ([], (room, none, inl refl))

  declined : (s : State) (seen : List ℕ) (m : Option (List ℕ)) (fault : RequestFault) (o : Option Refused) (said rest : List ℕ) (end : ServeEnd) → refusal_of fault ≡ o
      → Sees side seen m (Err fault) rest → DeclinedBy o fault said end → TurnedAs side may keeps sure s s seen m said (Some end) rest
  declined s seen m fault None said rest end is sees d = rw d.1 (silent_turn s seen m fault said rest d.0)
  declined s seen m fault (Some refused) said rest end is sees d = refused_end s seen m fault refused said rest end is sees d

  pub declined_turn : (s : State) (fault : RequestFault) (l m n g h i w v u : Option (List ℕ)) (old new : List ℕ) (end : ServeEnd) → Saw side l m g h old (Err fault) new
      → Declining fault v u end → v ≡ w → n ≡ m → i ≡ h → Turned side may keeps sure s s g i l n w u old (Some end) new
  declined_turn s fault l m n g h i w v u old new end saw d kept left_is given_is =
      rw (left_is, given_is) record {
        came = saw.came;
        said = d.said;
        given = saw.given;
        left = saw.left;
        written = subst (λ x. Appends x u d.said) kept d.written;
        as_said = declined s (old ++ saw.came) m fault (refusal_of fault) d.said new end refl saw.sees d.as_said;
      }

-- ---- what was seen by the side of the service

pub saw_found : (sd side : Side) (l m g h : Option (List ℕ)) (old new : List ℕ) (a b : Option Request) → sd ≡ side → a ≡ b → Saw sd l m g h old (Ok a) new → Saw side l m g h old (Ok b) new
saw_found sd side l m g h old new a b is same saw = subst (λ x. Saw x l m g h old (Ok b) new) is (subst (λ x. Saw sd l m g h old (Ok x) new) same saw)

pub saw_fault : (sd side : Side) (l m g h : Option (List ℕ)) (old new : List ℕ) (fault : RequestFault) → sd ≡ side → Saw sd l m g h old (Err fault) new → Saw side l m g h old (Err fault) new
saw_fault sd side l m g h old new fault is saw = subst (λ x. Saw x l m g h old (Err fault) new) is saw

-- ---- the end that a fault of a read makes

never_read : (refused : Refused) (said : List ℕ) (end : ServeEnd) → RefusedAs refused said end → IsReadEnd end → ⊥
never_read refused said Closed r e = e
never_read refused said (BadRequest status) r e = e
never_read refused said ReadFault r e = r
never_read refused said WriteFault r e = e
never_read refused said TooMany r e = e
never_read refused said NoMemory r e = e

pub declined_read : (fault : RequestFault) (old new : Option (List ℕ)) (end : ServeEnd) → Declining fault old new end → IsReadEnd end → IsReadFault fault
declined_read faults.ReadFault old new end d e = tt
declined_read faults.HeadTooLong old new end d e = never_read refusals.HeadTooLarge d.said end d.as_said e
declined_read faults.BadHead old new end d e = never_read refusals.BadRequest d.said end d.as_said e
declined_read faults.BadMethod old new end d e = never_read refusals.MethodNotAllowed d.said end d.as_said e
declined_read faults.NoSuchPath old new end d e = never_read refusals.NotFound d.said end d.as_said e
declined_read (faults.BadQuery name) old new end d e = never_read refusals.BadRequest d.said end d.as_said e
declined_read faults.NoMemory old new end d e = subst IsReadEnd d.as_said.1 e
