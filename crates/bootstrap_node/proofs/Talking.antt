-- A talk with a service whose replies may be these is one with a service whose replies may be others.
use Rattle.std.proofs.Common.{ℕ, ◌+◌, Bool, true, false, List, [], ◌∷◌, Option, inl, inr}
use Rattle.bus_wire.specs.declared.ask.Ask.{Ask}
use Rattle.bus_http.specs.declared.reply.Refused.{Refused}
use Rattle.bus_http.specs.declared.reply.Refused.TheVariants.{BadRequest as Bad, NotFound, MethodNotAllowed, HeadTooLarge, ServerError}
use Rattle.bus_http.specs.declared.route.Side.{Side}
use Rattle.bus_http.specs.declared.service.ServeEnd.{ServeEnd}
use Rattle.bus_http.specs.declared.service.ServeEnd.TheVariants.{Closed, BadRequest, ReadFault, WriteFault, TooMany, NoMemory}
use Rattle.bus_http.specs.Talks.{Where, Turn, IsRefused, Refuses, Due, Ends, IsClosing, Talks, Served}

module _ {S : Type 0} (side : Side) (may may' : S → S → Ask → List ℕ → Type 0) (keeps : S → S → Type 0) (sure : Bool)
    (weaker : (s t : S) (ask : Ask) (body : List ℕ) → may s t ask body → may' s t ask body) where
  is_refused : (s t : S) (got : List ℕ) (left : Option (List ℕ)) (r : Refused) → IsRefused side may keeps sure s t got left r → IsRefused side may' keeps sure s t got left r
  is_refused s t got left r h = record { fault = h.fault; first = h.first; refused_is = h.refused_is; same = h.same }

  refuses : (s t : S) (got : List ℕ) (left : Option (List ℕ)) (r : Refused) → Refuses side may keeps sure s t got left r → Refuses side may' keeps sure s t got left r
  refuses s t got left Bad h = is_refused s t got left Bad h
  refuses s t got left NotFound h = is_refused s t got left NotFound h
  refuses s t got left MethodNotAllowed h = is_refused s t got left MethodNotAllowed h
  refuses s t got left HeadTooLarge h = is_refused s t got left HeadTooLarge h
  refuses s t got left ServerError h = record { request = h.request; rest = h.rest; first = h.first; unsure = h.unsure; kept = h.kept }

  due : (s t : S) (got : List ℕ) (left : Option (List ℕ)) (text : List ℕ) → Due side may keeps sure s t got left text → Due side may' keeps sure s t got left text
  due s t got left text (inl h) = inl (h.0, refuses s t got left h.0 h.1, h.2)
  due s t got left text (inr h) = inr (h.0, record { request = h.1.request; rest = h.1.rest; first = h.1.first; reply = weaker s t h.1.request.ask h.0 h.1.reply }, h.2)

  ends : (s t : S) (count : ℕ) (got : List ℕ) (left : Option (List ℕ)) (said : List ℕ) (end : ServeEnd) → Ends side may keeps sure s t count got left said end → Ends side may' keeps sure s t count got left said end
  ends s t count got left said Closed h = h
  ends s t count got left said (BadRequest status) h = (h.0, (h.1.0, refuses s t got left h.1.0 h.1.1, h.1.2, h.1.3))
  ends s t count got left said ReadFault h = h
  ends s t count got left said WriteFault h = (h.0, (h.1.0, due s t got left h.1.0 h.1.1, h.1.2))
  ends s t count got left said TooMany h = h
  ends s t count got left said NoMemory h = h

  closing : (s t : S) (said : List ℕ) (end : ServeEnd) (turns : List (Turn S)) → IsClosing side may keeps sure s t said end turns → IsClosing side may' keeps sure s t said end turns
  closing s t said end turns h = record { last = h.last; silent = h.silent; closed = h.closed; same = h.same }

  either : (b : Bool) (A A' B B' : Type 0) → (A → A') → (B → B') → Where b A B → Where b A' B'
  either true A A' B B' f g h = f h
  either false A A' B B' f g h = g h

  talks : (s t : S) (count : ℕ) (got : List ℕ) (left : Option (List ℕ)) (said : List ℕ) (end : ServeEnd) (turns : List (Turn S)) → Talks side may keeps sure s t count got left said end turns → Talks side may' keeps sure s t count got left said end turns
  talks s t count got left said end [] h = ends s t count got left said end h
  talks s t count got left said end (turn ∷ turns) h = (
    h.0,
    (
      h.1.0,
      h.1.1,
      h.1.2,
      weaker s turn.state turn.request.ask turn.body h.1.3,
      h.1.4,
      either turn.request.close _ _ _ _ (closing turn.state t h.1.1 end turns) (talks turn.state t (count + 1) h.1.0 left h.1.1 end turns) h.1.5,
    ),
  )

  pub served_by : (s t : S) (given given' left left' written written' : Option (List ℕ)) (end : ServeEnd) → Served side may keeps sure s t given given' left left' written written' end
      → Served side may' keeps sure s t given given' left left' written written' end
  served_by s t given given' left left' written written' end h = record {
    got = h.got;
    said = h.said;
    given = h.given;
    left = h.left;
    written = h.written;
    talk = (h.talk.0, talks s t 0 h.got left' h.said end h.talk.0 h.talk.1);
  }
