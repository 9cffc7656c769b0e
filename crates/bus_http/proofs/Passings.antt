-- What holds of the states before and after each answer holds of those before and after a talk.
use Rattle.std.proofs.Common.{◌≡◌, ℕ, ◌+◌, ◌⊎◌, inl, inr, Bool, true, false, List, [], ◌∷◌, Option, sym, subst}
use Rattle.bus_wire.specs.declared.ask.Ask.{Ask}
use Rattle.bus_http.specs.declared.route.Side.{Side}
use Rattle.bus_http.specs.declared.reply.Refused.{Refused}
use Rattle.bus_http.specs.declared.reply.Refused.TheVariants.{BadRequest as Bad, NotFound, MethodNotAllowed, HeadTooLarge, ServerError}
use Rattle.bus_http.specs.declared.service.ServeEnd.{ServeEnd}
use Rattle.bus_http.specs.declared.service.ServeEnd.TheVariants.{Closed, BadRequest, ReadFault, WriteFault, TooMany, NoMemory}
use Rattle.bus_http.specs.Talks.{Refuses, Due, Ends, IsClosing, Where, Turn, Talks, Served}

-- a relation between states that each reply keeps to, from each state to itself and through others
pub record Passes {State : Type 0} (may : State → State → Ask → List ℕ → Type 0) (keeps : State → State → Type 0) (R : State → State → Type 0) : Type 0 where
  pub stays : (s : State) → R s s
  pub through : (s t u : State) → R s t → R t u → R s u
  pub replied : (s t : State) (ask : Ask) (body : List ℕ) → may s t ask body → R s t
  pub kept : (s t : State) → keeps s t → R s t

module _ {State : Type 0} (side : Side) (may : State → State → Ask → List ℕ → Type 0) (keeps : State → State → Type 0) (sure : Bool) (R : State → State → Type 0) (p : Passes may keeps R) where
  same : (s t : State) → t ≡ s → R s t
  same s t is = subst (λ (x : State). R s x) (sym is) (p.stays s)

  refuses : (s t : State) (got : List ℕ) (left : Option (List ℕ)) (refused : Refused) → Refuses side may keeps sure s t got left refused → R s t
  refuses s t got left Bad r = same s t r.same
  refuses s t got left NotFound r = same s t r.same
  refuses s t got left MethodNotAllowed r = same s t r.same
  refuses s t got left HeadTooLarge r = same s t r.same
  refuses s t got left ServerError r = p.kept s t r.kept

  due : (s t : State) (got : List ℕ) (left : Option (List ℕ)) (text : List ℕ) → Due side may keeps sure s t got left text → R s t
  due s t got left text (inl r) = refuses s t got left r.0 r.1
  due s t got left text (inr b) = p.replied s t b.1.request.ask b.0 b.1.reply

  either : (s t : State) → (t ≡ s) ⊎ keeps s t → R s t
  either s t (inl is) = same s t is
  either s t (inr k) = p.kept s t k

  ends : (s t : State) (count : ℕ) (got : List ℕ) (left : Option (List ℕ)) (said : List ℕ) (end : ServeEnd) → Ends side may keeps sure s t count got left said end → R s t
  ends s t count got left said Closed h = same s t h.4
  ends s t count got left said (BadRequest status) h = refuses s t got left h.1.0 h.1.1
  ends s t count got left said ReadFault h = same s t h.2
  ends s t count got left said WriteFault h = due s t got left h.1.0 h.1.1
  ends s t count got left said TooMany h = same s t h.2
  ends s t count got left said NoMemory h = either s t h.2

  by_close : (close : Bool) (s t : State) (A B : Type 0) → (A → R s t) → (B → R s t) → Where close A B → R s t
  by_close true s t A B a b w = a w
  by_close false s t A B a b w = b w

  talks : (s t : State) (count : ℕ) (got : List ℕ) (left : Option (List ℕ)) (said : List ℕ) (end : ServeEnd) (turns : List (Turn State)) → Talks side may keeps sure s t count got left said end turns → R s t
  talks s t count got left said end [] h = ends s t count got left said end h
  talks s t count got left said end (turn ∷ turns) h =
      p.through s turn.state t (p.replied s turn.state turn.request.ask turn.body h.1.3)
      (by_close turn.request.close turn.state t (IsClosing side may keeps sure turn.state t h.1.1 end turns) (Talks side may keeps sure turn.state t (count + 1) h.1.0 left h.1.1 end turns) (λ c. same turn.state t c.same)
      (λ w. talks turn.state t (count + 1) h.1.0 left h.1.1 end turns w) h.1.5)

  pub served : (s t : State) (g h l m w v : Option (List ℕ)) (end : ServeEnd) → Served side may keeps sure s t g h l m w v end → R s t
  served s t g h l m w v end talk = talks s t 0 talk.got m talk.said end talk.talk.0 talk.talk.1
