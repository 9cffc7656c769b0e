-- How the requests of a connection are answered.
use Rattle.std.specs.Prelude.{◌≡◌, ℕ, ◌+◌, ◌<◌, ◌⊎◌, Bool, true, false, List, [], ◌∷◌, ◌++◌, length, take, Option, Some, None, Result, Ok, Err}
use Rattle.std.specs.Io.KnownBytes.{Consumes, Appends, IsAtEnd}
use Rattle.bus_wire.specs.declared.ask.Ask.{Ask}
use Rattle.bus_http.specs.declared.fault.RequestFault.{RequestFault}
use Rattle.bus_http.specs.declared.fault.RequestFault.TheVariants as faults
use Rattle.bus_http.specs.declared.request.Request.{Request}
use Rattle.bus_http.specs.declared.reply.Refused.{Refused}
use Rattle.bus_http.specs.declared.reply.Refused.TheVariants.{BadRequest as Bad, NotFound, MethodNotAllowed, HeadTooLarge, ServerError}
use Rattle.bus_http.specs.declared.route.Side.{Side}
use Rattle.bus_http.specs.declared.service.ServeEnd.{ServeEnd}
use Rattle.bus_http.specs.declared.service.ServeEnd.TheVariants.{Closed, BadRequest, ReadFault, WriteFault, TooMany, NoMemory}
use Rattle.bus_http.specs.Replies.{reply_head, refusal}
use Rattle.bus_http.specs.Requests.{First, Settled, IsLast}

-- the most answers of one connection
abbrev pub most_answers : ℕ
most_answers = 1000000

-- what is written in answer: a head, and the bytes of the reply
abbrev pub reply_text : List ℕ → List ℕ
reply_text body = reply_head (length body) ++ body

-- how a request is refused that is none; after a fault of the source and want of memory nothing is said
abbrev pub refusal_of : RequestFault → Option Refused
refusal_of faults.ReadFault = None
refusal_of faults.HeadTooLong = Some HeadTooLarge
refusal_of faults.BadHead = Some Bad
refusal_of faults.BadMethod = Some MethodNotAllowed
refusal_of faults.NoSuchPath = Some NotFound
refusal_of (faults.BadQuery name) = Some Bad
refusal_of faults.NoMemory = None

-- the status of a refusal
abbrev pub status_of : Refused → ℕ
status_of Bad = 400
status_of NotFound = 404
status_of MethodNotAllowed = 405
status_of HeadTooLarge = 431
status_of ServerError = 500

-- of a text a front went out that isn't the whole of it
pub record IsFront (said text : List ℕ) : Type 0 where
  pub count : ℕ
  pub less : count < length text
  pub front : said ≡ take count text

-- the first of two, or the second
abbrev pub Where : Bool → Type 0 → Type 0 → Type 0
Where true A B = A
Where false A B = B

-- what was read begins with this answer to a read: whatever follows it, or nothing does
abbrev pub FirstIn : Side → List ℕ → Option (List ℕ) → Result (Option Request) RequestFault → Type 0
FirstIn side got left result = (rest : List ℕ) × (Settled side got result rest ⊎ IsLast got left result rest)

-- one answer: the request, the bytes of the reply, and the state that it leaves
pub record Turn (State : Type 0) : Type 0 where
  pub request : Request
  pub body : List ℕ
  pub state : State

-- A service has the paths of a side, and a state. Its replies may be these, by the states before and after; where it can't reply,
-- it keeps its state so; and one that is sure lacks nothing but memory.
module _ {State : Type 0} (side : Side) (may : State → State → Ask → List ℕ → Type 0) (keeps : State → State → Type 0) (sure : Bool) where
  -- what was read begins with no request
  pub record IsRefused (s t : State) (got : List ℕ) (left : Option (List ℕ)) (refused : Refused) : Type 0 where
    pub fault : RequestFault
    pub first : FirstIn side got left (Err fault)
    pub refused_is : refusal_of fault ≡ Some refused
    pub same : t ≡ s

  -- it begins with a request that the service couldn't reply to
  pub record IsUnanswered (s t : State) (got : List ℕ) : Type 0 where
    pub request : Request
    pub rest : List ℕ
    pub first : First side got (Ok (Some request)) rest
    pub unsure : sure ≡ false
    pub kept : keeps s t

  -- it begins with a request that this is the reply to
  pub record IsAnswered (s t : State) (got body : List ℕ) : Type 0 where
    pub request : Request
    pub rest : List ℕ
    pub first : First side got (Ok (Some request)) rest
    pub reply : may s t request.ask body

  -- why a refusal is due
  abbrev pub Refuses : State → State → List ℕ → Option (List ℕ) → Refused → Type 0
  Refuses s t got left Bad = IsRefused s t got left Bad
  Refuses s t got left NotFound = IsRefused s t got left NotFound
  Refuses s t got left MethodNotAllowed = IsRefused s t got left MethodNotAllowed
  Refuses s t got left HeadTooLarge = IsRefused s t got left HeadTooLarge
  Refuses s t got left ServerError = IsUnanswered s t got

  -- what is due in answer to what was read
  abbrev pub Due : State → State → List ℕ → Option (List ℕ) → List ℕ → Type 0
  Due s t got left text =
      ((refused : Refused) × Refuses s t got left refused × (text ≡ refusal refused))
      ⊎ ((body : List ℕ) × IsAnswered s t got body × (text ≡ reply_text body))

  -- how a connection ends behind so many answers: of what was read behind the requests that were answered, and what was said
  -- behind the answers
  abbrev pub Ends : State → State → ℕ → List ℕ → Option (List ℕ) → List ℕ → ServeEnd → Type 0
  Ends s t count got left said Closed = (count < most_answers) × IsAtEnd left × (got ≡ []) × (said ≡ []) × (t ≡ s)
  Ends s t count got left said (BadRequest status) =
      (count < most_answers) × ((refused : Refused) × Refuses s t got left refused × (said ≡ refusal refused) × (status ≡ status_of refused))
  Ends s t count got left said ReadFault = (count < most_answers) × (said ≡ []) × (t ≡ s)
  Ends s t count got left said WriteFault = (count < most_answers) × ((text : List ℕ) × Due s t got left text × IsFront said text)
  Ends s t count got left said TooMany = (count ≡ most_answers) × (said ≡ []) × (t ≡ s)
  Ends s t count got left said NoMemory = (count < most_answers) × (said ≡ []) × ((t ≡ s) ⊎ keeps s t)

  -- how a connection ends by an answer, where that request asked to close
  pub record IsClosing (s t : State) (said : List ℕ) (end : ServeEnd) (turns : List (Turn State)) : Type 0 where
    pub last : turns ≡ []
    pub silent : said ≡ []
    pub closed : end ≡ Closed
    pub same : t ≡ s

  -- the answers of a connection, one after another, each the reply to the first request of what was read and not answered before
  abbrev pub Talks : State → State → ℕ → List ℕ → Option (List ℕ) → List ℕ → ServeEnd → List (Turn State) → Type 0
  Talks s t count got left said end [] = Ends s t count got left said end
  Talks s t count got left said end (turn ∷ turns) =
      (count < most_answers) × ((rest : List ℕ) × (behind : List ℕ) × First side got (Ok (Some turn.request)) rest
      × may s turn.state turn.request.ask turn.body
      × (said ≡ reply_text turn.body ++ behind)
      × Where turn.request.close (IsClosing turn.state t behind end turns) (Talks turn.state t (count + 1) rest left behind end turns))

  abbrev pub Talked : State → State → ℕ → List ℕ → Option (List ℕ) → List ℕ → ServeEnd → Type 0
  Talked s t count got left said end = (turns : List (Turn State)) × Talks s t count got left said end turns

  -- a connection was served: of the bytes that it gave, and of those that were written to it, this is the talk
  pub record Served
      (s t : State) (given_old given_new left_old left_new written_old written_new : Option (List ℕ)) (end : ServeEnd) : Type 0 where
    pub got : List ℕ
    pub said : List ℕ
    pub given : Appends given_old given_new got
    pub left : Consumes left_old left_new got
    pub written : Appends written_old written_new said
    pub talk : Talked s t 0 got left_new said end

-- the end that a fault of a read makes
abbrev pub IsReadEnd : ServeEnd → Type 0
IsReadEnd Closed = ⊥
IsReadEnd (BadRequest status) = ⊥
IsReadEnd ReadFault = Unit {0}
IsReadEnd WriteFault = ⊥
IsReadEnd TooMany = ⊥
IsReadEnd NoMemory = ⊥

-- the end that a fault of a write makes
abbrev pub IsWriteEnd : ServeEnd → Type 0
IsWriteEnd Closed = ⊥
IsWriteEnd (BadRequest status) = ⊥
IsWriteEnd ReadFault = ⊥
IsWriteEnd WriteFault = Unit {0}
IsWriteEnd TooMany = ⊥
IsWriteEnd NoMemory = ⊥
