-- One request of a connection and its answer, as calls tell it.
use Rattle.std.specs.Prelude.{◌≡◌, ℕ, ◌<◌, ◌⊎◌, Bool, true, false, List, [], ◌++◌, Option, Some, None, Ok}
use Rattle.std.specs.Io.KnownBytes.{Consumes, Appends}
use Rattle.bus_wire.specs.declared.ask.Ask.{Ask}
use Rattle.bus_http.specs.declared.fault.RequestFault.{RequestFault}
use Rattle.bus_http.specs.declared.fault.RequestFault.TheVariants as faults
use Rattle.bus_http.specs.declared.request.Request.{Request}
use Rattle.bus_http.specs.declared.reply.Refused.{Refused}
use Rattle.bus_http.specs.declared.reply.Refused.TheVariants.{ServerError}
use Rattle.bus_http.specs.declared.route.Side.{Side}
use Rattle.bus_http.specs.declared.service.ServeEnd.{ServeEnd}
use Rattle.bus_http.specs.declared.service.ServeEnd.TheVariants.{Closed, BadRequest, ReadFault, WriteFault, TooMany, NoMemory}
use Rattle.bus_http.specs.Replies.{refusal}
use Rattle.bus_http.specs.Requests.{Settled}
use Rattle.bus_http.specs.Talks.{most_answers, reply_text, refusal_of, status_of, IsFront, Talked}

-- a refusal was said, or a front of it
abbrev pub RefusedAs : Refused → List ℕ → ServeEnd → Type 0
RefusedAs refused said Closed = ⊥
RefusedAs refused said (BadRequest status) = (said ≡ refusal refused) × (status ≡ status_of refused)
RefusedAs refused said ReadFault = ⊥
RefusedAs refused said WriteFault = IsFront said (refusal refused)
RefusedAs refused said TooMany = ⊥
RefusedAs refused said NoMemory = ⊥

pub record Refusing (refused : Refused) (old new : Option (List ℕ)) (end : ServeEnd) : Type 0 where
  pub said : List ℕ
  pub written : Appends old new said
  pub as_said : RefusedAs refused said end

-- the end where nothing is said
abbrev pub silent_end : RequestFault → ServeEnd
silent_end faults.ReadFault = ReadFault
silent_end faults.HeadTooLong = NoMemory
silent_end faults.BadHead = NoMemory
silent_end faults.BadMethod = NoMemory
silent_end faults.NoSuchPath = NoMemory
silent_end (faults.BadQuery name) = NoMemory
silent_end faults.NoMemory = NoMemory

-- what is read in place of a request was answered
abbrev pub DeclinedBy : Option Refused → RequestFault → List ℕ → ServeEnd → Type 0
DeclinedBy (Some refused) fault said end = RefusedAs refused said end
DeclinedBy None fault said end = (said ≡ []) × (end ≡ silent_end fault)

pub record Declining (fault : RequestFault) (old new : Option (List ℕ)) (end : ServeEnd) : Type 0 where
  pub said : List ℕ
  pub written : Appends old new said
  pub as_said : DeclinedBy (refusal_of fault) fault said end

-- a reply was said, or a front of it, to a request that asked to close or not
abbrev pub AnsweredAs : Bool → List ℕ → List ℕ → Option ServeEnd → Type 0
AnsweredAs close body said None = (close ≡ false) × (said ≡ reply_text body)
AnsweredAs close body said (Some Closed) = (close ≡ true) × (said ≡ reply_text body)
AnsweredAs close body said (Some (BadRequest status)) = ⊥
AnsweredAs close body said (Some ReadFault) = ⊥
AnsweredAs close body said (Some WriteFault) = IsFront said (reply_text body)
AnsweredAs close body said (Some TooMany) = ⊥
AnsweredAs close body said (Some NoMemory) = ⊥

pub record Answering (close : Bool) (body : List ℕ) (old new : Option (List ℕ)) (result : Option ServeEnd) : Type 0 where
  pub said : List ℕ
  pub written : Appends old new said
  pub as_said : AnsweredAs close body said result

module _ {State : Type 0} (side : Side) (may : State → State → Ask → List ℕ → Type 0) (keeps : State → State → Type 0) (sure : Bool) where
  -- a request was answered, and whether the connection ends with that
  abbrev pub RespondedAs : State → State → Request → List ℕ → Option ServeEnd → Type 0
  RespondedAs s t request said None = (request.close ≡ false) × ((body : List ℕ) × may s t request.ask body × (said ≡ reply_text body))
  RespondedAs s t request said (Some Closed) = (request.close ≡ true) × ((body : List ℕ) × may s t request.ask body × (said ≡ reply_text body))
  RespondedAs s t request said (Some (BadRequest status)) = (sure ≡ false) × keeps s t × RefusedAs ServerError said (BadRequest status)
  RespondedAs s t request said (Some ReadFault) = ⊥
  RespondedAs s t request said (Some WriteFault) =
      ((sure ≡ false) × keeps s t × IsFront said (refusal ServerError))
      ⊎ ((body : List ℕ) × may s t request.ask body × IsFront said (reply_text body))
  RespondedAs s t request said (Some TooMany) = ⊥
  RespondedAs s t request said (Some NoMemory) = keeps s t × (said ≡ [])

  pub record Responding (s t : State) (request : Request) (old new : Option (List ℕ)) (result : Option ServeEnd) : Type 0 where
    pub said : List ℕ
    pub written : Appends old new said
    pub as_said : RespondedAs s t request said result

  -- a request was answered, and more are read
  pub record GoesOn (s t : State) (seen said rest : List ℕ) : Type 0 where
    pub request : Request
    pub body : List ℕ
    pub settled : Settled side seen (Ok (Some request)) rest
    pub stays : request.close ≡ false
    pub reply : may s t request.ask body
    pub said_is : said ≡ reply_text body

  abbrev pub TurnedAs : State → State → List ℕ → Option (List ℕ) → List ℕ → Option ServeEnd → List ℕ → Type 0
  TurnedAs s t seen left said None rest = GoesOn s t seen said rest
  TurnedAs s t seen left said (Some end) rest = (count : ℕ) → count < most_answers → Talked side may keeps sure s t count seen left said end

  -- what comes of one request, of the bytes that were held and those that came
  pub record Turned
      (s t : State) (given_old given_new left_old left_new written_old written_new : Option (List ℕ))
      (old : List ℕ) (result : Option ServeEnd) (new : List ℕ) : Type 0 where
    pub came : List ℕ
    pub said : List ℕ
    pub given : Appends given_old given_new came
    pub left : Consumes left_old left_new came
    pub written : Appends written_old written_new said
    pub as_said : TurnedAs s t (old ++ came) left_new said result new
