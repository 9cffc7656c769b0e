-- The first request of some bytes.
use Rattle.std.specs.Prelude.{◌≡◌, ℕ, ◌<◌, ◌≤◌, ◌⊎◌, ◌==◌, nat_lt, if◌then◌else◌, List, ◌++◌, length, take, drop, Option, Some, None, Result, Ok, Err}
use Rattle.std.specs.Io.KnownBytes.{Consumes, Appends, IsAtEnd}
use Rattle.bus_http.specs.declared.fault.RequestFault.{RequestFault}
use Rattle.bus_http.specs.declared.fault.RequestFault.TheVariants.{ReadFault, HeadTooLong, BadHead, BadMethod, NoSuchPath, BadQuery, NoMemory}
use Rattle.bus_http.specs.declared.coming.Coming.{Coming}
use Rattle.bus_http.specs.declared.coming.Coming.TheVariants as comings
use Rattle.bus_http.specs.declared.request.Request.{Request}
use Rattle.bus_http.specs.declared.route.Side.{Side}
use Rattle.bus_http.specs.Ending.{most_head, head_end}
use Rattle.bus_http.specs.Head.{Means}

-- what bytes are that hold no end of a head: no request where there are none, too long a head where there are as many as a head
-- has at most, and else a head that the end of the input cut
abbrev pub unended : ℕ → Result (Option Request) RequestFault
unended size = if size == 0 then Ok None else if nat_lt size most_head then Err BadHead else Err HeadTooLong

-- a request, or why it is none
abbrev pub some_request : Result Request RequestFault → Result (Option Request) RequestFault
some_request (Ok request) = Ok (Some request)
some_request (Err fault) = Err fault

-- what a call answers: a request, none at the end of the input, or why it is refused
abbrev pub Found : Type 0
Found = Result (Option Request) RequestFault

-- the answer is what the head of so many bytes means, and the bytes behind it are the rest
pub record FirstAs (side : Side) (end : ℕ) (whole : List ℕ) (result : Found) (rest : List ℕ) : Type 0 where
  pub answer : Result Request RequestFault
  pub means : Means side (take end whole) answer
  pub result_is : result ≡ some_request answer
  pub rest_is : rest ≡ drop end whole

-- the bytes hold no end of a head
pub record NoFirst (whole : List ℕ) (result : Found) (rest : List ℕ) : Type 0 where
  pub result_is : result ≡ unended (length whole)
  pub rest_is : rest ≡ whole

abbrev pub FirstAt : Side → Option ℕ → List ℕ → Found → List ℕ → Type 0
FirstAt side (Some end) whole result rest = FirstAs side end whole result rest
FirstAt side None whole result rest = NoFirst whole result rest

-- the first request of some bytes, and the bytes behind it: its head ends in the first bytes, as many as a head has at most
abbrev pub First : Side → List ℕ → Found → List ℕ → Type 0
First side whole result rest = FirstAt side (head_end (take most_head whole)) whole result rest

-- the source failed, or memory ran out, and all bytes stand
pub record Untaken (whole : List ℕ) (result : Found) (rest : List ℕ) : Type 0 where
  pub fault : (result ≡ Err ReadFault) ⊎ (result ≡ Err NoMemory)
  pub rest_is : rest ≡ whole

-- what a call answered of some bytes, and those that it left
abbrev pub Reads : Side → List ℕ → Found → List ℕ → Type 0
Reads side whole result rest = First side whole result rest ⊎ Untaken whole result rest

-- ---- as the bytes come

-- the answer is the first request of the bytes that were seen, whatever follows them
abbrev pub Settled : Side → List ℕ → Found → List ℕ → Type 0
Settled side seen result rest = (more : List ℕ) → First side (seen ++ more) result (rest ++ more)

-- nothing follows the bytes that were seen, which hold no end of a head
pub record IsLast (seen : List ℕ) (left : Option (List ℕ)) (result : Found) (rest : List ℕ) : Type 0 where
  pub ended : IsAtEnd left
  pub none : head_end (take most_head seen) ≡ None
  pub answer : NoFirst seen result rest

-- what a call answered of the bytes that it saw, and those of them that it left
abbrev pub Sees : Side → List ℕ → Option (List ℕ) → Found → List ℕ → Type 0
Sees side seen left result rest = Settled side seen result rest ⊎ (IsLast seen left result rest ⊎ Untaken seen result rest)

-- what a call answered of the bytes that were held and those that came, and which of them are held then
pub record Saw
    (side : Side) (left_old left_new given_old given_new : Option (List ℕ)) (old : List ℕ) (result : Found) (new : List ℕ) : Type 0 where
  pub came : List ℕ
  pub left : Consumes left_old left_new came
  pub given : Appends given_old given_new came
  pub sees : Sees side (old ++ came) left_new result new

-- what is said of the bytes that a source had left and has left, where it tells them
abbrev pub WhereTold : Option (List ℕ) → Option (List ℕ) → (List ℕ → List ℕ → Type 0) → Type 0
WhereTold None new P = Unit {0}
WhereTold (Some before) None P = ⊥
WhereTold (Some before) (Some after) P = P before after

-- the fault of a source
abbrev pub IsReadFault : RequestFault → Type 0
IsReadFault ReadFault = Unit {0}
IsReadFault HeadTooLong = ⊥
IsReadFault BadHead = ⊥
IsReadFault BadMethod = ⊥
IsReadFault NoSuchPath = ⊥
IsReadFault (BadQuery name) = ⊥
IsReadFault NoMemory = ⊥

-- ---- calls

-- what was answered of what is held, where its head has so many bytes
abbrev pub Takes : Side → ℕ → List ℕ → Found → List ℕ → Type 0
Takes side end held result rest = FirstAs side end held result rest ⊎ Untaken held result rest

-- what came of a head fits into what is held
abbrev pub IsWithin : Coming → ℕ → Type 0
IsWithin (comings.Whole end) size = end ≤ size
IsWithin comings.TooLong size = Unit {0}
IsWithin comings.Ended size = size < most_head

-- what came of a head was answered, of what is held, and what is held then
abbrev pub AnswersComing : Side → Coming → List ℕ → Found → List ℕ → Type 0
AnswersComing side (comings.Whole end) held result rest = Takes side end held result rest
AnswersComing side comings.TooLong held result rest = (result ≡ Err HeadTooLong) × (rest ≡ held)
AnswersComing side comings.Ended held result rest = (result ≡ unended (length held)) × (rest ≡ held)
