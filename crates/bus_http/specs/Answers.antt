-- The answer that some bytes begin with.
use Rattle.std.specs.Prelude.{◌≡◌, ℕ, ◌≤◌, ◌⊎◌, ◌==◌, Bool, if◌then◌else◌, List, [], ◌∷◌, ◌++◌, length, take, drop, map, codes, Option, Some, None, Result, Ok, Err}
use Rattle.std.specs.Io.KnownBytes.{Consumes, Appends, IsAtEnd}
use Rattle.httparse.specs.Grammar.{ResponseHead, ReadsResponse, status_code}
use Rattle.httparse.specs.Spans.{name_and_value}
use Rattle.bus_types.specs.Text.{◌>>=◌, number_of}
use Rattle.bus_http.specs.declared.answer.AnswerFault.{AnswerFault}
use Rattle.bus_http.specs.declared.answer.AnswerFault.TheVariants.{ReadFault, BadAnswer, NoMemory}
use Rattle.bus_http.specs.Ending.{most_head, head_end}
use Rattle.bus_http.specs.Head.{is_word}

-- the most bytes of a reply
abbrev pub most_body : ℕ
most_body = 16777216

-- a header that says how long the body is
abbrev pub says_length : List ℕ × List ℕ → Bool
says_length header = is_word header.0 (codes "content-length")

-- the value of the first such header, and the headers behind it
abbrev pub first_length : List (List ℕ × List ℕ) → Option (List ℕ × List (List ℕ × List ℕ))
first_length [] = None
first_length (header ∷ headers) = if says_length header then Some (header.1, headers) else first_length headers

-- a text, unless something is there
abbrev pub alone : {A : Type 0} → Option A → List ℕ → Option (List ℕ)
alone None text = Some text
alone (Some a) text = None

-- the length that the one such header says
unfoldable pub length_in : List (List ℕ × List ℕ) → Option ℕ
length_in headers = do
  found ← first_length headers
  text ← alone (first_length found.1) found.0
  number_of most_body text

-- the length of the body by the status and the headers of an answer
unfoldable pub size_in : ℕ → List (List ℕ × List ℕ) → Option ℕ
size_in code headers = if code == 200 then length_in headers else None

-- the length of the body behind a head, where that is good
abbrev pub body_size : ResponseHead → Option ℕ
body_size h = size_in (status_code h) (map name_and_value h.fields)

-- the whole text is one head of an answer by HTTP's grammar, of at most 64 header lines
pub record IsReplyHead (text : List ℕ) (h : ResponseHead) : Type 0 where
  pub reads : ReadsResponse text h []
  pub lines : length h.fields ≤ 64

-- bytes begin with an answer: a head, which ends in the first bytes, as many as a head has at most, and the body, as long as it says
pub record IsAnswer (whole body rest : List ℕ) : Type 0 where
  pub end : ℕ
  pub ends : head_end (take most_head whole) ≡ Some end
  pub head : ResponseHead
  pub is_head : IsReplyHead (take end whole) head
  pub size : body_size head ≡ Some (length body)
  pub parts : drop end whole ≡ body ++ rest

-- bytes begin with no answer
abbrev pub HasNoAnswer : List ℕ → Type 0
HasNoAnswer whole = (body rest : List ℕ) → IsAnswer whole body rest → ⊥

-- what a call answered of the bytes that it saw, what it left of them, and what the body is then
abbrev pub Gives : List ℕ → Option (List ℕ) → Result Unit AnswerFault → List ℕ → List ℕ → Type 0
Gives seen left (Ok done) rest body = IsAnswer seen body rest
Gives seen left (Err ReadFault) rest body = Unit {0}
Gives seen left (Err BadAnswer) rest body = ((more : List ℕ) → HasNoAnswer (seen ++ more)) ⊎ (IsAtEnd left × HasNoAnswer seen)
Gives seen left (Err NoMemory) rest body = rest ≡ seen

-- what a call answered of the bytes that were held and those that came
pub record Gave
    (left_old left_new given_old given_new : Option (List ℕ)) (old : List ℕ) (result : Result Unit AnswerFault) (new body : List ℕ) : Type 0 where
  pub came : List ℕ
  pub left : Consumes left_old left_new came
  pub given : Appends given_old given_new came
  pub gives : Gives (old ++ came) left_new result new body

-- the fault of a source
abbrev pub IsSourceFault : AnswerFault → Type 0
IsSourceFault ReadFault = Unit {0}
IsSourceFault BadAnswer = ⊥
IsSourceFault NoMemory = ⊥
