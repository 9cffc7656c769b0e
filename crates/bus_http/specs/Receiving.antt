-- The body of an answer as it comes.
use Rattle.std.specs.Prelude.{◌≡◌, ℕ, ◌<◌, ◌⊎◌, List, ◌++◌, length, take, drop, Option, Some, Result, Ok, Err}
use Rattle.std.specs.Io.KnownBytes.{Consumes, Appends, IsAtEnd}
use Rattle.httparse.specs.Grammar.{ResponseHead}
use Rattle.bus_http.specs.declared.answer.AnswerFault.{AnswerFault}
use Rattle.bus_http.specs.declared.answer.AnswerFault.TheVariants.{ReadFault, BadAnswer, NoMemory}
use Rattle.bus_http.specs.Answers.{body_size, IsReplyHead}

-- what a call that takes a body of so many bytes answered, of the bytes that were held and those that came
abbrev pub TakesBody : ℕ → List ℕ → Option (List ℕ) → Result Unit AnswerFault → List ℕ → List ℕ → Type 0
TakesBody size seen left (Ok done) rest body = seen ≡ body ++ rest
TakesBody size seen left (Err ReadFault) rest body = Unit {0}
TakesBody size seen left (Err BadAnswer) rest body = IsAtEnd left × (length seen < size)
TakesBody size seen left (Err NoMemory) rest body = ⊥

pub record TookBody
    (left_old left_new given_old given_new : Option (List ℕ)) (size : ℕ)
    (old : List ℕ) (result : Result Unit AnswerFault) (new body : List ℕ) : Type 0 where
  pub came : List ℕ
  pub left : Consumes left_old left_new came
  pub given : Appends given_old given_new came
  pub takes : TakesBody size (old ++ came) left_new result new body

-- the text is a head by which a body of so many bytes follows
pub record SaysSize (text : List ℕ) (size : ℕ) : Type 0 where
  pub head : ResponseHead
  pub is_head : IsReplyHead text head
  pub size_is : body_size head ≡ Some size

-- no head that the text is says how many bytes follow, or fewer follow than each says
abbrev pub SaysNone : List ℕ → Type 0
SaysNone text = (size : ℕ) → SaysSize text size → ⊥

abbrev pub SaysMore : List ℕ → ℕ → Type 0
SaysMore text count = (size : ℕ) → SaysSize text size → count < size

-- what a call that takes an answer answered, where its head has so many bytes, of the bytes behind that
abbrev pub TakesAnswer : List ℕ → List ℕ → List ℕ → Option (List ℕ) → Result Unit AnswerFault → List ℕ → List ℕ → Type 0
TakesAnswer old text seen left (Ok done) rest body = SaysSize text (length body) × (seen ≡ body ++ rest)
TakesAnswer old text seen left (Err ReadFault) rest body = Unit {0}
TakesAnswer old text seen left (Err BadAnswer) rest body = SaysNone text ⊎ (IsAtEnd left × SaysMore text (length seen))
TakesAnswer old text seen left (Err NoMemory) rest body = rest ≡ old

pub record TookAnswer
    (left_old left_new given_old given_new : Option (List ℕ)) (end : ℕ)
    (old : List ℕ) (result : Result Unit AnswerFault) (new body : List ℕ) : Type 0 where
  pub came : List ℕ
  pub left : Consumes left_old left_new came
  pub given : Appends given_old given_new came
  pub takes : TakesAnswer (old ++ came) (take end old) (drop end old ++ came) left_new result new body
