-- What a connection gave.
use Rattle.std.proofs.Common.{◌≡◌, ℕ, ◌≤◌, ◌==◌, Bool, true, false, if◌then◌else◌, List, [], Option, Some, None, Ok, Err, subst, arith, length}
use Rattle.std.proofs.lemmas.Option.{option_and_then_some}
use Rattle.bus_types.proofs.Numbers.{number_taken}
use Rattle.bus_http.specs.Answers.{first_length, alone, length_in, size_in, Gave}
use Rattle.bus_http.specs.declared.answer.AnswerFault.{AnswerFault}
use Rattle.bus_http.specs.declared.answer.AnswerFault.TheVariants.{BadAnswer}
use Rattle.bus_node.specs.Exchange.{Gives, GivesNone}

small_length : (hs : List (List ℕ × List ℕ)) (n : ℕ) → length_in hs ≡ Some n → n ≤ 16777216
unfolding length_in
small_length hs n e =
    option_and_then_some _ (first_length hs) n e (λ found is rest.
    option_and_then_some _ (alone (first_length found.1) found.0) n rest (λ text a more. (number_taken 16777216 n text (omega arith) more).1))

small_size : (code : ℕ) (hs : List (List ℕ × List ℕ)) (n : ℕ) → size_in code hs ≡ Some n → n ≤ 16777216
unfolding size_in
small_size code hs n e = first (code == 200) e
  where
    first : (t : Bool) → (if t then length_in hs else None) ≡ Some n → n ≤ 16777216
    first true e = small_length hs n e
    first false e = absurd (cc e)

-- a whole answer
pub gives_answer : (left_old left_new given_old given_new : Option (List ℕ)) (held new body : List ℕ) (done : Unit {0}) → held ≡ []
    → Gave left_old left_new given_old given_new held (Ok done) new body → Gives given_old given_new body
gives_answer left_old left_new given_old given_new held new body done none gave =
    let first = subst (λ h. Gave left_old left_new given_old given_new h (Ok done) new body) none gave in
    record { came = first.came; given = first.given; rest = new; answer = first.gives }

pub small_answer : (left_old left_new given_old given_new : Option (List ℕ)) (held new body : List ℕ) (done : Unit {0})
    → Gave left_old left_new given_old given_new held (Ok done) new body → length body ≤ 16777216
small_answer left_old left_new given_old given_new held new body done gave = small_size _ _ (length body) gave.gives.size

-- none
pub gives_none : (left_old left_new given_old given_new : Option (List ℕ)) (held new body : List ℕ) (fault : AnswerFault) → held ≡ [] → fault ≡ BadAnswer
    → Gave left_old left_new given_old given_new held (Err fault) new body → GivesNone given_old given_new left_new
gives_none left_old left_new given_old given_new held new body fault none bad gave =
    let first = subst (λ h. Gave left_old left_new given_old given_new h (Err BadAnswer) new body) none
    (subst (λ f. Gave left_old left_new given_old given_new held (Err f) new body) bad gave) in
    record { came = first.came; given = first.given; none = first.gives }
