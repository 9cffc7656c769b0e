-- The answer that some bytes begin with, by what is held and what comes.
use Rattle.std.proofs.Common.{◌≡◌, ℕ, ◌+◌, ◌<◌, ◌≤◌, inl, inr, min, List, ◌++◌, length, take, drop, Option, Some, None, Result, Ok, Err, sym, ap, subst, ◌∙◌, append_assoc, arith, take_all, length-append, length-take-le}
use Rattle.std.proofs.lemmas.List.{take-append-le, drop-append-le, take_at}
use Rattle.std.proofs.KnownBytes.{Appends-trans, Consumes-trans}
use Rattle.std.specs.Io.KnownBytes.{IsAtEnd}
use Rattle.bus_http.specs.declared.answer.AnswerFault.{AnswerFault}
use Rattle.bus_http.specs.declared.answer.AnswerFault.TheVariants.{ReadFault, BadAnswer, NoMemory}
use Rattle.bus_http.specs.Ending.{head_end, most_head}
use Rattle.bus_http.specs.Inbox.{Draws, HoldsHead, HoldsNone, HoldsPart}
use Rattle.bus_http.specs.Answers.{IsReplyHead, IsAnswer, Gives, Gave}
use Rattle.bus_http.specs.Receiving.{TookBody, SaysSize, TakesAnswer, TookAnswer}
use Rattle.bus_http.proofs.Firsts.{front_of}

min_lt : (a b : ℕ) → min a b < a → min a b ≡ b
min_lt a b lt = omega (arith, lt)

-- the input ended before the end of a body
pub short_body : (l m g h : Option (List ℕ)) (size used count : ℕ) (held rest first room : List ℕ) → used ≡ min size (length held) → take used first ≡ take used held
    → Draws l m g h (take used first) (take count room) → count ≤ length room → length room ≡ size → (count ≡ length room → ⊥) → (count < length room → IsAtEnd m)
    → TookBody l m g h size held (Err BadAnswer) rest room
short_body l m g h size used count held rest first room used_is front d within size_is part end =
    let less : count < size = omega (arith, within, size_is, part) in
    let sizes : length (take count room) ≡ length (take used first ++ d.came) = ap length d.held in
    let low : used ≤ length held = omega (arith, used_is) in
    let front_size : length (take used first) ≡ used = ap length front ∙ length-take-le used held low in
    let whole : count ≡ used + length d.came = omega (arith, sizes, length-take-le count room within, length-append (take used first) d.came, front_size) in
    let all : used ≡ length held = used_is ∙ min_lt size (length held) (omega (arith, used_is, whole, less)) in
    record { came = d.came; left = d.left; given = d.given; takes = (end (omega (arith, less, size_is)), omega (arith, length-append held d.came, whole, all, less)) }

some_same : (o : Option ℕ) (a b : ℕ) → o ≡ Some a → o ≡ Some b → a ≡ b
some_same o a b is same = some_of a b (sym is ∙ same)
  where
    some_of : (a b : ℕ) → Some a ≡ Some b → a ≡ b
    some_of a b e = cc e

-- a head that stands at the front of an answer says the size of its body
says_of : (end : ℕ) (held after body rest : List ℕ) → length held ≤ 16384 → HoldsHead end held → IsAnswer (held ++ after) body rest
    → SaysSize (take end held) (length body) × (drop end held ++ after ≡ body ++ rest)
says_of end held after body rest short head a =
    let same : a.end ≡ end = some_same (head_end (take most_head (held ++ after))) a.end end a.ends (front_of most_head end held after short head.ends) in
    let text : take a.end (held ++ after) ≡ take end held = ap (λ n. take n (held ++ after)) same ∙ take-append-le end held after head.within in
    let behind : drop a.end (held ++ after) ≡ drop end held ++ after = ap (λ n. drop n (held ++ after)) same ∙ drop-append-le end held after head.within in
    (record { head = a.head; is_head = subst (λ (t : List ℕ). IsReplyHead t a.head) text a.is_head; size_is = a.size }, sym behind ∙ a.parts)

answer_of : (end : ℕ) (held after body rest : List ℕ) → length held ≤ 16384 → HoldsHead end held → SaysSize (take end held) (length body) → drop end held ++ after ≡ body ++ rest
    → IsAnswer (held ++ after) body rest
answer_of end held after body rest short head says parts = record {
  end = end;
  ends = front_of most_head end held after short head.ends;
  head = says.head;
  is_head = subst (λ (t : List ℕ). IsReplyHead t says.head) (sym (take-append-le end held after head.within)) says.is_head;
  size = says.size_is;
  parts = drop-append-le end held after head.within ∙ parts;
}

gives_of : (end : ℕ) (held came new body : List ℕ) (n : Option (List ℕ)) (result : Result Unit AnswerFault) → length held ≤ 16384 → HoldsHead end held
    → TakesAnswer (held ++ came) (take end held) (drop end held ++ came) n result new body → Gives (held ++ came) n result new body
gives_of end held came new body n (Ok done) short head t = answer_of end held came body new short head t.0 t.1
gives_of end held came new body n (Err ReadFault) short head t = tt
gives_of end held came new body n (Err BadAnswer) short head t =
    elim t [
      | inl none ↦ inl (λ more other rest a.
          none (length other) (says_of end held (came ++ more) other rest short head (subst (λ (w : List ℕ). IsAnswer w other rest) (append_assoc held came more) a)).0)
      | inr last ↦ inr (
        last.0,
        λ other rest a.
            let says = says_of end held came other rest short head a in
            let less = last.1 (length other) says.0 in
            absurd (omega (arith, less, ap length says.1, length-append other rest)),
      )
    ]
gives_of end held came new body n (Err NoMemory) short head t = t

pub gave_whole : (end : ℕ) (l m n g h i : Option (List ℕ)) (old held new body : List ℕ) (result : Result Unit AnswerFault) → length held ≤ 16384 → HoldsHead end held → Draws l m g h old held
    → TookAnswer m n h i end held result new body → Gave l n g i old result new body
gave_whole end l m n g h i old held new body result short head d t = record {
  came = d.came ++ t.came;
  left = Consumes-trans l m n d.came t.came d.left t.left;
  given = Appends-trans g h i d.came t.came d.given t.given;
  gives =
      let whole : held ++ t.came ≡ old ++ (d.came ++ t.came) = ap (λ (x : List ℕ). x ++ t.came) d.held ∙ append_assoc old d.came t.came in
      subst (λ (w : List ℕ). Gives w n result new body) whole (gives_of end held t.came new body n result short head t.takes);
}

no_end : (o : Option ℕ) (end : ℕ) → o ≡ None → o ≡ Some end → ⊥
no_end o end none some = never (sym none ∙ some)
  where
    never : None ≡ Some end → ⊥
    never e = cc e

-- the first bytes hold no end of a head
pub gave_long : (l m g h : Option (List ℕ)) (old held body : List ℕ) → HoldsNone held → Draws l m g h old held → Gave l m g h old (Err BadAnswer) held body
gave_long l m g h old held body none d = record {
  came = d.came;
  left = d.left;
  given = d.given;
  gives = subst (λ (w : List ℕ). Gives w m (Err BadAnswer) held body) d.held
      (inl (λ more other rest a. no_end (head_end (take most_head (held ++ more))) a.end (ap head_end (take_at held more most_head none.full) ∙ none.none) a.ends));
}

-- the input ended within a head
pub gave_part : (l m g h : Option (List ℕ)) (old held body : List ℕ) → HoldsPart held m → Draws l m g h old held → Gave l m g h old (Err BadAnswer) held body
gave_part l m g h old held body part d = record {
  came = d.came;
  left = d.left;
  given = d.given;
  gives = subst (λ (w : List ℕ). Gives w m (Err BadAnswer) held body) d.held
      (inr (part.ended, λ other rest a. no_end (head_end (take most_head held)) a.end (ap head_end (take_all most_head held (omega (arith, part.short))) ∙ part.none) a.ends));
}
