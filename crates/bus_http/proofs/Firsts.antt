-- The first request, by what is held and what the source has left.
use Rattle.std.proofs.Common.{◌≡◌, ℕ, ◌+◌, ◌-◌, ◌≤◌, inl, inr, List, ◌++◌, length, take, drop, Option, Some, None, Ok, Err, refl, sym, ap, subst, ◌∙◌, append_assoc, append-nil, arith, take_all, length-append}
use Rattle.std.proofs.Common.{◌==◌, nat_lt, false, IfSome}
use Rattle.std.proofs.lemmas.List.{take-append-le, drop-append-le, take_at}
use Rattle.std.proofs.lemmas.Bool.{le-ltb, ne_eqb}
use Rattle.std.proofs.Math.Seq.{take-append-add}
use Rattle.bus_http.specs.declared.fault.RequestFault.{RequestFault}
use Rattle.bus_http.specs.declared.fault.RequestFault.TheVariants.{ReadFault, HeadTooLong}
use Rattle.bus_http.specs.declared.fault.HeadFault.{HeadFault}
use Rattle.bus_http.specs.declared.request.Request.{Request}
use Rattle.bus_http.specs.declared.route.Side.{Side}
use Rattle.bus_http.specs.Ending.{head_end, most_head}
use Rattle.bus_http.specs.Head.{Means, told}
use Rattle.bus_http.specs.declared.coming.Coming.{Coming}
use Rattle.bus_http.specs.declared.coming.Coming.TheVariants as comings
use Rattle.bus_http.specs.Inbox.{Draws, HoldsHead, HoldsNone, HoldsPart, Comes}
use Rattle.bus_http.specs.Requests.{Found, unended, FirstAs, FirstAt, First, Untaken, Reads, Takes, Settled, IsLast, Sees, Saw, IsWithin, AnswersComing, WhereTold}

-- the first bytes hold the end of the head at the front
pub front_of : (n end : ℕ) (held after : List ℕ) → length held ≤ n → ((rest : List ℕ) → head_end (held ++ rest) ≡ Some end) → head_end (take n (held ++ after)) ≡ Some end
front_of n end held after le ends =
    let parts : n ≡ length held + (n - length held) = omega arith in
    ap (λ k. head_end (take k (held ++ after))) parts ∙ ap head_end (take-append-add held after (n - length held)) ∙ ends (take (n - length held) after)

first_as : (side : Side) (end : ℕ) (held after rest : List ℕ) (result : Found) → end ≤ length held → FirstAs side end held result rest → FirstAs side end (held ++ after) result (rest ++ after)
first_as side end held after rest result le f = record {
  answer = f.answer;
  means = rw (take-append-le end held after le) f.means;
  result_is = f.result_is;
  rest_is = ap (λ (x : List ℕ). x ++ after) f.rest_is ∙ sym (drop-append-le end held after le);
}

pub settled_head : (side : Side) (end : ℕ) (held rest : List ℕ) (result : Found) → length held ≤ 16384 → HoldsHead end held → FirstAs side end held result rest → Settled side held result rest
settled_head side end held rest result short head f after =
    subst (λ (o : Option ℕ). FirstAt side o (held ++ after) result (rest ++ after)) (sym (front_of most_head end held after short head.ends)) (first_as side end held after rest result head.within f)

no_first : (side : Side) (whole : List ℕ) (result : Found) → head_end (take most_head whole) ≡ None → result ≡ unended (length whole) → First side whole result whole
no_first side whole result none is = subst (λ (o : Option ℕ). FirstAt side o whole result whole) (sym none) (record { result_is = is; rest_is = refl })

unended_long : (n : ℕ) → 16384 ≤ n → unended n ≡ Err HeadTooLong
unended_long n le =
    let some : (n == 0) ≡ false = ne_eqb n 0 (λ e. omega arith) in
    let long : nat_lt n 16384 ≡ false = le-ltb n 16384 le in
    rw (some, long) refl

settled_long : (side : Side) (held : List ℕ) → HoldsNone held → Settled side held (Err HeadTooLong) held
settled_long side held head after =
    no_first side (held ++ after) (Err HeadTooLong) (ap head_end (take_at held after most_head head.full) ∙ head.none)
    (sym (unended_long (length (held ++ after)) (omega (arith, head.full, length-append held after))))

last_part : (held : List ℕ) (m : Option (List ℕ)) (result : Found) → HoldsPart held m → result ≡ unended (length held) → IsLast held m result held
last_part held m result part is = record {
  ended = part.ended;
  none = ap head_end (take_all most_head held (omega (arith, part.short))) ∙ part.none;
  answer = record { result_is = is; rest_is = refl };
}

-- what came of a head fits
pub fits : (coming : Coming) (held : List ℕ) (m : Option (List ℕ)) → Comes coming held m → IsWithin coming (length held)
fits (comings.Whole end) held m head = head.within
fits comings.TooLong held m head = tt
fits comings.Ended held m head = head.short

-- what was answered of what came is the first request of what is held
sees_of : (side : Side) (coming : Coming) (held rest : List ℕ) (m : Option (List ℕ)) (result : Found) → length held ≤ 16384 → Comes coming held m → AnswersComing side coming held result rest
    → Sees side held m result rest
sees_of side (comings.Whole end) held rest m result short head takes =
    elim takes [ inl f ↦ inl (settled_head side end held rest result short head f) | inr u ↦ inr (inr u) ]
sees_of side comings.TooLong held rest m result short head answer = rw (answer.0, answer.1) (inl (settled_long side held head))
sees_of side comings.Ended held rest m result short head answer = rw answer.1 (inr (inl (last_part held m result head answer.0)))

saw_by : (side : Side) (l m g h : Option (List ℕ)) (old held last : List ℕ) (result : Found) → Draws l m g h old held → Sees side held m result last → Saw side l m g h old result last
saw_by side l m g h old held last result d sees = record {
  came = d.came;
  left = d.left;
  given = d.given;
  sees = subst (λ (w : List ℕ). Sees side w m result last) d.held sees;
}

pub saw_coming : (side : Side) (coming : Coming) (l m g h : Option (List ℕ)) (old held last : List ℕ) (result : Found) → length held ≤ 16384 → Draws l m g h old held → Comes coming held m
    → AnswersComing side coming held result last → Saw side l m g h old result last
saw_coming side coming l m g h old held last result short d comes answers = saw_by side l m g h old held last result d (sees_of side coming held last m result short comes answers)

-- the source failed
pub saw_failed : (side : Side) (l m g h : Option (List ℕ)) (old held : List ℕ) → Draws l m g h old held → Saw side l m g h old (Err ReadFault) held
saw_failed side l m g h old held d = saw_by side l m g h old held held (Err ReadFault) d (inr (inr record { fault = inl refl; rest_is = refl }))

-- ---- where the source tells what it has left

untaken_as : (held after rest : List ℕ) (result : Found) → Untaken held result rest → Untaken (held ++ after) result (rest ++ after)
untaken_as held after rest result u = record { fault = u.fault; rest_is = ap (λ (x : List ℕ). x ++ after) u.rest_is }

last_first : (side : Side) (seen rest : List ℕ) (m : Option (List ℕ)) (result : Found) → IsLast seen m result rest → First side seen result rest
last_first side seen rest m result last = subst (λ (o : Option ℕ). FirstAt side o seen result rest) (sym last.none) last.answer

reads_of : (side : Side) (seen after rest : List ℕ) (result : Found) → Sees side seen (Some after) result rest → Reads side (seen ++ after) result (rest ++ after)
reads_of side seen after rest result sees =
    elim sees [
      | inl s ↦ inl (s after)
      | inr other ↦ elim other [
        | inl last ↦ inl (rw (last.ended, append-nil seen, append-nil rest) (last_first side seen rest (Some after) result last))
        | inr u ↦ inr (untaken_as seen after rest result u)
      ]
    ]

-- what was seen is what was told
pub first_told : (side : Side) (l m g h : Option (List ℕ)) (old last : List ℕ) (result : Found) → Saw side l m g h old result last
    → WhereTold l m (λ before after. Reads side (old ++ before) result (last ++ after))
first_told side None m g h old last result s = tt
first_told side (Some before) None g h old last result s = absurd s.left
first_told side (Some before) (Some after) g h old last result s =
    let whole : (old ++ s.came) ++ after ≡ old ++ before = append_assoc old s.came after ∙ ap (λ (x : List ℕ). old ++ x) (sym s.left) in
    subst (λ (w : List ℕ). Reads side w result (last ++ after)) whole (reads_of side (old ++ s.came) after last result s.sees)

-- ---- a request that is taken or refused

pub taken : (side : Side) (end : ℕ) (held rest : List ℕ) (request : Request) → Means side (take end held) (Ok request) → rest ≡ drop end held → Takes side end held (Ok (Some request)) rest
taken side end held rest request means is = inl record { answer = Ok request; means = means; result_is = refl; rest_is = is }

pub refused : (side : Side) (end : ℕ) (held rest : List ℕ) (fault : HeadFault) (why : RequestFault) → told (Err fault) ≡ Some (Err why) → IfSome (told (Err fault)) (Means side (take end held))
    → rest ≡ drop end held → Takes side end held (Err why) rest
refused side end held rest fault why is means rest_is =
    inl record { answer = Err why; means = subst (λ o. IfSome o (Means side (take end held))) is means; result_is = refl; rest_is = rest_is }
