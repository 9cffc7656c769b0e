-- Turns one after another are a talk.
use Rattle.std.proofs.Common.{◌≡◌, ◌∙◌, ℕ, ◌+◌, ◌<◌, inl, arith, Bool, true, false, true≢false, lit<, List, [], ◌∷◌, ◌++◌, Option, Some, None, refl, sym, ap, subst, append-nil, append_assoc}
use Rattle.std.proofs.KnownBytes.{Appends-trans, Consumes-trans}
use Rattle.std.specs.Io.KnownBytes.{Consumes, Appends}
use Rattle.bus_wire.specs.declared.ask.Ask.{Ask}
use Rattle.bus_http.specs.declared.route.Side.{Side}
use Rattle.bus_http.specs.declared.service.ServeEnd.{ServeEnd}
use Rattle.bus_http.specs.declared.service.ServeEnd.TheVariants.{BadRequest, TooMany, NoMemory}
use Rattle.bus_http.specs.declared.reply.Refused.{Refused}
use Rattle.bus_http.specs.declared.reply.Refused.TheVariants.{BadRequest as Bad, NotFound, MethodNotAllowed, HeadTooLarge, ServerError}
use Rattle.bus_http.specs.Talks.{Refuses, IsClosing, Where, status_of, most_answers, Turn, Talks, Talked, Served}
use Rattle.bus_http.specs.Turns.{GoesOn, Turned}

stays_appended : (o : Option (List ℕ)) → Appends o o []
stays_appended None = tt
stays_appended (Some x) = sym (append-nil x)

stays_consumed : (o : Option (List ℕ)) → Consumes o o []
stays_consumed None = tt
stays_consumed (Some x) = refl

module _ {State : Type 0} (side : Side) (may : State → State → Ask → List ℕ → Type 0) (keeps : State → State → Type 0) (sure : Bool) where
  -- so many answers were given, and some bytes are held: what is said of these and those that are still to come, completes the talk
  pub record Progress (s t : State) (count : ℕ) (held : List ℕ) (given_old given_new left_old left_new written_old written_new : Option (List ℕ)) : Type 0 where
    pub got : List ℕ
    pub said : List ℕ
    pub given : Appends given_old given_new got
    pub left : Consumes left_old left_new got
    pub written : Appends written_old written_new said
    pub goes : (u : State) (more : List ℕ) (left : Option (List ℕ)) (behind : List ℕ) (end : ServeEnd) → Talked side may keeps sure t u count (held ++ more) left behind end
        → Talked side may keeps sure s u 0 (got ++ more) left (said ++ behind) end

  pub progress_start : (s : State) (g l w : Option (List ℕ)) → Progress s s 0 [] g g l l w w
  progress_start s g l w = record { got = []; said = []; given = stays_appended g; left = stays_consumed l; written = stays_appended w; goes = λ u more left behind end talk. talk }

  -- one answer more
  one_more : (s t u : State) (count : ℕ) (seen said held more : List ℕ) (left : Option (List ℕ)) (behind : List ℕ) (end : ServeEnd) → count < most_answers
      → GoesOn side may keeps sure s t seen said held → Talked side may keeps sure t u (count + 1) (held ++ more) left behind end → Talked side may keeps sure s u count (seen ++ more) left (said ++ behind) end
  one_more s t u count seen said held more left behind end room g talk = (
    record { request = g.request; body = g.body; state = t } ∷ talk.0,
    (room, (held ++ more, behind, g.settled more, g.reply, ap (λ (x : List ℕ). x ++ behind) g.said_is, rw g.stays talk.1)),
  )

  pub progress_more : (s t u : State) (count : ℕ) (held now : List ℕ) (g h i l m n w v x : Option (List ℕ)) → Progress s t count held g h l m w v
      → Turned side may keeps sure t u h i m n v x held None now → count < most_answers → Progress s u (count + 1) now g i l n w x
  progress_more s t u count held now g h i l m n w v x p turned room = record {
    got = p.got ++ turned.came;
    said = p.said ++ turned.said;
    given = Appends-trans g h i p.got turned.came p.given turned.given;
    left = Consumes-trans l m n p.got turned.came p.left turned.left;
    written = Appends-trans w v x p.said turned.said p.written turned.written;
    goes = λ last more left behind end talk.
        let step : Talked side may keeps sure t last count ((held ++ turned.came) ++ more) left (turned.said ++ behind) end =
        one_more t u last count (held ++ turned.came) turned.said now more left behind end room turned.as_said talk in
        let whole : Talked side may keeps sure s last 0 (p.got ++ (turned.came ++ more)) left (p.said ++ (turned.said ++ behind)) end =
        p.goes last (turned.came ++ more) left (turned.said ++ behind) end
        (subst (λ (b : List ℕ). Talked side may keeps sure t last count b left (turned.said ++ behind) end) (append_assoc held turned.came more) step) in
        subst (λ (b : List ℕ). Talked side may keeps sure s last 0 b left ((p.said ++ turned.said) ++ behind) end) (sym (append_assoc p.got turned.came more))
        (subst (λ (b : List ℕ). Talked side may keeps sure s last 0 (p.got ++ (turned.came ++ more)) left b end) (sym (append_assoc p.said turned.said behind)) whole);
  }

  -- the last one
  pub served_end : (s t u : State) (count : ℕ) (held now : List ℕ) (g h i l m n w v x : Option (List ℕ)) (end : ServeEnd) → Progress s t count held g h l m w v
      → Turned side may keeps sure t u h i m n v x held (Some end) now → count < most_answers → Served side may keeps sure s u g i l n w x end
  served_end s t u count held now g h i l m n w v x end p turned room = record {
    got = p.got ++ turned.came;
    said = p.said ++ turned.said;
    given = Appends-trans g h i p.got turned.came p.given turned.given;
    left = Consumes-trans l m n p.got turned.came p.left turned.left;
    written = Appends-trans w v x p.said turned.said p.written turned.written;
    talk = p.goes u turned.came n turned.said end (turned.as_said count room);
  }

  -- there were as many as there may be
  pub served_most : (s t : State) (count : ℕ) (held : List ℕ) (g h l m w v : Option (List ℕ)) → Progress s t count held g h l m w v → count ≡ most_answers
      → Served side may keeps sure s t g h l m w v TooMany
  served_most s t count held g h l m w v p most = record {
    got = p.got;
    said = p.said;
    given = p.given;
    left = p.left;
    written = p.written;
    talk =
        subst (λ (b : List ℕ). Talked side may keeps sure s t 0 p.got m b TooMany) (append-nil p.said)
        (subst (λ (b : List ℕ). Talked side may keeps sure s t 0 b m (p.said ++ []) TooMany) (append-nil p.got) (p.goes t [] m [] TooMany ([], (most, refl, refl))));
  }

  -- there was no memory to begin
  pub served_none : (s : State) (g l w : Option (List ℕ)) → Served side may keeps sure s s g g l l w w NoMemory
  served_none s g l w = record {
    got = [];
    said = [];
    given = stays_appended g;
    left = stays_consumed l;
    written = stays_appended w;
    talk = ([], (lit< tt, refl, inl refl));
  }

  never_closing : (close : Bool) (A B : Type 0) → (A → ⊥) → (B → ⊥) → Where close A B → ⊥
  never_closing true A B a b w = a w
  never_closing false A B a b w = b w

  -- what is sure never fails
  never_500 : (s t : State) (count : ℕ) (got : List ℕ) (left : Option (List ℕ)) (said : List ℕ) (turns : List (Turn State)) → sure ≡ true
      → Talks side may keeps sure s t count got left said (BadRequest 500) turns → ⊥
  never_500 s t count got left said [] certain talk = refuses talk.1.0 talk.1.1 talk.1.3
    where
      refuses : (refused : Refused) → Refuses side may keeps sure s t got left refused → 500 ≡ status_of refused → ⊥
      refuses Bad r e = absurd (omega (arith, e))
      refuses NotFound r e = absurd (omega (arith, e))
      refuses MethodNotAllowed r e = absurd (omega (arith, e))
      refuses HeadTooLarge r e = absurd (omega (arith, e))
      refuses ServerError r e = true≢false (sym certain ∙ r.unsure)
  never_500 s t count got left said (turn ∷ turns) certain talk =
      never_closing turn.request.close (IsClosing side may keeps sure turn.state t talk.1.1 (BadRequest 500) turns) _ (λ w. cc w.closed)
      (λ w. never_500 turn.state t (count + 1) talk.1.0 left talk.1.1 turns certain w) talk.1.5

  pub surely_served : (s t : State) (g h l m w v : Option (List ℕ)) (end : ServeEnd) → Served side may keeps sure s t g h l m w v end → sure ≡ true → end ≡ BadRequest 500 → ⊥
  surely_served s t g h l m w v end served certain is =
      let talk : Talked side may keeps sure s t 0 served.got m served.said (BadRequest 500) = subst (λ e. Talked side may keeps sure s t 0 served.got m served.said e) is served.talk in
      never_500 s t 0 served.got m served.said talk.0 certain talk.1
