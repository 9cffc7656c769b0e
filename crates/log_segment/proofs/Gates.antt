-- What a crash leaves while a gate is opened.
use Rattle.std.proofs.Common.{◌≡◌, inl, inr, ℕ, ◌+◌, ◌≤◌, ◌<◌, List, [], ◌∷◌, ◌++◌, length, get_or, take, drop, refl, sym, ◌∙◌, ap, subst, arith, append_assoc, length-append, length-drop, take-append-drop, Option, Some, None, Result, Ok, Err, IfSome}
use Rattle.std.proofs.lemmas.Bool.{cases_eq}
use Rattle.std.proofs.lemmas.List.{take_at, drop_at, drop_more, length-take}
use Rattle.bus_types.specs.declared.fault.Failed.{Failed}
use Rattle.bus_types.specs.Causes.{HasCause}
use Rattle.log_disk.specs.Disk.{DiskState, may_leave, Only, Torn, Holds, BothTold, Follows, LeavesOnly, Elapses, Writes, Cuts, IsCut, Syncs}
use Rattle.log_disk.specs.Pending.{put}
use Rattle.log_disk.proofs.Moments.{started, goes_on, joined, weaker}
use Rattle.log_segment.specs.Image.{EndsEither}
use Rattle.log_segment.specs.Gate.{RestsAt, RestsBehind, NoShorter, WritesLasting, CutsLasting, PutsBehind}

-- ---- the cause of a fault

-- a call that did not fail, and then another
pub later_cause : {X : Type 0} (f g h : ℕ) (r : Result X Failed) → f ≤ g → HasCause g h r → HasCause f h r
later_cause f g h (Ok x) later cause = record { later = omega (arith, later, cause.later); failed = tt }
later_cause f g h (Err e) later cause = record { later = omega (arith, later, cause.later); failed = omega (arith, later, cause.failed) }

-- ---- bytes

torn_same : (place size : ℕ) (c : List ℕ) → Torn place size c c
torn_same place size c = record { before = refl; after = refl; no_shorter = omega arith; no_longer = omega arith }

put_no_shorter : (place : ℕ) (text old : List ℕ) → length old ≤ length (put place text old)
put_no_shorter place text old = omega (arith, length-append (take place old ++ text) (drop (place + length text) old), length-append (take place old) text, length-take place old, length-drop (place + length text) old)

module _ (front rest : List ℕ) (gate place : ℕ) (is : length front ≡ place) where
  one_more : length (front ++ gate ∷ []) ≡ place + 1
  one_more = omega (arith, is, length-append front (gate ∷ []))

  split : front ++ gate ∷ rest ≡ (front ++ gate ∷ []) ++ rest
  split = sym (append_assoc front (gate ∷ []) rest)

  pub upto_gate : take (place + 1) (front ++ gate ∷ rest) ≡ front ++ gate ∷ []
  upto_gate = ap (λ (l : List ℕ). take (place + 1) l) split ∙ take_at (front ++ gate ∷ []) rest (place + 1) one_more

  pub behind_gate : drop (place + 1) (front ++ gate ∷ rest) ≡ rest
  behind_gate = ap (λ (l : List ℕ). drop (place + 1) l) split ∙ drop_at (front ++ gate ∷ []) rest (place + 1) one_more

  pub upto_front : take place (front ++ gate ∷ rest) ≡ front
  upto_front = take_at front (gate ∷ rest) place is

  -- what is written behind a gate leaves the gate
  pub torn_behind : (size : ℕ) (c : List ℕ) → Torn (place + 1) size (front ++ gate ∷ rest) c → c ≡ front ++ gate ∷ drop (place + 1) c
  torn_behind size c torn =
      sym (take-append-drop (place + 1) c) ∙ ap (λ (l : List ℕ). l ++ drop (place + 1) c) (torn.before ∙ upto_gate) ∙ append_assoc front (gate ∷ []) (drop (place + 1) c)

  pub put_behind_gate : (text : List ℕ) → put (place + 1) text (front ++ gate ∷ rest) ≡ front ++ gate ∷ (text ++ drop (place + 1 + length text) (front ++ gate ∷ rest))
  put_behind_gate text =
      let over = drop (place + 1 + length text) (front ++ gate ∷ rest) in
      ap (λ (l : List ℕ). l ++ text ++ over) upto_gate ∙ append_assoc (front ++ gate ∷ []) text over ∙ append_assoc front (gate ∷ []) (text ++ over)

  -- what is written on a gate leaves all else
  pub torn_gate : (c : List ℕ) → Torn place 1 (front ++ gate ∷ rest) c → c ≡ front ++ get_or c place 0 ∷ rest
  torn_gate c torn =
      let long : place < length c = omega (arith, torn.no_shorter, is, length-append front (gate ∷ rest)) in
      sym (take-append-drop place c) ∙ ap (λ (l : List ℕ). l ++ drop place c) (torn.before ∙ upto_front)
      ∙ ap (λ (l : List ℕ). front ++ l) (drop_more c place 0 long ∙ ap (λ (l : List ℕ). get_or c place 0 ∷ l) (torn.after ∙ behind_gate))

  pub put_gate : (new : ℕ) → put place (new ∷ []) (front ++ gate ∷ rest) ≡ front ++ new ∷ rest
  put_gate new =
      ap (λ (l : List ℕ). l ++ (new ∷ []) ++ drop (place + 1) (front ++ gate ∷ rest)) upto_front
      ∙ ap (λ (l : List ℕ). front ++ (new ∷ []) ++ l) behind_gate ∙ append_assoc front (new ∷ []) rest

-- a body and a closed gate behind any gate
pub either : (front body rest : List ℕ) (gate : ℕ) → EndsEither front body (front ++ gate ∷ (body ++ 0 ∷ rest))
either front body rest gate = elim (cases_eq gate 165) [
  | inl is_open ↦ inr (record { gate = 0; rest = rest; closed = omega arith; parts = ap (λ (g : ℕ). front ++ g ∷ (body ++ 0 ∷ rest)) is_open ∙ sym (append_assoc front (165 ∷ body) (0 ∷ rest)) })
  | inr shut ↦ inl (record { gate = gate; rest = body ++ 0 ∷ rest; closed = shut; parts = refl })
]

-- ---- one write, made lasting

told_longer : (relation : List ℕ → List ℕ → Type 0) → ((a b : List ℕ) → relation a b → length a ≤ length b) → (old new : Option (List ℕ)) → BothTold relation old new → BothTold NoShorter old new
told_longer relation so None None told = tt
told_longer relation so None (Some b) told = told
told_longer relation so (Some a) None told = told
told_longer relation so (Some a) (Some b) told = so a b told

pub told_then : (one two three : Option (List ℕ)) → BothTold NoShorter one two → BothTold NoShorter two three → BothTold NoShorter one three
told_then None None three first second = second
told_then None (Some b) three first second = absurd first
told_then (Some a) None three first second = absurd first
told_then (Some a) (Some b) None first second = second
told_then (Some a) (Some b) (Some d) first second = omega (arith, first, second)

told_reach : (place : ℕ) (text : List ℕ) (old new : Option (List ℕ)) → IfSome old (λ b. place ≤ length b) → BothTold (Holds place text) old new → IfSome new (λ b. place + length text ≤ length b)
told_reach place text None None fits told = tt
told_reach place text None (Some b) fits told = absurd told
told_reach place text (Some a) None fits told = tt
told_reach place text (Some a) (Some b) fits told = subst (λ (l : List ℕ). place + length text ≤ length l) (sym told) (omega (arith, fits, length-append (take place a ++ text) (drop (place + length text) a), length-append (take place a) text, length-take place a))

pub reach_stays : (n : ℕ) (old new : Option (List ℕ)) → BothTold NoShorter old new → IfSome old (λ b. n ≤ length b) → IfSome new (λ b. n ≤ length b)
reach_stays n None None told reach = tt
reach_stays n None (Some b) told reach = absurd told
reach_stays n (Some a) None told reach = tt
reach_stays n (Some a) (Some b) told reach = omega (arith, told, reach)

told_put : (place : ℕ) (text bytes : List ℕ) (new : Option (List ℕ)) → BothTold (Holds place text) (Some bytes) new → new ≡ Some (put place text bytes)
told_put place text bytes None told = absurd told
told_put place text bytes (Some n) told = ap Some told

module _ (place : ℕ) (text : List ℕ) (a b : DiskState) where
  abbrev n : ℕ
  n = length text

  longer : (old new : List ℕ) → Holds place text old new → length old ≤ length new
  longer old new holds = subst (λ (l : List ℕ). length old ≤ length l) (sym holds) (put_no_shorter place text old)

  -- up to the end of the write
  module _ (bytes : List ℕ) (rests : RestsAt bytes a) (time : Elapses a.clock b.clock) (crash : Follows (Torn place n) (may_leave a.clock) (may_leave b.clock)) where
    now_torn : (c : List ℕ) → may_leave b.clock c → Torn place n bytes c
    now_torn c left = let from = crash c left in subst (λ (d : List ℕ). Torn place n d c) (rests.only from.0 from.1) from.2

    so_far : LeavesOnly a.clock b.clock (Torn place n bytes)
    so_far = goes_on a.clock a.clock b.clock (Torn place n bytes)
        (started a.clock (Torn place n bytes) (λ c left. subst (Torn place n bytes) (sym (rests.only c left)) (torn_same place n bytes))) time now_torn

  pub lasting_err : (e : Failed) → Writes place text a b (Err e) → WritesLasting place text a b (Err e)
  lasting_err e w = record {
    cause = w.call.cause;
    seen = told_longer (Torn place n) (λ x y torn. torn.no_shorter) a.seen b.seen w.seen;
    reach = tt;
    crash = λ bytes rests. so_far bytes rests w.call.time w.crash;
    done = tt;
  }

  module _ (d : DiskState) (x : Unit {0}) (w : Writes place text a b (Ok x)) where
    longer_seen : d.seen ≡ b.seen → BothTold NoShorter a.seen d.seen
    longer_seen same = subst (λ (s : Option (List ℕ)). BothTold NoShorter a.seen s) (sym same) (told_longer (Holds place text) longer a.seen b.seen w.seen)

    leaves : (bytes : List ℕ) → RestsAt bytes a → (r : Result Unit Failed) → Syncs b d r → LeavesOnly a.clock d.clock (Torn place n bytes)
    leaves bytes rests r s = goes_on a.clock b.clock d.clock (Torn place n bytes) (so_far bytes rests w.call.time w.crash) s.keeps.call.time
        (λ c left. now_torn bytes rests w.call.time w.crash c (s.keeps.crash c left))

    put_seen : (bytes : List ℕ) → a.seen ≡ Some bytes → b.seen ≡ Some (put place text bytes)
    put_seen bytes is = told_put place text bytes b.seen (subst (λ (s : Option (List ℕ)). BothTold (Holds place text) s b.seen) is w.seen)

    pub lasting_ok : (r : Result Unit Failed) → IfSome a.seen (λ l. place ≤ length l) → Syncs b d r → WritesLasting place text a d r
    lasting_ok (Ok y) fits s = record {
      cause = later_cause a.faults b.faults d.faults (Ok y) w.call.cause.later s.keeps.call.cause;
      seen = longer_seen s.keeps.seen;
      reach = subst (λ (o : Option (List ℕ)). IfSome o (λ l. place + length text ≤ length l)) (sym s.keeps.seen) (told_reach place text a.seen b.seen fits w.seen);
      crash = λ bytes rests. leaves bytes rests (Ok y) s;
      done = λ bytes is. record {
        seen = s.keeps.seen ∙ put_seen bytes is;
        only = subst (λ (o : Option (List ℕ)). IfSome o (λ l. Only l (may_leave d.clock))) (put_seen bytes is) s.lasting;
      };
    }
    lasting_ok (Err e) fits s = record {
      cause = later_cause a.faults b.faults d.faults (Err e) w.call.cause.later s.keeps.call.cause;
      seen = longer_seen s.keeps.seen;
      reach = tt;
      crash = λ bytes rests. leaves bytes rests (Err e) s;
      done = tt;
    }

pub ruleset lasting = (lasting_ok, lasting_err)

-- ---- a body, and then the gate

module _ (place : ℕ) (text : List ℕ) (a b : DiskState) where
  module _ (front body : List ℕ) (is : length front ≡ place) (text_is : text ≡ body ++ 0 ∷ []) (rests : RestsBehind front a) where
    abbrev gate : ℕ
    gate = rests.ends.gate

    abbrev rest : List ℕ
    rest = rests.ends.rest

    at_gate : RestsAt (front ++ gate ∷ rest) a
    at_gate = subst (λ (l : List ℕ). RestsAt l a) rests.ends.parts rests.rests

    closed : (c : List ℕ) → Torn (place + 1) (length text) (front ++ gate ∷ rest) c → EndsEither front body c
    closed c torn = inl (record { gate = gate; rest = drop (place + 1) c; closed = rests.ends.closed; parts = torn_behind front rest gate place is (length text) c torn })

    first_leaves : (r : Result Unit Failed) → WritesLasting (place + 1) text a b r → LeavesOnly a.clock b.clock (EndsEither front body)
    first_leaves r w = weaker a.clock b.clock _ (EndsEither front body) closed (w.crash (front ++ gate ∷ rest) at_gate)

    abbrev over : List ℕ
    over = drop (place + 1 + length text) (front ++ gate ∷ rest)

    staged : put (place + 1) text (front ++ gate ∷ rest) ≡ front ++ gate ∷ (body ++ 0 ∷ over)
    staged = put_behind_gate front rest gate place is text ∙ ap (λ (l : List ℕ). front ++ gate ∷ (l ++ over)) text_is ∙ ap (λ (l : List ℕ). front ++ gate ∷ l) (append_assoc body (0 ∷ []) over)

    mid_rests : (x : Unit {0}) → WritesLasting (place + 1) text a b (Ok x) → RestsAt (front ++ gate ∷ (body ++ 0 ∷ over)) b
    mid_rests x w = subst (λ (l : List ℕ). RestsAt l b) staged (w.done (front ++ gate ∷ rest) at_gate.seen)

    opened : (c : List ℕ) → Torn place 1 (front ++ gate ∷ (body ++ 0 ∷ over)) c → EndsEither front body c
    opened c torn = subst (EndsEither front body) (sym (torn_gate front (body ++ 0 ∷ over) gate place is c torn)) (either front body over (get_or c place 0))

    then_leaves : (d : DiskState) (x : Unit {0}) (r : Result Unit Failed) → WritesLasting (place + 1) text a b (Ok x) → WritesLasting place (165 ∷ []) b d r → LeavesOnly a.clock d.clock (EndsEither front body)
    then_leaves d x r first second = joined a.clock b.clock d.clock (EndsEither front body) (first_leaves (Ok x) first)
        (weaker b.clock d.clock _ (EndsEither front body) opened (second.crash _ (mid_rests x first)))

    then_rests : (d : DiskState) (x y : Unit {0}) → WritesLasting (place + 1) text a b (Ok x) → WritesLasting place (165 ∷ []) b d (Ok y) → RestsBehind (front ++ 165 ∷ body) d
    then_rests d x y first second = record {
      bytes = front ++ 165 ∷ (body ++ 0 ∷ over);
      rests = subst (λ (l : List ℕ). RestsAt l d) (put_gate front (body ++ 0 ∷ over) gate place is 165) (second.done _ (mid_rests x first).seen);
      ends = record { gate = 0; rest = over; closed = omega arith; parts = sym (append_assoc front (165 ∷ body) (0 ∷ over)) };
    }

  pub behind_err : (e : Failed) → WritesLasting (place + 1) text a b (Err e) → PutsBehind place text a b (Err e)
  behind_err e w = record { cause = w.cause; seen = w.seen; reach = tt; crash = λ front body is text_is rests. first_leaves front body is text_is rests (Err e) w; done = tt }

  pub behind_ok : (d : DiskState) (x : Unit {0}) (r : Result Unit Failed) → WritesLasting (place + 1) text a b (Ok x) → WritesLasting place (165 ∷ []) b d r → PutsBehind place text a d r
  behind_ok d x (Ok y) first second = record {
    cause = later_cause a.faults b.faults d.faults (Ok y) first.cause.later second.cause;
    seen = told_then a.seen b.seen d.seen first.seen second.seen;
    reach = reach_stays (place + 1 + length text) b.seen d.seen second.seen first.reach;
    crash = λ front body is text_is rests. then_leaves front body is text_is rests d x (Ok y) first second;
    done = λ front body is text_is rests. then_rests front body is text_is rests d x y first second;
  }
  behind_ok d x (Err e) first second = record {
    cause = later_cause a.faults b.faults d.faults (Err e) first.cause.later second.cause;
    seen = told_then a.seen b.seen d.seen first.seen second.seen;
    reach = tt;
    crash = λ front body is text_is rests. then_leaves front body is text_is rests d x (Err e) first second;
    done = tt;
  }

pub ruleset behind = (behind_ok, behind_err)

-- ---- a cut, made lasting

told_cut : (size : ℕ) (bytes : List ℕ) (new : Option (List ℕ)) → BothTold (IsCut size) (Some bytes) new → new ≡ Some (take size bytes)
told_cut size bytes None told = absurd told
told_cut size bytes (Some n) told = ap Some told

module _ (size : ℕ) (a b : DiskState) where
  pub cut_err : (e : Failed) → Cuts size a b (Err e) → CutsLasting size a b (Err e)
  cut_err e w = record { cause = w.call.cause; done = tt }

  pub cut_ok : (d : DiskState) (x : Unit {0}) (r : Result Unit Failed) → Cuts size a b (Ok x) → Syncs b d r → CutsLasting size a d r
  cut_ok d x (Ok y) w s = record {
    cause = later_cause a.faults b.faults d.faults (Ok y) w.call.cause.later s.keeps.call.cause;
    done = λ bytes is.
        let now : b.seen ≡ Some (take size bytes) = told_cut size bytes b.seen (subst (λ (o : Option (List ℕ)). BothTold (IsCut size) o b.seen) is w.seen) in
        record {
          seen = s.keeps.seen ∙ now;
          only = subst (λ (o : Option (List ℕ)). IfSome o (λ l. Only l (may_leave d.clock))) now s.lasting;
        };
  }
  cut_ok d x (Err e) w s = record { cause = later_cause a.faults b.faults d.faults (Err e) w.call.cause.later s.keeps.call.cause; done = tt }

pub ruleset cutting = (cut_ok, cut_err)
