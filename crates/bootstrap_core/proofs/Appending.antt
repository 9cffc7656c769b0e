-- Windows that are appended to the log of a bootstrap, one after the other.
use Rattle.std.proofs.Common.{◌≡◌, ℕ, zero, suc, ◌+◌, ◌<◌, ◌≤◌, inl, inr, Bool, true, false, List, [], ◌∷◌, ◌++◌, length, get_or, take, Option, Some, None, Result, Ok, Err, refl, sym, ap, subst, ◌∙◌, append_assoc, append-nil, arith}
use Rattle.std.specs.Prelude.{option_map, slice_get, IfSome, IfOk}
use Rattle.std.proofs.lemmas.Bool.{ltb-false}
use Rattle.std.proofs.lemmas.List.{take_more, take_all, take-take, length-take, length-append}
use Rattle.std.proofs.lemmas.Option.{slice_get-get_or}
use Rattle.bus_types.specs.Window.{Span, span_size}
use Rattle.bus_types.specs.Timeline.{Follows, IsTimelineFrom, end_from, end_of, total_size}
use Rattle.bus_types.proofs.Stretches.{end_from-append, follows_at}
use Rattle.event_codec.specs.declared.answer.Answer.{Answer}
use Rattle.event_codec.specs.declared.reply.Shape.TheVariants as shapes
use Rattle.bus_wire.specs.Lawful.{IsLawful}
use Rattle.bus_stores.specs.Log.{LogState, LogRoom, IsLog, IsRoomy, AppendsWindow}
use Rattle.bootstrap_core.specs.declared.fault.TakeLog.{TakeLog}
use Rattle.bootstrap_core.specs.declared.fault.TakeLog.TheVariants.{BadReply, Gap, Full, LogFailed, Halted, NoMemory}
use Rattle.bootstrap_core.specs.Boot.{BootState}
use Rattle.bootstrap_core.specs.Logging.{log_ask, IsAnswered, AreWindowsBehind, IsChained, IsFirstMark, FindsRoom, FitsRoom, Logged, LogsWindow, LogsEach, TakesLog}
use Rattle.bootstrap_core.proofs.FirstMarks.{first_unchained, first_place}

-- ---- what was appended

kept : (told : Option (List Span)) → told ≡ option_map (λ held. held ++ []) told
kept None = refl
kept (Some held) = ap Some (sym (append-nil held))

pub logs_none : (s : BootState) → Logged [] s s
logs_none s = record { floor = refl; high = refl; windows = kept s.log.windows; room = refl; fits = λ h. absurd (omega (arith, h)); keeper = refl; mark = refl; halted = refl }

kept_twice : (xs ys : List Span) (told : Option (List Span)) → option_map (λ held. held ++ ys) (option_map (λ held. held ++ xs) told) ≡ option_map (λ held. held ++ (xs ++ ys)) told
kept_twice xs ys None = refl
kept_twice xs ys (Some held) = ap Some (append_assoc held xs ys)

-- those that were appended last fit, or those before them
fits_joined : (xs ys : List Span) (old mid new : BootState) → Logged xs old mid → Logged ys mid new → 0 < length (xs ++ ys) → FitsRoom new.log
fits_joined xs [] old mid new a b some =
    let windows : new.log.windows ≡ mid.log.windows = b.windows ∙ sym (kept mid.log.windows) in
    let fits = a.fits (omega (arith, some, length-append xs [])) in
    subst (λ told. IfSome told (λ held. IfSome new.log.room (λ room. total_size held ≤ room.limit))) (sym windows)
    (subst (λ told. IfSome mid.log.windows (λ held. IfSome told (λ room. total_size held ≤ room.limit))) (sym b.room) fits)
fits_joined xs (y ∷ ys) old mid new a b some = b.fits (omega arith)

logs_joined : (xs ys : List Span) (old mid new : BootState) → Logged xs old mid → Logged ys mid new → Logged (xs ++ ys) old new
logs_joined xs ys old mid new a b = record {
  floor = b.floor ∙ a.floor;
  high = b.high ∙ ap (λ n. end_from n ys) a.high ∙ sym (end_from-append old.log.high xs ys);
  windows = b.windows ∙ ap (option_map (λ held. held ++ ys)) a.windows ∙ kept_twice xs ys old.log.windows;
  room = b.room ∙ a.room;
  fits = fits_joined xs ys old mid new a b;
  keeper = b.keeper ∙ a.keeper;
  mark = b.mark ∙ a.mark;
  halted = b.halted ∙ a.halted;
}

logs_same : (xs : List Span) (old mid new : BootState) → Logged xs old mid → Logged [] mid new → Logged xs old new
logs_same xs old mid new a b = subst (λ (ws : List Span). Logged ws old new) (append-nil xs) (logs_joined xs [] old mid new a b)

-- ---- one window more

total_more : (ws : List Span) (w : Span) → total_size (ws ++ w ∷ []) ≡ total_size ws + span_size w
total_more [] w = omega arith
total_more (v ∷ ws) w = omega (arith, total_more ws w)

fits_more : (w : Span) (full : ℕ → Bool) (told : Option (List Span)) (room : Option LogRoom) → full (span_size w) ≡ false → IfSome told (λ held. IfSome room (λ r. IsRoomy full held r))
    → IfSome (option_map (λ held. held ++ w ∷ []) told) (λ held. IfSome room (λ r. total_size held ≤ r.limit))
fits_more w full None room free roomy = tt
fits_more w full (Some held) None free roomy = tt
fits_more w full (Some held) (Some r) free roomy =
    let room = ltb-false r.limit (total_size held + span_size w) (sym (roomy (span_size w)) ∙ free) in
    omega (arith, total_more held w)

-- a window that a log took
appended_fits : (w : Span) (old new : LogState) → IsLog old → AppendsWindow w old new (Ok tt) → FitsRoom new
appended_fits w old new log appends =
    let a = appends.leaves in
    subst (λ told. IfSome told (λ held. IfSome new.room (λ room. total_size held ≤ room.limit))) (sym a.windows)
    (subst (λ room. IfSome (option_map (λ held. held ++ w ∷ []) old.windows) (λ held. IfSome room (λ r. total_size held ≤ r.limit))) (sym appends.counts.room)
    (fits_more w old.full old.windows old.room a.free log.roomy))

pub appended_logs : (w : Span) (old : BootState) (log : LogState) → IsLog old.log → AppendsWindow w old.log log (Ok tt) → Logged (w ∷ []) old (record old { log = log })
appended_logs w old log is appends =
    let a = appends.leaves in
    record { floor = a.floor; high = a.high; windows = a.windows; room = appends.counts.room; fits = λ _. appended_fits w old.log log is appends; keeper = refl; mark = refl; halted = refl }

module _ (ws : List Span) (i : ℕ) (w : Span) (old mid new : BootState) (within : i < length ws) (at : w ≡ get_or ws i w) where
  there : slice_get ws i ≡ Some w
  there = slice_get-get_or ws i w within ∙ ap Some (sym at)

  -- it follows those before it
  pub next_follows : IsTimelineFrom old.log.high ws → Logged (take i ws) old mid → Follows mid.log.high w
  next_follows t a = subst (λ n. Follows n w) (sym a.high) (follows_at old.log.high i ws w t there)

  -- it was appended
  pub logs_more : Logged (take i ws) old mid → Logged (w ∷ []) mid new → Logged (take (i + 1) ws) old new
  logs_more a b =
      let more : take i ws ++ w ∷ [] ≡ take (i + 1) ws = ap (λ v. take i ws ++ v ∷ []) at ∙ sym (take_more ws i w within) in
      subst (λ (xs : List Span). Logged xs old new) more (logs_joined (take i ws) (w ∷ []) old mid new a b)

  -- it wasn't
  pub logs_broken : (X : Type 0) (fault : TakeLog) → Logged (take i ws) old mid → old.log.faults ≤ mid.log.faults → LogsWindow (Err fault) w mid new → LogsEach {X = X} (Err fault) ws old new
  logs_broken X (BadReply place) a later b = b
  logs_broken X (Gap floor) a later b = b
  logs_broken X (Full need) a later b = record {
    done = i;
    some = within;
    logged = logs_same (take i ws) old mid new a b.2;
    next = w;
    is_next = there;
    need_is = b.0;
    full = b.1;
  }
  logs_broken X LogFailed a later b =
      let rose = b.rose in
      record {
        halted = b.halted;
        rose = omega arith;
        sound = subst (λ told. IfSome told (λ room. room.sound ≡ false)) a.room b.sound;
        keeper = b.keeper ∙ a.keeper;
        mark = b.mark ∙ a.mark;
      }
  logs_broken X Halted a later b = b
  logs_broken X NoMemory a later b = record { done = i; some = within; logged = logs_same (take i ws) old mid new a b.1; room = subst (FindsRoom new.log) (sym there) b.0 }

-- all were
pub logs_all : (ws : List Span) (i : ℕ) (old new : BootState) → length ws ≤ i → Logged (take i ws) old new → Logged ws old new
logs_all ws i old new past a = subst (λ (xs : List Span). Logged xs old new) (take_all i ws past) a

-- ---- the windows of a reply

slice_get-take : {X : Type 0} (n k : ℕ) (xs : List X) (x : X) → slice_get (take n xs) k ≡ Some x → slice_get xs k ≡ Some x
slice_get-take zero k xs x e = absurd (cc e)
slice_get-take (suc n) k [] x e = e
slice_get-take (suc n) zero (y ∷ xs) x e = e
slice_get-take (suc n) (suc k) (y ∷ xs) x e = slice_get-take n k xs x e

front_of_front : (done count : ℕ) (ws : List Span) (old new : BootState) → done < length (take count ws) → Logged (take done (take count ws)) old new → Logged (take done ws) old new
front_of_front done count ws old new some a =
    let few : done ≤ count = omega (arith, some, length-take count ws) in
    subst (λ (xs : List Span). Logged xs old new) (take-take done count ws few) a

-- the first so many windows of a reply were to be appended
pub logs_takes : (result : Result ℕ TakeLog) (count : ℕ) (bytes : List ℕ) (ws : List Span) (old new : BootState) → AreWindowsBehind old.log.high bytes ws → IsChained old.log.high ws
    → LogsEach result (take count ws) old new → IfOk result (λ high. high ≡ new.log.high) → TakesLog result count bytes old new
logs_takes (Ok scn) count bytes ws old new are chained logs high = record {
  shape = shapes.Windows (length ws) (end_of ws);
  lawful = record { windows = ws; spelled = are.spelled; run = are.run; counted = refl; ends = refl };
  windows = ws;
  are = inr (are, chained);
  logged = logs;
  high = high;
}
logs_takes (Err (BadReply place)) count bytes ws old new are chained logs high = absurd logs
logs_takes (Err (Gap floor)) count bytes ws old new are chained logs high = absurd logs
logs_takes (Err (Full need)) count bytes ws old new are chained logs high = record {
  windows = ws;
  are = are;
  chained = chained;
  done = logs.done;
  some = logs.some;
  logged = front_of_front logs.done count ws old new logs.some logs.logged;
  next = logs.next;
  is_next = slice_get-take count logs.done ws logs.next logs.is_next;
  need_is = logs.need_is;
  full = logs.full;
}
logs_takes (Err LogFailed) count bytes ws old new are chained logs high = ((ws, are, chained), logs)
logs_takes (Err Halted) count bytes ws old new are chained logs high = absurd logs
logs_takes (Err NoMemory) count bytes ws old new are chained logs high = record {
  windows = ws;
  are = are;
  done = logs.done;
  chained = chained;
  some = λ _. logs.some;
  logged = front_of_front logs.done count ws old new logs.some logs.logged;
  room = logs.room;
}

-- an answer was taken
pub answer_takes : (result : Result ℕ TakeLog) (count : ℕ) (bytes : List ℕ) (s : BootState) (answer : Answer) → IsLawful (log_ask s.log.high) bytes (shapes.Only answer) → IsAnswered result s.log.high answer → TakesLog result count bytes s s
answer_takes (Ok scn) count bytes s answer lawful is = record {
  shape = shapes.Only answer;
  lawful = lawful;
  windows = [];
  are = inl (is.1.0, ap shapes.Only is.1.1, refl);
  logged = subst (λ (xs : List Span). Logged xs s s) (sym (take_all count [] (omega arith))) (logs_none s);
  high = is.0;
}
answer_takes (Err (BadReply place)) count bytes s answer lawful is = absurd is
answer_takes (Err (Gap floor)) count bytes s answer lawful is = (refl, subst (λ (a : Answer). IsLawful (log_ask s.log.high) bytes (shapes.Only a)) is lawful)
answer_takes (Err (Full need)) count bytes s answer lawful is = absurd is
answer_takes (Err LogFailed) count bytes s answer lawful is = absurd is
answer_takes (Err Halted) count bytes s answer lawful is = absurd is
answer_takes (Err NoMemory) count bytes s answer lawful is = absurd is

-- memory ran out before a window was appended
pub takes_none : (count : ℕ) (bytes : List ℕ) (ws : List Span) (s : BootState) → AreWindowsBehind s.log.high bytes ws → IsChained s.log.high ws → FindsRoom s.log (slice_get (take count ws) 0) → TakesLog (Err NoMemory) count bytes s s
takes_none count bytes ws s are chained room = record {
  windows = ws;
  are = are;
  done = 0;
  chained = chained;
  some = λ h. absurd (omega (arith, h));
  logged = logs_none s;
  room = room;
}

-- the first window doesn't follow the log's newest one
pub takes_unchained : (count place prev : ℕ) (bytes : List ℕ) (ws : List Span) (s : BootState) → AreWindowsBehind s.log.high bytes ws → IsFirstMark ws place prev → (prev ≡ s.log.high → ⊥) → TakesLog (Err (BadReply place)) count bytes s s
takes_unchained count place prev bytes ws s are mark other = (refl, inr (ws, are, first_unchained ws place prev s.log.high mark other, first_place ws place prev mark))

-- it finds no room
pub takes_full : (count place prev need : ℕ) (bytes : List ℕ) (ws : List Span) (s : BootState) → 0 < count → AreWindowsBehind s.log.high bytes ws → IsFirstMark ws place prev → prev ≡ s.log.high → need ≡ place + 17 → s.log.full need ≡ true → TakesLog (Err (Full need)) count bytes s s
takes_full count place prev need bytes [] s some are mark chained size full = absurd mark
takes_full zero place prev need bytes (w ∷ ws) s some are mark chained size full = absurd (omega (arith, some))
takes_full (suc count) place prev need bytes (w ∷ ws) s some are mark chained size full = record {
  windows = w ∷ ws;
  are = are;
  chained = sym mark.1 ∙ chained;
  done = 0;
  some = omega arith;
  logged = logs_none s;
  next = w;
  is_next = refl;
  need_is = size ∙ mark.0;
  full = full;
}

-- it finds room, or isn't to be appended
pub first_room : (count place prev need : ℕ) (ws : List Span) (log : LogState) → IsFirstMark ws place prev → need ≡ place + 17 → log.full need ≡ false → FindsRoom log (slice_get (take count ws) 0)
first_room count place prev need [] log mark size free = absurd mark
first_room zero place prev need (w ∷ ws) log mark size free = tt
first_room (suc count) place prev need (w ∷ ws) log mark size free = subst (λ n. log.full n ≡ false) (size ∙ mark.0) free

pub no_room : (count : ℕ) (ws : List Span) (log : LogState) → count ≡ 0 → FindsRoom log (slice_get (take count ws) 0)
no_room count ws log none = subst (λ n. FindsRoom log (slice_get (take n ws) 0)) (sym none) tt
