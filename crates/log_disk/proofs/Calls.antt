-- What each call of a disk in memory does.
use Rattle.std.proofs.Common.{◌≡◌, ◌⊎◌, inl, inr, ℕ, ◌+◌, ◌≤◌, ◌<◌, min, Bool, true, false, List, [], ◌∷◌, ◌++◌, length, take, drop, refl, sym, ◌∙◌, ap, subst, arith, length-drop, Some, Result, Ok, Err}
use Rattle.std.proofs.lemmas.List.{take_all, take-append-le, length_push}
use Rattle.std.proofs.lemmas.Bool.Decides.{nat_tests}
use Rattle.bus_types.specs.declared.fault.Failed.{Failed}
use Rattle.bus_types.specs.Causes.{HasCause}
use Rattle.log_disk.specs.Disk.{Only, DiskState, may_leave, Elapses, IsDisk, DiskCall, Follows, Torn, CutAnywhere, Given, Keeps, Writes, Cuts, Syncs}
use Rattle.log_disk.specs.Pending.{MayLeave, Content, lasting, put, Step, after, after_all}
use Rattle.log_disk.specs.Pending.Step.{Wrote, CutTo, Synced}
use Rattle.log_disk.specs.Memory.{exceeds, new_disk, MemoryState, content, LeftSince, clock_of, told_disk, disk_of, IsContent, failed, failed_if, counted, used, stepped, FailsWhere}
use Rattle.log_disk.proofs.Contents.{same_fronts, same_rests, length-put, put_outside, write_follows, cut_follows, lasting_only, write_content, cut_content, sync_content, after_all-push}

-- ---- the clock

abbrev at : List ℕ → List Step → Content
at start steps = after_all steps (lasting start)

pub now_is : (start : List ℕ) (steps : List Step) (c : List ℕ) → may_leave (clock_of start steps) c → MayLeave (at start steps).pending c
now_is start steps c left = subst (λ (ss : List Step). MayLeave (at start ss).pending c) (take_all left.0 steps left.1) left.3

pub is_now : (start : List ℕ) (steps : List Step) (c : List ℕ) → MayLeave (at start steps).pending c → may_leave (clock_of start steps) c
is_now start steps c left = (length steps, omega arith, omega arith, subst (λ (ss : List Step). MayLeave (at start ss).pending c) (sym (take_all (length steps) steps (omega arith))) left)

elapses_same : (start : List ℕ) (steps : List Step) → Elapses (clock_of start steps) (clock_of start steps)
elapses_same start steps = record { later = omega arith; nothing_else = λ t c le left. inl left; keeps = λ t c le left. left }

elapses_step : (start : List ℕ) (steps : List Step) (s : Step) → Elapses (clock_of start steps) (clock_of start (steps ++ s ∷ []))
elapses_step start steps s = record {
  later = omega (arith, length_push steps s);
  nothing_else = λ t c le left. was t c left (cases left.0);
  keeps = λ t c le left. (left.0, left.1, omega (arith, left.2, length_push steps s), subst (λ (ss : List Step). MayLeave (at start ss).pending c) (sym (take-append-le left.0 steps (s ∷ []) left.2)) left.3);
}
  where
    cases : (n : ℕ) → (n ≤ length steps) ⊎ (length steps < n)
    cases n = grind arith

    was : (t : ℕ) (c : List ℕ) (left : LeftSince start (steps ++ s ∷ []) t c) → (left.0 ≤ length steps) ⊎ (length steps < left.0) → LeftSince start steps t c ⊎ may_leave (clock_of start (steps ++ s ∷ [])) c
    was t c left (inl early) = inl (left.0, left.1, early, subst (λ (ss : List Step). MayLeave (at start ss).pending c) (take-append-le left.0 steps (s ∷ []) early) left.3)
    was t c left (inr late) = inr (left.0, omega (arith, late, length_push steps s), left.2, left.3)

is_disk : (start : List ℕ) (steps : List Step) (faults : ℕ) → IsContent (at start steps) → IsDisk (told_disk start steps faults)
is_disk start steps faults whole = record {
  since = λ t c le left. (left.0, omega (arith, le, left.1), left.2, left.3);
  seen = is_now start steps _ whole.read;
}

-- ---- calls that change nothing

keeps : {X : Type 0} (start : List ℕ) (steps : List Step) (f g : ℕ) (result : Result X Failed) → IsContent (at start steps) → HasCause f g result → Keeps (told_disk start steps f) (told_disk start steps g) result
keeps start steps f g result whole cause = record {
  call = record { time = elapses_same start steps; cause = cause; disk = is_disk start steps g whole };
  crash = λ c left. left;
  seen = refl;
}

-- ---- a call that was counted fails where it was listed

pub same_start : (listed : Bool) (s : MemoryState) → (failed_if listed s).start ≡ s.start
same_start true s = refl
same_start false s = refl

pub same_steps : (listed : Bool) (s : MemoryState) → (failed_if listed s).steps ≡ s.steps
same_steps true s = refl
same_steps false s = refl

-- the cause of a refusal
pub refusal : {X : Type 0} (f : ℕ) (e : Failed) → f ≤ f + 1 → HasCause {T = X} {E = Failed} f (f + 1) (Err e)
refusal f e later = record { later = later; failed = omega arith }

pub answer_cause : {X : Type 0} (listed : Bool) (s : MemoryState) (result : Result X Failed) → FailsWhere listed result → s.faults ≤ (failed_if listed s).faults → HasCause s.faults (failed_if listed s).faults result
answer_cause true s (Ok x) fails later = absurd (cc fails)
answer_cause true s (Err e) fails later = refusal s.faults e later
answer_cause false s (Ok x) fails later = record { later = later; failed = tt }
answer_cause false s (Err e) fails later = absurd (cc fails)

-- ---- the disk after a call

-- nothing was changed
pub still : {X : Type 0} (s t : MemoryState) (result : Result X Failed) → IsContent (content s) → t.start ≡ s.start → t.steps ≡ s.steps → HasCause s.faults t.faults result → Keeps (disk_of s) (disk_of t) result
still s t result whole start steps cause =
    subst (λ (b : List ℕ). Keeps (disk_of s) (told_disk b t.steps t.faults) result) (sym start)
    (subst (λ (ss : List Step). Keeps (disk_of s) (told_disk s.start ss t.faults) result) (sym steps) (keeps s.start s.steps s.faults t.faults result whole cause))

torn_same : (place size : ℕ) (c : List ℕ) → Torn place size c c
torn_same place size c = record { before = refl; after = refl; no_shorter = omega arith; no_longer = omega arith }

uncut : (size : ℕ) (c : List ℕ) → CutAnywhere size c c
uncut size c = record { no_shorter = omega arith; front = take_all (length c) c (omega arith) }

-- a write was refused
pub write_refused : (place : ℕ) (text : List ℕ) (s : MemoryState) (e : Failed) → IsContent (content s) → s.faults ≤ s.faults + 1 → Writes place text (disk_of s) (disk_of (failed s)) (Err e)
write_refused place text s e whole later = record {
  call = record { time = elapses_same s.start s.steps; cause = refusal s.faults e later; disk = is_disk s.start s.steps (s.faults + 1) whole };
  crash = λ c left. (c, left, torn_same place (length text) c);
  seen = torn_same place (length text) (content s).bytes;
}

pub cut_refused : (size : ℕ) (s : MemoryState) (e : Failed) → IsContent (content s) → s.faults ≤ s.faults + 1 → Cuts size (disk_of s) (disk_of (failed s)) (Err e)
cut_refused size s e whole later = record {
  call = record { time = elapses_same s.start s.steps; cause = refusal s.faults e later; disk = is_disk s.start s.steps (s.faults + 1) whole };
  crash = λ c left. (c, left, uncut size c);
  seen = inr refl;
}

-- a text that was put is among what a torn write leaves
put_torn : (place : ℕ) (text old : List ℕ) → place ≤ length old → Torn place (length text) old (put place text old)
put_torn place text old fits = record {
  before = same_fronts place (put place text old) old (omega (arith, length-put place text old fits)) (λ i low lt lt'. put_outside place text old i fits (inl low));
  after = same_rests (place + length text) (put place text old) old (omega (arith, length-put place text old fits)) (λ i high lt lt'. put_outside place text old i fits (inr high));
  no_shorter = omega (arith, length-put place text old fits);
  no_longer = omega (arith, length-put place text old fits);
}

module _ (start : List ℕ) (steps : List Step) (whole : IsContent (at start steps)) where
  pushed : (s : Step) → at start (steps ++ s ∷ []) ≡ after s (at start steps)
  pushed s = after_all-push steps s (lasting start)

  call : {X : Type 0} (s : Step) (f g : ℕ) (result : Result X Failed) → IsContent (after s (at start steps)) → HasCause f g result → DiskCall (told_disk start steps f) (told_disk start (steps ++ s ∷ []) g) result
  call s f g result kept cause = record {
    time = elapses_step start steps s;
    cause = cause;
    disk = is_disk start (steps ++ s ∷ []) g (subst IsContent (sym (pushed s)) kept);
  }

  -- what a crash may leave now is of what it might have left before the step
  follows : (relation : List ℕ → List ℕ → Type 0) (s : Step) → Follows relation (MayLeave (at start steps).pending) (MayLeave (after s (at start steps)).pending)
      → Follows relation (may_leave (clock_of start steps)) (may_leave (clock_of start (steps ++ s ∷ [])))
  follows relation s steps_so c left =
      let found = steps_so c (subst (λ (x : Content). MayLeave x.pending c) (pushed s) (now_is start (steps ++ s ∷ []) c left)) in
      (found.0, is_now start steps found.0 found.1, found.2)

  seen_is : (s : Step) → (at start (steps ++ s ∷ [])).bytes ≡ (after s (at start steps)).bytes
  seen_is s = ap (λ (x : Content). x.bytes) (pushed s)

  written_ok : (place : ℕ) (text : List ℕ) (f g : ℕ) (x : Unit {0}) → place ≤ length (at start steps).bytes → HasCause {T = Unit} {E = Failed} f g (Ok x) → Writes place text (told_disk start steps f) (told_disk start (steps ++ Wrote place text ∷ []) g) (Ok x)
  unfolding after
  written_ok place text f g x fits cause = record {
    call = call (Wrote place text) f g _ (write_content place text (at start steps) whole fits) cause;
    crash = follows (Torn place (length text)) (Wrote place text) (write_follows place text (at start steps) whole fits);
    seen = seen_is (Wrote place text);
  }

  written_err : (place : ℕ) (text : List ℕ) (f g : ℕ) (e : Failed) → place ≤ length (at start steps).bytes → HasCause {T = Unit} {E = Failed} f g (Err e) → Writes place text (told_disk start steps f) (told_disk start (steps ++ Wrote place text ∷ []) g) (Err e)
  unfolding after
  written_err place text f g e fits cause = record {
    call = call (Wrote place text) f g _ (write_content place text (at start steps) whole fits) cause;
    crash = follows (Torn place (length text)) (Wrote place text) (write_follows place text (at start steps) whole fits);
    seen = subst (Torn place (length text) (at start steps).bytes) (sym (seen_is (Wrote place text))) (put_torn place text (at start steps).bytes fits);
  }

  cut_ok : (size : ℕ) (f g : ℕ) (x : Unit {0}) → size ≤ length (at start steps).bytes → HasCause {T = Unit} {E = Failed} f g (Ok x) → Cuts size (told_disk start steps f) (told_disk start (steps ++ CutTo size ∷ []) g) (Ok x)
  unfolding after
  cut_ok size f g x fits cause = record {
    call = call (CutTo size) f g _ (cut_content size (at start steps) whole fits) cause;
    crash = follows (CutAnywhere size) (CutTo size) (cut_follows size (at start steps) whole);
    seen = seen_is (CutTo size);
  }

  cut_err : (size : ℕ) (f g : ℕ) (e : Failed) → size ≤ length (at start steps).bytes → HasCause {T = Unit} {E = Failed} f g (Err e) → Cuts size (told_disk start steps f) (told_disk start (steps ++ CutTo size ∷ []) g) (Err e)
  unfolding after
  cut_err size f g e fits cause = record {
    call = call (CutTo size) f g _ (cut_content size (at start steps) whole fits) cause;
    crash = follows (CutAnywhere size) (CutTo size) (cut_follows size (at start steps) whole);
    seen = inl (seen_is (CutTo size));
  }

  synced_ok : (f g : ℕ) (x : Unit {0}) → HasCause {T = Unit} {E = Failed} f g (Ok x) → Syncs (told_disk start steps f) (told_disk start (steps ++ Synced ∷ []) g) (Ok x)
  unfolding after
  synced_ok f g x cause = record {
    keeps = record {
      call = call Synced f g _ (sync_content (at start steps)) cause;
      crash = λ c left. is_now start steps c (subst (MayLeave (at start steps).pending) (sym (only c left)) whole.read);
      seen = ap Some (seen_is Synced);
    };
    lasting = only;
  }
    where
      only : (c : List ℕ) → may_leave (clock_of start (steps ++ Synced ∷ [])) c → c ≡ (at start steps).bytes
      only c left = lasting_only (at start steps).bytes c (subst (λ (x : Content). MayLeave x.pending c) (pushed Synced) (now_is start (steps ++ Synced ∷ []) c left))

-- ---- the same, of a call that fails where it was listed

kept_cause : (f : ℕ) (x : Unit {0}) → HasCause {T = Unit} {E = Failed} f f (Ok x)
kept_cause f x = record { later = omega arith; failed = tt }

pub writes : (listed : Bool) (place : ℕ) (text : List ℕ) (s : MemoryState) (result : Result Unit Failed) → IsContent (content s) → place ≤ length (content s).bytes → FailsWhere listed result
    → s.faults ≤ (failed_if listed (stepped (Wrote place text) (used (length text) (counted s)))).faults → Writes place text (disk_of s) (disk_of (failed_if listed (stepped (Wrote place text) (used (length text) (counted s))))) result
writes true place text s (Ok x) whole fits fails later = absurd (cc fails)
writes true place text s (Err e) whole fits fails later = written_err s.start s.steps whole place text s.faults (s.faults + 1) e fits (refusal s.faults e later)
writes false place text s (Ok x) whole fits fails later = written_ok s.start s.steps whole place text s.faults s.faults x fits (kept_cause s.faults x)
writes false place text s (Err e) whole fits fails later = absurd (cc fails)

pub cuts : (listed : Bool) (size : ℕ) (s : MemoryState) (result : Result Unit Failed) → IsContent (content s) → size ≤ length (content s).bytes → FailsWhere listed result
    → s.faults ≤ (failed_if listed (stepped (CutTo size) (counted s))).faults → Cuts size (disk_of s) (disk_of (failed_if listed (stepped (CutTo size) (counted s)))) result
cuts true size s (Ok x) whole fits fails later = absurd (cc fails)
cuts true size s (Err e) whole fits fails later = cut_err s.start s.steps whole size s.faults (s.faults + 1) e fits (refusal s.faults e later)
cuts false size s (Ok x) whole fits fails later = cut_ok s.start s.steps whole size s.faults s.faults x fits (kept_cause s.faults x)
cuts false size s (Err e) whole fits fails later = absurd (cc fails)

pub sync_refused : (s : MemoryState) (e : Failed) → IsContent (content s) → s.faults ≤ s.faults + 1 → Syncs (disk_of s) (disk_of (failed s)) (Err e)
sync_refused s e whole later = record { keeps = keeps s.start s.steps s.faults (s.faults + 1) _ whole (refusal s.faults e later); lasting = tt }

pub syncs : (s : MemoryState) (x : Unit {0}) → IsContent (content s) → Syncs (disk_of s) (disk_of (stepped Synced (counted s))) (Ok x)
syncs s x whole = synced_ok s.start s.steps whole s.faults s.faults x (kept_cause s.faults x)

-- a call that exceeds nothing
pub has_room : (size : ℕ) (s : MemoryState) → exceeds size s ≡ false → (size ≤ s.room) × (0 < s.calls)
has_room size s fits = (grind (arith, nat_tests), grind (arith, nat_tests))

-- ---- the same, by what each step of a call says of the disk

abbrev Now : MemoryState → MemoryState → Type 0
Now t s = t ≡ s

module _ (s new : MemoryState) (whole : IsContent (content s)) where
  faults_of : (t : MemoryState) → new ≡ t → s.faults ≤ new.faults → s.faults ≤ t.faults
  faults_of t is later = subst (λ (x : MemoryState). s.faults ≤ x.faults) is later

  pub refused_write : (place : ℕ) (text : List ℕ) (e : Failed) → new ≡ failed s → s.faults ≤ new.faults → Writes place text (disk_of s) (disk_of new) (Err e)
  refused_write place text e is later = subst (λ (x : MemoryState). Writes place text (disk_of s) (disk_of x) (Err e)) (sym is) (write_refused place text s e whole (faults_of (failed s) is later))

  pub refused_cut : (size : ℕ) (e : Failed) → new ≡ failed s → s.faults ≤ new.faults → Cuts size (disk_of s) (disk_of new) (Err e)
  refused_cut size e is later = subst (λ (x : MemoryState). Cuts size (disk_of s) (disk_of x) (Err e)) (sym is) (cut_refused size s e whole (faults_of (failed s) is later))

  pub refused : {X : Type 0} (e : Failed) → new ≡ failed s → s.faults ≤ new.faults → Keeps {X = X} (disk_of s) (disk_of new) (Err e)
  refused {X = X} e is later = subst (λ (x : MemoryState). Keeps {X = X} (disk_of s) (disk_of x) (Err e)) (sym is) (keeps s.start s.steps s.faults (s.faults + 1) (Err e) whole (refusal s.faults e (faults_of (failed s) is later)))

  module _ (mid : MemoryState) (listed : Bool) where
    pub made_write : (place : ℕ) (text : List ℕ) (result : Result Unit Failed) → place ≤ length (content s).bytes → mid ≡ stepped (Wrote place text) (used (length text) (counted s)) → new ≡ failed_if listed mid
        → mid.faults ≤ new.faults → FailsWhere listed result → Writes place text (disk_of s) (disk_of new) result
    made_write place text result fits made is later fails =
        let whole_step = is ∙ ap (λ (x : MemoryState). failed_if listed x) made in
        let same = ap (λ (x : MemoryState). x.faults) made in
        subst (λ (x : MemoryState). Writes place text (disk_of s) (disk_of x) result) (sym whole_step)
        (writes listed place text s result whole fits fails (faults_of _ whole_step (omega (arith, later, same))))

    pub made_cut : (size : ℕ) (result : Result Unit Failed) → size ≤ length (content s).bytes → mid ≡ stepped (CutTo size) (counted s) → new ≡ failed_if listed mid
        → mid.faults ≤ new.faults → FailsWhere listed result → Cuts size (disk_of s) (disk_of new) result
    made_cut size result fits made is later fails =
        let whole_step = is ∙ ap (λ (x : MemoryState). failed_if listed x) made in
        let same = ap (λ (x : MemoryState). x.faults) made in
        subst (λ (x : MemoryState). Cuts size (disk_of s) (disk_of x) result) (sym whole_step)
        (cuts listed size s result whole fits fails (faults_of _ whole_step (omega (arith, later, same))))

    -- nothing was changed but counts
    pub asked : {X : Type 0} (result : Result X Failed) → mid ≡ counted s → new ≡ failed_if listed mid → mid.faults ≤ new.faults → FailsWhere listed result → Keeps (disk_of s) (disk_of new) result
    asked {X = X} result made is later fails =
        let whole_step = is ∙ ap (λ (x : MemoryState). failed_if listed x) made in
        let same = ap (λ (x : MemoryState). x.faults) made in
        subst (λ (x : MemoryState). Keeps {X = X} (disk_of s) (disk_of x) result) (sym whole_step)
        (still s (failed_if listed (counted s)) result whole (same_start listed (counted s)) (same_steps listed (counted s))
        (answer_cause listed (counted s) result fails (faults_of _ whole_step (omega (arith, later, same)))))

  pub made_sync : (x : Unit {0}) → new ≡ stepped Synced (counted s) → Syncs (disk_of s) (disk_of new) (Ok x)
  made_sync x is = subst (λ (n : MemoryState). Syncs (disk_of s) (disk_of n) (Ok x)) (sym is) (syncs s x whole)

pub same_content : (listed : Bool) (s mid new : MemoryState) → mid ≡ counted s → new ≡ failed_if listed mid → content new ≡ content s
same_content true s mid new made is = ap content (is ∙ ap failed made)
same_content false s mid new made is = ap content (is ∙ made)

-- the same call, with another answer
pub kept_ok : {X Y : Type 0} (old new : DiskState) (x : X) (y : Y) → Keeps old new (Ok x) → Keeps old new (Ok y)
kept_ok old new x y keeps_so = record {
  call = record { time = keeps_so.call.time; cause = record { later = keeps_so.call.cause.later; failed = tt }; disk = keeps_so.call.disk };
  crash = keeps_so.crash;
  seen = keeps_so.seen;
}

pub kept_err : {X Y : Type 0} (old new : DiskState) (e : Failed) → Keeps {X = X} old new (Err e) → Keeps {X = Y} old new (Err e)
kept_err old new e keeps_so = record {
  call = record { time = keeps_so.call.time; cause = record { later = keeps_so.call.cause.later; failed = keeps_so.call.cause.failed }; disk = keeps_so.call.disk };
  crash = keeps_so.crash;
  seen = keeps_so.seen;
}

-- what is given of bytes from a place on
pub given_front : (place count : ℕ) (bytes buffer new : List ℕ) → count ≡ min (length buffer) (length (drop place bytes)) → take count new ≡ take count (drop place bytes) → length new ≡ length buffer → Given place count bytes new
given_front place count bytes buffer new is same long = record {
  same = same;
  within = omega (arith, is, length-drop place bytes);
  some = λ lt room. omega (arith, is, lt, room, long, length-drop place bytes);
}

-- a new disk
pub new_lasting : (s : MemoryState) (bytes : List ℕ) (room calls : ℕ) (fails : List ℕ) → s ≡ new_disk bytes room calls fails → Only bytes (may_leave (disk_of s).clock)
new_lasting s bytes room calls fails is = subst (λ (x : MemoryState). Only bytes (may_leave (disk_of x).clock)) (sym is) (λ c left. lasting_only bytes c (now_is bytes [] c left))
