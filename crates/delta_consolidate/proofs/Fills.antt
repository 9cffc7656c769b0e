-- What a chunk holds once all its items were given to it.
use Rattle.std.proofs.Common.{◌≡◌, ℕ, suc, ◌+◌, ◌-◌, ◌<◌, Bool, true, false, cond, nat_lt, nat_le, List, [], ◌∷◌, ◌++◌, length, Option, Some, None, inl, inr, refl, sym, ap, subst, ◌∙◌, arith, append_assoc, append-nil}
use Rattle.std.specs.Prelude.{is_some}
use Rattle.std.proofs.lemmas.Bool.{cases_Bool, lt-ltb, le-ltb, leb-true, leb-false}
use Rattle.bus_types.specs.declared.change.Key.{Key}
use Rattle.bus_types.specs.declared.change.Key.TheVariants.{Long}
use Rattle.bus_types.specs.declared.change.Change.{Change}
use Rattle.bus_types.specs.Change.{change_size, head_size, payload_size}
use Rattle.event_codec.specs.declared.answer.Answer.TheVariants.{TooSmall}
use Rattle.event_codec.specs.declared.reply.Shape.{Shape}
use Rattle.event_codec.specs.Bytes.{event_bytes, changes_bytes}
use Rattle.event_codec.specs.Chunks.{frame_size, items_within, chunk_of}
use Rattle.event_codec.specs.Questions.{Reply}
use Rattle.event_codec.specs.Questions.Reply.{Changes, Only}
use Rattle.event_codec.specs.Forms.{bytes_of, shape_of}
use Rattle.delta_consolidate.specs.Delta.{Appends}
use Rattle.delta_consolidate.specs.Filling.{Filled, empty_in, with_items, needed_by, shape_by, shape_at, tail_of}

-- the size of the first item that doesn't fit
abbrev pub unfit_in : ℕ → List Change → Option ℕ
unfit_in room [] = None
unfit_in room (c ∷ cs) = cond (nat_le (change_size c) room) (unfit_in (room - change_size c) cs) (Some (change_size c))

-- behind a run of items, and an item that didn't fit
record HasRun (scn : ℕ) (before : List ℕ) (n : ℕ) (run : List Change) (u : Option ℕ) (end : Filled) : Type 0 where
  pub bytes : end.bytes ≡ before ++ changes_bytes scn run
  pub count : end.count ≡ n + length run
  pub unfit : end.unfit ≡ u

full_stays : (scn : ℕ) (before : List ℕ) (n r size : ℕ) (cs : List Change) → with_items scn (record { bytes = before; count = n; room = r; unfit = Some size }) cs ≡ record { bytes = before; count = n; room = r; unfit = Some size }
full_stays scn before n r size [] = refl
full_stays scn before n r size (c ∷ cs) = full_stays scn before n r size cs

runs : (scn : ℕ) (cs : List Change) (before : List ℕ) (n r : ℕ) → HasRun scn before n (items_within r cs) (unfit_in r cs) (with_items scn (record { bytes = before; count = n; room = r; unfit = None }) cs)
runs scn [] before n r = record { bytes = sym (append-nil before); count = omega arith; unfit = refl }
runs scn (c ∷ cs) before n r =
    let size = change_size c in
    let event = event_bytes (record { scn = scn; change = c }) in
    let run = items_within (r - size) cs in
    let fuller : Filled = record { bytes = before ++ event; count = n + 1; room = r - size; unfit = None } in
    let full : Filled = record { bytes = before; count = n; room = r; unfit = Some size } in
    elim (nat_le size r) as (λ t. HasRun scn before n (cond t (c ∷ run) []) (cond t (unfit_in (r - size) cs) (Some size)) (with_items scn (cond t fuller full) cs)) [
      | true ↦
          let h = runs scn cs (before ++ event) (n + 1) (r - size) in
          record { bytes = h.bytes ∙ append_assoc before event (changes_bytes scn run); count = omega (arith, h.count); unfit = h.unfit }
      | false ↦
          let s = full_stays scn before n r size cs in
          record { bytes = ap (λ (f : Filled). f.bytes) s ∙ sym (append-nil before); count = omega (arith, ap (λ (f : Filled). f.count) s); unfit = ap (λ (f : Filled). f.unfit) s }
    ]

-- ---- whether an item is left

abbrev IsLeft : Option ℕ → ℕ → ℕ → Type 0
IsLeft None a b = a ≡ b
IsLeft (Some size) a b = a < b

left_more : (u : Option ℕ) (a b : ℕ) → IsLeft u a b → IsLeft u (suc a) (suc b)
left_more None a b h = ap suc h
left_more (Some size) a b h = omega (arith, h)

is_left : (r : ℕ) (cs : List Change) → IsLeft (unfit_in r cs) (length (items_within r cs)) (length cs)
is_left r [] = refl
is_left r (c ∷ cs) =
    let size = change_size c in
    let run = items_within (r - size) cs in
    elim (nat_le size r) as (λ t. IsLeft (cond t (unfit_in (r - size) cs) (Some size)) (length (cond t (c ∷ run) [])) (length (c ∷ cs))) [
      | true ↦ left_more (unfit_in (r - size) cs) (length run) (length cs) (is_left (r - size) cs)
      | false ↦ omega arith
    ]

more_is : (u : Option ℕ) (a b : ℕ) → IsLeft u a b → nat_lt a b ≡ is_some u
more_is None a b h = le-ltb a b (omega (arith, h))
more_is (Some size) a b h = lt-ltb a b h

-- ---- the reply

record IsClosed (scn : ℕ) (reply : Reply) (run : List Change) (s : Shape) : Type 0 where
  pub shape : shape_of reply ≡ s
  pub bytes : bytes_of reply ≡ changes_bytes scn run ++ tail_of scn s

positive : (key : Key) (n : ℕ) → 0 < head_size key + n
positive (Long k) n = omega arith

-- a run of an item and others
some_closed : (scn most : ℕ) (c : Change) (run : List Change) (u : Option ℕ) (more : Bool) → more ≡ is_some u → IsClosed scn (Changes (c ∷ run) scn more) (c ∷ run) (shape_at most (length (c ∷ run)) u)
some_closed scn most c run u more e =
    let n = length (c ∷ run) in
    let s : shape_at most n u ≡ shape_by None n u = ap (λ t. shape_by (cond t None (needed_by most u)) n u) (lt-ltb 0 n (omega arith)) in
    let it : IsClosed scn (Changes (c ∷ run) scn (is_some u)) (c ∷ run) (shape_by None n u) = record { shape = refl; bytes = refl } in
    subst (IsClosed scn (Changes (c ∷ run) scn more) (c ∷ run)) (sym s)
    (subst (λ b. IsClosed scn (Changes (c ∷ run) scn b) (c ∷ run) (shape_by None n u)) (sym e) it)

closed : (scn most : ℕ) (cs : List Change) → IsClosed scn (chunk_of (λ items more. Changes items scn more) most cs) (items_within (most - frame_size) cs) (shape_at most (length (items_within (most - frame_size) cs)) (unfit_in (most - frame_size) cs))
closed scn most [] =
    elim (nat_lt most frame_size) as (λ t. IsClosed scn (cond t (Only (TooSmall frame_size)) (Changes [] scn false)) [] (shape_by (cond t (Some frame_size) None) 0 None)) [
      | true ↦ record { shape = refl; bytes = refl }
      | false ↦ record { shape = refl; bytes = refl }
    ]
closed scn most (c ∷ cs) =
    let size = change_size c in
    let r = most - frame_size in
    let run = items_within (r - size) cs in
    let u = unfit_in (r - size) cs in
    let small : Reply = Only (TooSmall (size + frame_size)) in
    let all = λ (items : List Change). Changes items scn (nat_lt (length items) (length (c ∷ cs))) in
    let whole = λ (t s : Bool). IsClosed scn (cond s small (all (cond t (c ∷ run) []))) (cond t (c ∷ run) []) (shape_at most (length (cond t (c ∷ run) [])) (cond t u (Some size))) in
    elim (cases_Bool (nat_le size r)) [
      | inl fits ↦
          let some : 0 < size = positive c.key (payload_size c.put) in
          let roomy : nat_lt most (size + frame_size) ≡ false = le-ltb most (size + frame_size) (omega (arith, leb-true size r fits, some)) in
          subst (λ t. whole t (nat_lt most (size + frame_size))) (sym fits)
          (subst (λ s. whole true s) (sym roomy) (some_closed scn most c run u _ (more_is u (length (c ∷ run)) (length (c ∷ cs)) (left_more u (length run) (length cs) (is_left (r - size) cs)))))
      | inr large ↦
          let tight : nat_lt most (size + frame_size) ≡ true = lt-ltb most (size + frame_size) (omega (arith, leb-false size r large)) in
          let it : whole false true = record { shape = refl; bytes = refl } in
          subst (λ t. whole t (nat_lt most (size + frame_size))) (sym large) (subst (λ s. whole false s) (sym tight) it)
    ]

-- a chunk that was filled with all items and then closed is the reply
pub appends : (scn most : ℕ) (before : List ℕ) (items : List Change) (end : Filled) (s : Shape) (new : List ℕ)
    → end ≡ with_items scn (empty_in most before) items → s ≡ shape_at most end.count end.unfit → new ≡ end.bytes ++ tail_of scn (shape_at most end.count end.unfit)
    → Appends (chunk_of (λ cs more. Changes cs scn more) most items) s before new
appends scn most before items end s new e told written =
    let run = items_within (most - frame_size) items in
    let u = unfit_in (most - frame_size) items in
    let filled : HasRun scn before 0 run u end = subst (HasRun scn before 0 run u) (sym e) (runs scn items before 0 (most - frame_size)) in
    let n : end.count ≡ length run = omega (arith, filled.count) in
    let shape : shape_at most end.count end.unfit ≡ shape_at most (length run) u = ap (λ m. shape_at most m end.unfit) n ∙ ap (shape_at most (length run)) filled.unfit in
    let reply = closed scn most items in
    record {
      told = told ∙ shape ∙ sym reply.shape;
      bytes =
          written ∙ ap (λ x. end.bytes ++ tail_of scn x) shape ∙ ap (λ b. b ++ tail_of scn (shape_at most (length run) u)) filled.bytes
          ∙ append_assoc before (changes_bytes scn run) (tail_of scn (shape_at most (length run) u)) ∙ ap (λ l. before ++ l) (sym reply.bytes);
    }
