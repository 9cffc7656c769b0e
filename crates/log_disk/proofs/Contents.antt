-- What is pending after each call, and what a crash may leave of it.
use Rattle.std.proofs.Common.{◌≡◌, ◌⊎◌, inl, inr, ⊎_elim, ℕ, cond, map, ◌+◌, ◌-◌, ◌<◌, ◌≤◌, min, max, Bool, true, false, ◌||◌, nat_lt, List, [], ◌∷◌, ◌++◌, length, get_or, take, drop, refl, sym, ◌∙◌, arith, length-append, length-drop}
use Rattle.std.proofs.lemmas.Bool.Decides.{nat_tests}
use Rattle.std.proofs.lemmas.List.{places, ext_get_or, length-take, get_or-take, get_or-drop, take_all}
use Rattle.std.specs.List.{range_with_len}
use Rattle.std.proofs.lemmas.List.FromFn.{length-map-range_with_len, get_or-map-range_with_len}
use Rattle.std.proofs.lemmas.List.Folds.{list_any-append}
use Rattle.log_disk.specs.declared.memory.Range.{Range}
use Rattle.log_disk.specs.Disk.{Follows, Torn, CutAnywhere, Only}
use Rattle.log_disk.specs.Pending.{is_in, is_written, Pending, MayLeave, Content, lasting, put, Step, after, after_all}
use Rattle.log_disk.specs.Pending.Step.{Wrote, CutTo, Synced}
use Rattle.log_disk.specs.declared.memory.Pick.{Pick}
use Rattle.log_disk.specs.declared.memory.Pick.TheVariants as picks
use Rattle.log_disk.specs.Memory.{IsContent, filled_at, picked}

-- ---- ranges

none_of_two : (a b : Bool) → (a || (b || false)) ≡ false → (a ≡ false) × (b ≡ false)
none_of_two false false absent = (refl, refl)
none_of_two false true absent = absurd (cc absent)
none_of_two true b absent = absurd (cc absent)

neither : (a b : Bool) → a ≡ false → b ≡ false → (a || (b || false)) ≡ false
neither a b absent none = grind arith

-- a place that isn't written after one range more was not written before, and is not in the range
pub unwritten : (ranges : List Range) (r : Range) (i : ℕ) → is_written (ranges ++ r ∷ []) i ≡ false → (is_written ranges i ≡ false) × (is_in i r ≡ false)
unwritten ranges r i absent = none_of_two (is_written ranges i) (is_in i r) (sym (list_any-append (is_in i) ranges (r ∷ [])) ∙ absent)

pub still_unwritten : (ranges : List Range) (r : Range) (i : ℕ) → is_written ranges i ≡ false → is_in i r ≡ false → is_written (ranges ++ r ∷ []) i ≡ false
still_unwritten ranges r i absent out = list_any-append (is_in i) ranges (r ∷ []) ∙ neither _ _ absent out

pub out_of : (place size i : ℕ) → is_in i (record { place = place; size = size }) ≡ false → (i < place) ⊎ (place + size ≤ i)
out_of place size i absent = grind (arith, nat_tests)

pub outside : (place size i : ℕ) → (i < place) ⊎ (place + size ≤ i) → is_in i (record { place = place; size = size }) ≡ false
outside place size i (inl low) = grind (arith, nat_tests)
outside place size i (inr high) = grind (arith, nat_tests)

-- ---- a text that was put

pub length-put : (place : ℕ) (text old : List ℕ) → place ≤ length old → length (put place text old) ≡ max (length old) (place + length text)
length-put place text old fits = omega (arith, length-append (take place old ++ text) (drop (place + length text) old), length-append (take place old) text, length-take place old, length-drop (place + length text) old)

pub put_outside : (place : ℕ) (text old : List ℕ) (i : ℕ) → place ≤ length old → (i < place) ⊎ (place + length text ≤ i) → get_or (put place text old) i 0 ≡ get_or old i 0
put_outside place text old i fits (inl low) = grind (arith, places)
put_outside place text old i fits (inr high) = grind (arith, places)

-- ---- bytes by index

abbrev by_index : (ℕ → ℕ) → ℕ → List ℕ
by_index f n = map f (range_with_len 0 n)

length-by_index : (f : ℕ → ℕ) (n : ℕ) → length (by_index f n) ≡ n
length-by_index f n = length-map-range_with_len f 0 n

at_index : (f : ℕ → ℕ) (n i : ℕ) → i < n → get_or (by_index f n) i 0 ≡ f i
at_index f n i lt = get_or-map-range_with_len f 0 n i i 0 lt (omega arith)

at_true : (b : Bool) (x y : ℕ) → b ≡ true → cond b x y ≡ x
at_true b x y is = rw is refl

at_false : (b : Bool) (x y : ℕ) → b ≡ false → cond b x y ≡ y
at_false b x y is = rw is refl

-- fronts that are alike at each place
pub same_fronts : (n : ℕ) (xs ys : List ℕ) → min n (length xs) ≡ min n (length ys) → ((i : ℕ) → i < n → i < length xs → i < length ys → get_or xs i 0 ≡ get_or ys i 0) → take n xs ≡ take n ys
same_fronts n xs ys same at = ext_get_or 0 (take n xs) (take n ys) (length-take n xs ∙ same ∙ sym (length-take n ys))
    (λ i lt. get_or-take n xs i 0 (omega (arith, lt, length-take n xs)) ∙ at i (omega (arith, lt, length-take n xs)) (omega (arith, lt, length-take n xs)) (omega (arith, lt, same, length-take n xs)) ∙ sym (get_or-take n ys i 0 (omega (arith, lt, length-take n xs))))

pub same_rests : (n : ℕ) (xs ys : List ℕ) → length xs - n ≡ length ys - n → ((i : ℕ) → n ≤ i → i < length xs → i < length ys → get_or xs i 0 ≡ get_or ys i 0) → drop n xs ≡ drop n ys
same_rests n xs ys same at = ext_get_or 0 (drop n xs) (drop n ys) (length-drop n xs ∙ same ∙ sym (length-drop n ys))
    (λ i lt. get_or-drop n xs i 0 ∙ at (n + i) (omega arith) (omega (arith, lt, length-drop n xs)) (omega (arith, lt, same, length-drop n xs)) ∙ sym (get_or-drop n ys i 0))

-- ---- what a write and a cut may leave

module _ (p : Pending) (bound : p.least ≤ p.greatest) where
  module _ (place size : ℕ) (fits : place ≤ p.greatest) (e : List ℕ) where
    abbrev range : Range
    range = record { place = place; size = size }

    abbrev wider : Pending
    wider = record p { greatest = max p.greatest (place + size); written = p.written ++ range ∷ [] }

    abbrev at : ℕ → ℕ
    at i = cond (is_in i range) (get_or p.base i 0) (get_or e i 0)

    abbrev m : ℕ
    m = min (length e) p.greatest

    abbrev d : List ℕ
    d = by_index at m

    d_size : length d ≡ m
    d_size = length-by_index at m

    d_out : (i : ℕ) → i < m → (i < place) ⊎ (place + size ≤ i) → get_or d i 0 ≡ get_or e i 0
    d_out i lt out = at_index at m i lt ∙ at_false _ _ _ (outside place size i out)

    was_left : MayLeave wider e → MayLeave p d
    was_left left = record {
      no_shorter = omega (arith, d_size, left.no_shorter);
      no_longer = omega (arith, d_size);
      stays = λ i lt has absent. ⊎_elim
          (λ inside. at_index at m i (omega (arith, d_size, lt)) ∙ at_true _ _ _ inside)
          (λ out. at_index at m i (omega (arith, d_size, lt)) ∙ at_false _ _ _ out
          ∙ left.stays i (omega (arith, d_size, lt)) has (still_unwritten p.written range i absent out))
          (cases (is_in i range));
    }
      where
        cases : (b : Bool) → (b ≡ true) ⊎ (b ≡ false)
        cases true = inl refl
        cases false = inr refl

    is_torn : MayLeave wider e → Torn place size d e
    is_torn left = record {
      before = same_fronts place e d (omega (arith, d_size)) (λ i low lt lt'. sym (d_out i (omega (arith, d_size, lt')) (inl low)));
      after = same_rests (place + size) e d (omega (arith, d_size, left.no_longer)) (λ i high lt lt'. sym (d_out i (omega (arith, d_size, lt')) (inr high)));
      no_shorter = omega (arith, d_size);
      no_longer = omega (arith, d_size, left.no_longer);
    }

  module _ (size : ℕ) (e : List ℕ) where
    abbrev shorter : Pending
    shorter = record p { least = min p.least size }

    abbrev at' : ℕ → ℕ
    at' i = cond (nat_lt i (length e)) (get_or e i 0) (get_or p.base i 0)

    abbrev m' : ℕ
    m' = max (length e) p.least

    abbrev d' : List ℕ
    d' = by_index at' m'

    d'_size : length d' ≡ m'
    d'_size = length-by_index at' m'

    low_at : (i : ℕ) → i < length e → at' i ≡ get_or e i 0
    low_at i lt = grind (arith, nat_tests)

    high_at : (i : ℕ) → length e ≤ i → at' i ≡ get_or p.base i 0
    high_at i le = grind (arith, nat_tests)

    was_left' : MayLeave shorter e → MayLeave p d'
    was_left' left = record {
      no_shorter = omega (arith, d'_size);
      no_longer = omega (arith, d'_size, left.no_longer);
      stays = λ i lt has absent. ⊎_elim
          (λ low. at_index at' m' i (omega (arith, d'_size, lt)) ∙ low_at i low ∙ left.stays i low has absent)
          (λ high. at_index at' m' i (omega (arith, d'_size, lt)) ∙ high_at i high)
          (cases i);
    }
      where
        cases : (i : ℕ) → (i < length e) ⊎ (length e ≤ i)
        cases i = grind (arith, nat_tests)

    is_cut : MayLeave shorter e → CutAnywhere size d' e
    is_cut left = record {
      no_shorter = omega (arith, d'_size, left.no_shorter);
      front = same_fronts (length e) d' e (omega (arith, d'_size)) (λ i low lt lt'. at_index at' m' i (omega (arith, d'_size, lt)) ∙ low_at i low) ∙ take_all (length e) e (omega arith);
    }

-- ---- each call

pub write_follows : (place : ℕ) (text : List ℕ) (c : Content) → IsContent c → place ≤ length c.bytes
    → Follows (Torn place (length text)) (MayLeave c.pending) (MayLeave (after (Wrote place text) c).pending)
unfolding after
write_follows place text c whole fits e left =
    let bound : c.pending.least ≤ c.pending.greatest = omega (arith, whole.least, whole.greatest) in
    let reach : place ≤ c.pending.greatest = omega (arith, fits, whole.read.no_longer) in
    (d c.pending bound place (length text) reach e, was_left c.pending bound place (length text) reach e left, is_torn c.pending bound place (length text) reach e left)

pub cut_follows : (size : ℕ) (c : Content) → IsContent c → Follows (CutAnywhere size) (MayLeave c.pending) (MayLeave (after (CutTo size) c).pending)
unfolding after
cut_follows size c whole e left =
    let bound : c.pending.least ≤ c.pending.greatest = omega (arith, whole.least, whole.greatest) in
    (d' c.pending bound size e, was_left' c.pending bound size e left, is_cut c.pending bound size e left)

pub lasting_only : (bytes : List ℕ) → Only bytes (MayLeave (lasting bytes).pending)
lasting_only bytes e left = ext_get_or 0 e bytes (omega (arith, left.no_shorter, left.no_longer)) (λ i lt. left.stays i lt (omega (arith, lt, left.no_longer)) refl)

pub lasting_content : (bytes : List ℕ) → IsContent (lasting bytes)
lasting_content bytes = record { least = omega arith; greatest = omega arith; read = record { no_shorter = omega arith; no_longer = omega arith; stays = λ i lt has absent. refl } }

pub write_content : (place : ℕ) (text : List ℕ) (c : Content) → IsContent c → place ≤ length c.bytes → IsContent (after (Wrote place text) c)
unfolding after
write_content place text c whole fits = record {
  least = whole.least;
  greatest = omega (arith, whole.greatest);
  read = record {
    no_shorter = omega (arith, length-put place text c.bytes fits, whole.read.no_shorter);
    no_longer = omega (arith, length-put place text c.bytes fits, whole.read.no_longer);
    stays = λ i lt has absent.
        let parts = unwritten c.pending.written (record { place = place; size = length text }) i absent in
        let out = out_of place (length text) i parts.1 in
        put_outside place text c.bytes i fits out ∙ whole.read.stays i (still_there i lt out) has parts.0;
  };
}
  where
    still_there : (i : ℕ) → i < length (put place text c.bytes) → (i < place) ⊎ (place + length text ≤ i) → i < length c.bytes
    still_there i lt (inl low) = omega (arith, fits, low)
    still_there i lt (inr high) = omega (arith, high, lt, length-put place text c.bytes fits)

pub cut_content : (size : ℕ) (c : Content) → IsContent c → size ≤ length c.bytes → IsContent (after (CutTo size) c)
unfolding after
cut_content size c whole fits = record {
  least = omega (arith, whole.least);
  greatest = whole.greatest;
  read = record {
    no_shorter = omega (arith, length-take size c.bytes, whole.read.no_shorter);
    no_longer = omega (arith, length-take size c.bytes, whole.read.no_longer);
    stays = λ i lt has absent. get_or-take size c.bytes i 0 (omega (arith, lt, length-take size c.bytes)) ∙ whole.read.stays i (omega (arith, lt, length-take size c.bytes)) has absent;
  };
}

pub sync_content : (c : Content) → IsContent (after Synced c)
unfolding after
sync_content c = lasting_content c.bytes

pub after_all-push : (steps : List Step) (s : Step) (c : Content) → after_all (steps ++ s ∷ []) c ≡ after s (after_all steps c)
after_all-push [] s c = refl
after_all-push (x ∷ steps) s c = after_all-push steps s (after x c)

-- ---- what a crash is told to leave

pub picked_left : (pick : Pick) (c : Content) → IsContent c → MayLeave c.pending (picked pick c)
picked_left picks.Synced c whole = record { no_shorter = whole.least; no_longer = whole.greatest; stays = λ i lt has absent. refl }
picked_left picks.Read c whole = whole.read
picked_left (picks.Fill byte) c whole =
    let n = length c.bytes in
    let f = filled_at c.pending.written byte c.bytes in
    record {
      no_shorter = omega (arith, whole.read.no_shorter, length-by_index f n);
      no_longer = omega (arith, whole.read.no_longer, length-by_index f n);
      stays = λ i lt has absent.
          at_index f n i (omega (arith, lt, length-by_index f n)) ∙ at_false _ _ _ absent
          ∙ whole.read.stays i (omega (arith, lt, length-by_index f n)) has absent;
    }
