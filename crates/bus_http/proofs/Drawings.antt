-- Bytes that are drawn from a source.
use Rattle.std.proofs.Common.{◌≡◌, ℕ, ◌+◌, ◌≤◌, List, [], ◌++◌, length, take, drop, Option, Some, None, refl, sym, ap, ◌∙◌, append_assoc, append-nil, arith}
use Rattle.std.proofs.Common.{◌-◌, length-drop, length-take-le}
use lib.Seq.{paste}
use borrow.Rule.Slice.PartMut.{put_mid}
use Rattle.std.proofs.lemmas.List.{drop-take, take-take}
use Rattle.std.proofs.lemmas.List.Edits.{take-paste}
use Rattle.std.proofs.lemmas.Slice.{take-put_mid, take-put_mid_below}
use Rattle.std.proofs.Math.Seq.{take-append-add}
use Rattle.std.proofs.KnownBytes.{Appends-trans, Consumes-trans}
use Rattle.std.specs.Io.KnownBytes.{Keeps, Consumes, Appends}
use Rattle.bus_http.specs.Inbox.{Draws, Drew}

kept_left : (a b : Option (List ℕ)) → Keeps a b → Consumes a b []
kept_left None b k = tt
kept_left (Some x) None k = absurd k
kept_left (Some x) (Some y) k = sym k

kept_given : (a b : Option (List ℕ)) → Keeps a b → Appends a b []
kept_given None b k = tt
kept_given (Some x) None k = absurd k
kept_given (Some x) (Some y) k = k ∙ sym (append-nil x)

-- a read that failed draws nothing
pub draws_none : (l m g h : Option (List ℕ)) (held : List ℕ) → Keeps l m → Keeps g h → Draws l m g h held held
draws_none l m g h held kl kg = record { came = []; held = sym (append-nil held); left = kept_left l m kl; given = kept_given g h kg }

-- a further one
pub draws_more : (l m n g h i : Option (List ℕ)) (a b c : List ℕ) → Draws l m g h a b → Draws m n h i b c → Draws l n g i a c
draws_more l m n g h i a b c p q = record {
  came = p.came ++ q.came;
  held = q.held ∙ ap (λ (x : List ℕ). x ++ q.came) p.held ∙ append_assoc a p.came q.came;
  left = Consumes-trans l m n p.came q.came p.left q.left;
  given = Appends-trans g h i p.came q.came p.given q.given;
}

-- nothing was read
pub draws_start : (l g : Option (List ℕ)) (held : List ℕ) → Draws l l g g held held
draws_start l g held = draws_none l l g g held (keeps l) (keeps g)
  where
    keeps : (o : Option (List ℕ)) → Keeps o o
    keeps None = tt
    keeps (Some x) = refl

-- ---- in a slice

-- what stood between two places, moved to the front
pub shifted : (all new : List ℕ) (start end : ℕ) → start ≤ end → end ≤ length all → new ≡ paste all 0 (drop start all) (end - start) → take (end - start) new ≡ drop start (take end all)
shifted all new start end ordered within copied =
    let same : end - start ≡ 0 + (end - start) = omega arith in
    let whole : start + (end - start) ≡ end = omega arith in
    ap (take (end - start)) copied ∙ ap (λ k. take k (paste all 0 (drop start all) (end - start))) same
    ∙ take-paste all 0 (drop start all) (end - start) (omega arith) (omega (arith, length-drop start all))
    ∙ sym (drop-take start (end - start) all) ∙ ap (λ k. drop start (take k all)) whole

front_and : (used count k : ℕ) (room buf : List ℕ) → used ≤ length room → count ≤ length buf → take (used + count) (put_mid used k room buf) ≡ take used room ++ take count buf
front_and used count k room buf le fits =
    sym (take-take (used + count) (used + length buf) (put_mid used k room buf) (omega arith))
    ∙ ap (take (used + count)) (take-put_mid used k room buf (used + length buf) refl le)
    ∙ ap (λ n. take (n + count) (take used room ++ buf)) (sym (length-take-le used room le))
    ∙ take-append-add (take used room) buf count

-- a read behind so many bytes
pub draws_behind : (l m g h : Option (List ℕ)) (used count k : ℕ) (room buf : List ℕ) → used ≤ length room → count ≤ length buf → Consumes l m (take count buf) → Appends g h (take count buf)
    → Draws l m g h (take used room) (take (used + count) (put_mid used k room buf))
draws_behind l m g h used count k room buf le fits left given = record { came = take count buf; held = front_and used count k room buf le fits; left = left; given = given }

pub draws_nothing : (l m g h : Option (List ℕ)) (used k : ℕ) (room buf : List ℕ) → used ≤ length room → Keeps l m → Keeps g h
    → Draws l m g h (take used room) (take used (put_mid used k room buf))
draws_nothing l m g h used k room buf le left given =
    let same : take used (put_mid used k room buf) ≡ take used room = take-put_mid_below used k room buf used (omega arith) le in
    rw same (draws_none l m g h (take used room) left given)

pub drew_of : (l m g h : Option (List ℕ)) (a b : List ℕ) → Draws l m g h a b → Drew l m g h
drew_of l m g h a b d = record { came = d.came; left = d.left; given = d.given }
