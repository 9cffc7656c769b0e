-- Closing frames and answers have one spelling each.
use Rattle.std.proofs.Common.{◌≡◌, ℕ, ◌≤◌, Bool, true, false, cond, eqb, List, [], ◌∷◌, ◌++◌, take, drop, get_or, refl, sym, ap, ◌∙◌, arith}
use Rattle.std.specs.Int.{w64, from_be_bytes, to_be_bytes}
use Rattle.std.proofs.lemmas.Nat.{from_be_bytes-to_be_bytes_8}
use Rattle.bus_types.specs.declared.limits.TheConstants.{MAX_SCN}
use Rattle.event_codec.specs.Frames.{Run, run_kind, Closing, IsClosing, closing_bytes, answer_kind, answer_number, IsAnswer, answer_bytes}
use Rattle.event_codec.specs.Frames.Run.{Rows, Changes}
use Rattle.event_codec.specs.declared.answer.Answer.{Answer}
use Rattle.event_codec.specs.declared.answer.Answer.TheVariants.{NotFound, Empty, TooSmall, Behind, LogGone, StartDelta, StartSnapshot, Target}

-- the number behind a kind is read back
number_back : (k n : ℕ) (rest : List ℕ) → n ≤ MAX_SCN → from_be_bytes w64 (take 8 (drop 1 (k ∷ to_be_bytes w64 n ++ rest))) ≡ n
number_back k n rest le = from_be_bytes-to_be_bytes_8 n (omega arith)

same_number : (k l n m : ℕ) (r s : List ℕ) → n ≤ MAX_SCN → m ≤ MAX_SCN → k ∷ to_be_bytes w64 n ++ r ≡ l ∷ to_be_bytes w64 m ++ s → n ≡ m
same_number k l n m r s a b same = sym (number_back k n r a) ∙ ap (λ (x : List ℕ). from_be_bytes w64 (take 8 (drop 1 x))) same ∙ number_back l m s b

same_kind : (k l : ℕ) (r s : List ℕ) → k ∷ r ≡ l ∷ s → k ≡ l
same_kind k l r s same = ap (λ (x : List ℕ). get_or x 0 0) same

same_run : (a b : Run) → run_kind a ≡ run_kind b → a ≡ b
same_run Rows Rows e = refl
same_run Rows Changes e = absurd (omega (arith, e))
same_run Changes Rows e = absurd (omega (arith, e))
same_run Changes Changes e = refl

flag : Bool → ℕ
flag more = cond more 1 0

same_flag : (a b : Bool) → ◌≡◌ {A = ℕ} (cond a 1 0) (cond b 1 0) → a ≡ b
same_flag true true e = refl
same_flag true false e = absurd (omega (arith, e))
same_flag false true e = absurd (omega (arith, e))
same_flag false false e = refl

last_of : (k n m : ℕ) → get_or (k ∷ to_be_bytes w64 n ++ m ∷ []) 9 0 ≡ m
last_of k n m = refl

pub one_closing : (one other : Closing) → IsClosing one → IsClosing other → closing_bytes one ≡ closing_bytes other → one ≡ other
one_closing one other a b same =
    let more : ℕ = cond one.more 1 0 in
    let others : ℕ = cond other.more 1 0 in
    let kind = same_kind (run_kind one.run) (run_kind other.run) (to_be_bytes w64 one.scn ++ more ∷ []) (to_be_bytes w64 other.scn ++ others ∷ []) same in
    let runs = same_run one.run other.run kind in
    let scns = same_number (run_kind one.run) (run_kind other.run) one.scn other.scn (more ∷ []) (others ∷ []) a.scn b.scn same in
    let flags = same_flag one.more other.more (sym (last_of (run_kind one.run) one.scn more) ∙ ap (λ (x : List ℕ). get_or x 9 0) same ∙ last_of (run_kind other.run) other.scn others) in
    (λ i. record { run = runs i; scn = scns i; more = flags i })

-- the answer of a kind and a number
abbrev answer_at : ℕ → ℕ → Answer
answer_at k n =
    cond (eqb k 32) (NotFound n) (cond (eqb k 33) (Empty n) (cond (eqb k 34) (TooSmall n) (cond (eqb k 35) (Behind n)
    (cond (eqb k 36) (LogGone n) (cond (eqb k 37) (StartDelta n) (cond (eqb k 38) (StartSnapshot n) (Target n)))))))

answer_back : (a : Answer) → answer_at (answer_kind a) (answer_number a) ≡ a
answer_back (NotFound n) = refl
answer_back (Empty n) = refl
answer_back (TooSmall n) = refl
answer_back (Behind n) = refl
answer_back (LogGone n) = refl
answer_back (StartDelta n) = refl
answer_back (StartSnapshot n) = refl
answer_back (Target n) = refl

pub one_answer : (one other : Answer) → IsAnswer one → IsAnswer other → answer_bytes one ≡ answer_bytes other → one ≡ other
one_answer one other a b same =
    let kinds = same_kind (answer_kind one) (answer_kind other) (to_be_bytes w64 (answer_number one)) (to_be_bytes w64 (answer_number other)) same in
    let numbers = same_number (answer_kind one) (answer_kind other) (answer_number one) (answer_number other) [] [] a.number b.number same in
    sym (answer_back one) ∙ (λ i. answer_at (kinds i) (numbers i)) ∙ answer_back other
