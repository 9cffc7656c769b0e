-- A closing frame that is read is the one that was written, and one that was written is read again.
use Rattle.std.proofs.Common.{◌≡◌, ℕ, zero, suc, ◌+◌, ◌<◌, ◌≤◌, Bool, true, false, cond, eqb, ltb, inl, inr, ◌⊎◌, ◌||◌, List, [], ◌∷◌, ◌++◌, length, get_or, take, drop, Option, Some, None, option_and_then, refl, sym, ap, subst, ◌∙◌, arith}
use Rattle.std.specs.Prelude.{option_map}
use Rattle.std.specs.Int.{w64, to_be_bytes}
use Rattle.std.proofs.Math.Seq.{take-add}
use Rattle.std.proofs.lemmas.Bool.{ltb-false, le-ltb, eqb-true, or_parts}
use Rattle.std.proofs.lemmas.List.{length-append, drop_at, take-append-drop}
use Rattle.std.proofs.lemmas.Nat.{from_be_bytes-to_be_bytes_8}
use Rattle.std.proofs.lemmas.Option.{same_Some}
use Rattle.bus_types.specs.declared.limits.TheConstants.{MAX_SCN}
use Rattle.event_codec.specs.declared.close.Close.{Close}
use Rattle.event_codec.specs.declared.head.Head.{Head}
use Rattle.event_codec.specs.Frames.{Run, run_kind, run_of, Closing, IsClosing, closing_bytes}
use Rattle.event_codec.specs.Frames.Run.{Rows, Changes}
use Rattle.event_codec.specs.Reading.{number_at, closing_with, closing_front, head_front, event_front, head_of, is_sized, with_payload}
use Rattle.event_codec.specs.Parsing.{close_of, closing_in_front, event_with, event_in_front}
use Rattle.event_codec.proofs.Numbers.{IsBytes, IsBytes-drop, spells_8}
use Rattle.event_codec.proofs.Heads.{some_else, first}
use Rattle.event_codec.proofs.Parsings.{mapped}

-- ---- what is read

-- a frame of a kind, an SCN and a flag
record IsOf (kind scn flag : ℕ) (c : Closing) : Type 0 where
  kinds : kind ≡ run_kind c.run
  same : c.scn ≡ scn
  bound : scn ≤ MAX_SCN
  flags : flag ≡ cond c.more 1 0

flag_is : (flag : ℕ) → flag ≤ 1 → flag ≡ cond (eqb flag 1) 1 0
flag_is zero le = refl
flag_is (suc zero) le = refl
flag_is (suc (suc n)) le = absurd (omega arith)

closing_of : (kind scn flag : ℕ) (c : Closing) → closing_with kind scn flag ≡ Some c → IsOf kind scn flag c
closing_of kind scn flag c e =
    let a = some_else (ltb MAX_SCN scn || ltb 1 flag) _ c e in
    let p = or_parts (ltb MAX_SCN scn) (ltb 1 flag) a.0 in
    let bound : scn ≤ MAX_SCN = ltb-false MAX_SCN scn p.0 in
    let flags : flag ≡ cond (eqb flag 1) 1 0 = flag_is flag (ltb-false 1 flag p.1) in
    kinds (eqb kind 4) (eqb kind 5) refl refl bound flags a.1
  where
    kinds : (rows changes : Bool) → eqb kind 4 ≡ rows → eqb kind 5 ≡ changes → scn ≤ MAX_SCN → flag ≡ cond (eqb flag 1) 1 0
        → ◌≡◌ {A = Option Closing} (cond rows (Some (record { run = Rows; scn = scn; more = eqb flag 1 })) (cond changes (Some (record { run = Changes; scn = scn; more = eqb flag 1 })) None)) (Some c) → IsOf kind scn flag c
    kinds true changes r s bound flags e = subst (IsOf kind scn flag) (same_Some _ c e) (record { kinds = eqb-true kind 4 r; same = refl; bound = bound; flags = flags })
    kinds false true r s bound flags e = subst (IsOf kind scn flag) (same_Some _ c e) (record { kinds = eqb-true kind 5 s; same = refl; bound = bound; flags = flags })
    kinds false false r s bound flags e = absurd cc

last_one : (n : ℕ) (bytes : List ℕ) → n < length bytes → take 1 (drop n bytes) ≡ get_or bytes n 0 ∷ []
last_one n [] long = absurd (omega arith)
last_one zero (b ∷ bs) long = refl
last_one (suc n) (b ∷ bs) long = last_one n bs (omega arith)

ten : (bytes : List ℕ) → 10 ≤ length bytes → get_or bytes 0 0 ∷ take 8 (drop 1 bytes) ++ get_or bytes 9 0 ∷ [] ≡ take 10 bytes
ten bytes long =
    (λ i. first 8 bytes (omega (arith, long)) i ++ sym (last_one 9 bytes (omega (arith, long))) i)
    ∙ sym (take-add 9 1 bytes)

-- a frame that is read is spelled so
pub record ClosingTaken (bytes : List ℕ) (c : Closing) : Type 0 where
  pub closing : IsClosing c
  pub there : take 10 bytes ≡ closing_bytes c

pub closing_taken : (bytes : List ℕ) (c : Closing) → IsBytes bytes → closing_front bytes ≡ Some c → ClosingTaken bytes c
unfolding closing_front
closing_taken bytes c fits e =
    let kind = get_or bytes 0 0 in
    let n = number_at w64 1 bytes in
    let flag = get_or bytes 9 0 in
    let x = some_else (ltb (length bytes) 10) (closing_with kind n flag) c e in
    let long : 10 ≤ length bytes = ltb-false (length bytes) 10 x.0 in
    let is = closing_of kind n flag c x.1 in
    let number : take 8 (drop 1 bytes) ≡ to_be_bytes w64 c.scn = sym (spells_8 1 bytes fits (omega (arith, long))).spelled ∙ ap (to_be_bytes w64) (sym is.same) in
    record {
      closing = record { scn = omega (arith, is.same, is.bound) };
      there = sym (ten bytes long) ∙ (λ i. is.kinds i ∷ number i ++ is.flags i ∷ []);
    }

-- ---- what was written

with_kind : (c : Closing) → closing_with (run_kind c.run) c.scn (cond c.more 1 0) ≡ cond (ltb MAX_SCN c.scn) None (Some c)
with_kind c = kinds (ltb MAX_SCN c.scn) c.run c.more
  where
    kinds : (large : Bool) (run : Run) (more : Bool)
        → cond {A = Option Closing} (large || ltb 1 (cond more 1 0)) None (cond (eqb (run_kind run) 4) (Some (record { run = Rows; scn = c.scn; more = eqb (cond more 1 0) 1 })) (cond (eqb (run_kind run) 5) (Some (record { run = Changes; scn = c.scn; more = eqb (cond more 1 0) 1 })) None))
        ≡ cond {A = Option Closing} large None (Some (record { run = run; scn = c.scn; more = more }))
    kinds true run more = refl
    kinds false Rows true = refl
    kinds false Rows false = refl
    kinds false Changes true = refl
    kinds false Changes false = refl

pub closing_again : (c : Closing) (rest : List ℕ) → IsClosing c → closing_front (closing_bytes c ++ rest) ≡ Some c
unfolding closing_front number_at
closing_again c rest is =
    let bytes = closing_bytes c ++ rest in
    let flag : ℕ = cond c.more 1 0 in
    let long : ltb (length bytes) 10 ≡ false = le-ltb (length bytes) 10 (omega (arith, length-append (closing_bytes c) rest)) in
    ap (λ b. cond b None (closing_with (run_kind c.run) (number_at w64 1 bytes) flag)) long
    ∙ ap (λ n. closing_with (run_kind c.run) n flag) (from_be_bytes-to_be_bytes_8 c.scn (omega (arith, is.scn)))
    ∙ with_kind c
    ∙ ap (λ b. cond b None (Some c)) (le-ltb MAX_SCN c.scn is.scn)

pub closing_back : (c : Closing) (rest : List ℕ) → IsClosing c → closing_in_front (closing_bytes c ++ rest) ≡ Some (c, rest)
unfolding closing_in_front
closing_back c rest is = ap (option_map (λ d. (d, drop 10 (closing_bytes c ++ rest)))) (closing_again c rest is) ∙ ap (λ (x : List ℕ). Some (c, x)) (drop_at (closing_bytes c) rest 10 refl)

-- ---- no event stands where a frame does

kind_in_front : (bytes : List ℕ) (x : Closing × List ℕ) → closing_in_front bytes ≡ Some x → get_or bytes 0 0 ≡ run_kind x.0.run
unfolding closing_in_front closing_front
kind_in_front bytes x e =
    let m = mapped (λ c. (c, drop 10 bytes)) (closing_front bytes) x e in
    let read = some_else (ltb (length bytes) 10) (closing_with (get_or bytes 0 0) (number_at w64 1 bytes) (get_or bytes 9 0)) m.0 m.1 in
    (closing_of (get_or bytes 0 0) (number_at w64 1 bytes) (get_or bytes 9 0) m.0 read.1).kinds ∙ ap (λ (y : Closing × List ℕ). run_kind y.0.run) m.2

not_sized : (run : Run) (len : ℕ) → is_sized (run_kind run) len ≡ false
not_sized Rows len = refl
not_sized Changes len = refl

none_either_way : {A : Type 0} (a b c : Bool) (x : A) → c ≡ false → ◌≡◌ {A = Option A} (cond a None (cond b None (cond c (Some x) None))) None
none_either_way true b c x e = refl
none_either_way false true c x e = refl
none_either_way false false c x e = rw e refl

no_head_at_closing : (bytes : List ℕ) (run : Run) → get_or bytes 0 0 ≡ run_kind run → head_front bytes ≡ None
unfolding head_front
no_head_at_closing bytes run is =
    let h = head_of bytes in
    none_either_way (ltb (length bytes) 23) (eqb h.scn 0 || ltb MAX_SCN h.scn) (is_sized h.kind h.len) h (ap (λ k. is_sized k h.len) is ∙ not_sized run h.len)

pub no_event_at_closing : (bytes : List ℕ) (x : Closing × List ℕ) → closing_in_front bytes ≡ Some x → event_in_front bytes ≡ None
unfolding event_in_front event_front
no_event_at_closing bytes x e =
    ap (λ (o : Option Head). option_map (λ y. (event_with y, drop (23 + length y.1) bytes)) (option_and_then (with_payload (drop 23 bytes)) o)) (no_head_at_closing bytes x.0.run (kind_in_front bytes x e))

-- ---- the frame in front

pub record CloseSplit (bytes : List ℕ) (close : Close) (behind : List ℕ) : Type 0 where
  pub front : closing_in_front bytes ≡ Some (close_of close, behind)
  pub parts : bytes ≡ closing_bytes (close_of close) ++ behind
  pub scn : close.scn ≤ MAX_SCN

pub close_split : (bytes : List ℕ) (close : Close) (behind : List ℕ) → IsBytes bytes → option_map close_of (Some close) ≡ closing_front bytes → behind ≡ drop 10 bytes → CloseSplit bytes close behind
unfolding closing_in_front
close_split bytes close behind fits read behind_is =
    let taken = closing_taken bytes (close_of close) fits (sym read) in
    record {
      front = ap (option_map (λ c. (c, drop 10 bytes))) (sym read) ∙ ap (λ (x : List ℕ). Some (close_of close, x)) (sym behind_is);
      parts = sym (take-append-drop 10 bytes) ∙ (λ i. taken.there i ++ sym behind_is i);
      scn = taken.closing.scn;
    }

pub close_none : (bytes : List ℕ) → option_map close_of None ≡ closing_front bytes → closing_in_front bytes ≡ None
unfolding closing_in_front
close_none bytes read = ap (option_map (λ c. (c, drop 10 bytes))) (sym read)
