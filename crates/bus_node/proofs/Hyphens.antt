-- What begins with a hyphen is no number, no name and no filter.
use Rattle.std.proofs.Common.{◌≡◌, ◌∙◌, ◌+◌, ℕ, suc, Bool, true, false, cond, not, ◌&&◌, eqb, ltb, List, [], ◌∷◌, length, take, drop, is_some, Option, Some, None, Err, refl, sym, ap, arith, true≢false}
use Rattle.std.specs.List.{prefix_len, slice_split, onto_first}
use Rattle.std.specs.Result.{result_ok}
use Rattle.std.proofs.lemmas.Bool.{eqb-true}
use Rattle.std.specs.Prelude.{nat_le, option_map}
use Rattle.bus_types.specs.Text.{◌>>=◌, cut_at, number_of}
use Rattle.partition_filter.specs.Grammar.{filter_of, rules_of, next_rule, rule_of, rule_by, rule_from}
use Rattle.partition_filter.specs.Grammar.{selection_of as selected_by}
use Rattle.partition_filter.specs.Spelling.{longest_text}
use Rattle.partition_filter.specs.Selection.{Selection}
use Rattle.trace_script.specs.Words.{number_in, name_of, selection_of}
use Rattle.bus_node.specs.Words.{is_said}

no_number : (least most : ℕ) (bs : List ℕ) → number_in least most (45 ∷ bs) ≡ None
unfolding number_in number_of
no_number least most bs = refl

no_name : (bs : List ℕ) → name_of (45 ∷ bs) ≡ None
unfolding name_of
no_name bs = go (nat_le 1 (length (45 ∷ bs))) (nat_le (length (45 ∷ bs)) 16)
  where
    go : (a b : Bool) → ◌≡◌ {A = Option (List ℕ)} (cond (a && b && false) (Some (45 ∷ bs)) None) None
    go true true = refl
    go true false = refl
    go false b = refl

-- what stands before a byte in it begins with a hyphen too
Begins : Option (List ℕ × List ℕ) → Type 0
Begins None = Unit {0}
Begins (Some parts) = (front : List ℕ) × (parts.0 ≡ 45 ∷ front)

begins : (b : ℕ) (bs : List ℕ) → eqb 45 b ≡ false → Begins (cut_at b (45 ∷ bs))
unfolding Begins
begins b bs other = rw other (go (ltb (1 + k) (length (45 ∷ bs))))
  where
    k : ℕ
    k = prefix_len (λ x. not (eqb x b)) bs

    front : take (1 + k) (45 ∷ bs) ≡ 45 ∷ take k bs
    front = let one : 1 + k ≡ suc k = omega arith in ap (λ (n : ℕ). take n (45 ∷ bs)) one

    go : (t : Bool) → Begins (option_map (λ i. (take i (45 ∷ bs), drop (i + 1) (45 ∷ bs))) (cond t (Some (1 + k)) None))
    go true = (take k bs, front)
    go false = tt

refused : (a b c : Option (List ℕ × List ℕ)) → Begins a → Begins b → Begins c → rule_by a b c ≡ None
unfolding Begins rule_by rule_from number_of
refused (Some parts) b c h _ _ = rw h.1 refl
refused None (Some parts) c _ h _ = rw h.1 refl
refused None None (Some parts) _ _ h = rw h.1 refl
refused None None None _ _ _ = refl

no_rule : (count : ℕ) (before : Option ℕ) (bs : List ℕ) → next_rule count before (45 ∷ bs) ≡ None
unfolding next_rule rule_of
no_rule count before bs = rw (refused (cut_at 37 (45 ∷ bs)) (cut_at 47 (45 ∷ bs)) (cut_at 42 (45 ∷ bs)) (begins 37 bs refl) (begins 47 bs refl) (begins 42 bs refl)) refl

no_rules : (parts : List (List ℕ)) → result_ok (selected_by (rules_of 0 0 None (onto_first 45 parts))) ≡ None
unfolding rules_of
no_rules [] = rw (no_rule 0 None []) refl
no_rules (part ∷ parts) = rw (no_rule 0 None part) refl

no_filter : (bs : List ℕ) → selection_of (45 ∷ bs) ≡ None
unfolding filter_of
no_filter bs = go (ltb longest_text (length (45 ∷ bs)))
  where
    go : (t : Bool) → ◌≡◌ {A = Option Selection} (result_ok (cond t (Err longest_text) (selected_by (rules_of 0 0 None (slice_split (λ b. eqb b 59) (45 ∷ bs)))))) None
    go true = refl
    go false = no_rules (slice_split (λ b. eqb b 59) bs)

-- a reading that refuses what begins with a hyphen reads only what is said without one
pub said_where_read : {X : Type 0} (read : List ℕ → Option X) → ((bs : List ℕ) → read (45 ∷ bs) ≡ None) → (text : Option (List ℕ))
    → is_some (text >>= read) ≡ true → is_said text ≡ true
said_where_read read refuses None h = h
said_where_read read refuses (Some []) h = refl
said_where_read read refuses (Some (b ∷ bs)) h = go (eqb b 45) refl
  where
    go : (t : Bool) → eqb b 45 ≡ t → not (eqb b 45) ≡ true
    go false e = rw e refl
    go true e =
        let hyphen : b ≡ 45 = eqb-true b 45 e in
        let none : read (b ∷ bs) ≡ None = ap (λ (x : ℕ). read (x ∷ bs)) hyphen ∙ refuses bs in
        absurd (true≢false (sym h ∙ ap is_some none))

pub said_number : (least most : ℕ) (text : Option (List ℕ)) → is_some (text >>= number_in least most) ≡ true → is_said text ≡ true
said_number least most text h = said_where_read (number_in least most) (no_number least most) text h

pub said_name : (text : Option (List ℕ)) → is_some (text >>= name_of) ≡ true → is_said text ≡ true
said_name text h = said_where_read name_of no_name text h

pub said_filter : (text : Option (List ℕ)) → is_some (text >>= selection_of) ≡ true → is_said text ≡ true
said_filter text h = said_where_read selection_of no_filter text h
