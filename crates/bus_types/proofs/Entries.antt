-- A BTreeMap's words at entries in order, by those of std's finite maps.
use Rattle.std.proofs.Common.{◌≡◌, ◌&&◌, Bool, true, false, cond, not, T, List, [], ◌∷◌, Ordering, Less, Equal, Greater, Some, None, is_eq, is_lt, refl, sym, ap, subst, ◌∙◌}
use Rattle.std.specs.Ordering.{eq_by_cmp, match_ordering}
use Rattle.std.specs.Map.{lookup, remove_entry}
use Rattle.std.specs.BTreeMap.{is_at, insert_entry}
use Rattle.std.specs.Cmp.{IsTotalOrder}
use Rattle.std.specs.FinMap.{find, put, is_sorted}
use Rattle.std.specs.FinMap.Entries.{by_order, where_key, below_all, is_sorted-put, is_sorted-where_key, find-put, find-where_key, same_entries}
use Rattle.std.proofs.lemmas.Cmp.{alike_right, eq_by_cmp_equiv}

-- a test that holds, as a type
pub holds : (b : Bool) → b ≡ true → T b
holds b e = subst T (sym e) tt

-- a test that holds, as an equation
pub is_true : (b : Bool) → T b → b ≡ true
is_true true h = refl
is_true false h = absurd h

front_holds : (a b : Bool) → T (a && b) → T a
front_holds true b h = tt
front_holds false b h = absurd h

rest_holds : (a b : Bool) → T (a && b) → T b
rest_holds true b h = h
rest_holds false b h = absurd h

is_less : (r : Ordering) → T (is_lt r) → r ≡ Less
is_less Less h = refl
is_less Equal h = absurd h
is_less Greater h = absurd h

turned : {X : Type 0} (b : Bool) (x y : X) → cond (not b) x y ≡ cond b y x
turned true x y = refl
turned false x y = refl

module _ {K X : Type 0} (R : K → K → Ordering) where
  lookup-find : (q : K) (es : List (K × X)) → lookup (is_at (R q)) es ≡ find R q es
  lookup-find q [] = refl
  lookup-find q (e ∷ es) = ap (cond (is_eq (R q e.0)) (Some e.1)) (lookup-find q es)

  insert-put : (es : List (K × X)) (k : K) (v : X) → insert_entry R es k v ≡ put R k v es
  insert-put [] k v = refl
  insert-put (e ∷ es) k v =
      let rest = insert-put es k v in
      elim (R k e.0) as (λ r. match_ordering r ((k, v) ∷ e ∷ es) ((e.0, v) ∷ es) (e ∷ insert_entry R es k v) ≡ by_order r ((k, v) ∷ e ∷ es) ((e.0, v) ∷ es) (e ∷ put R k v es)) [
        | Less ↦ refl
        | Equal ↦ refl
        | Greater ↦ ap (λ l. e ∷ l) rest
      ]

  module _ (o : IsTotalOrder R) where
    unmet : (k x : K) (es : List (K × X)) → R k x ≡ Equal → T (below_all R x es) → where_key R (λ y. not (eq_by_cmp R k y)) es ≡ es
    unmet k x [] p h = refl
    unmet k x (e ∷ es) p h =
        let kept = where_key R (λ y. not (eq_by_cmp R k y)) es in
        let above = o.congr k x e.0 p ∙ is_less (R x e.0) (front_holds _ _ h) in
        ap (λ r. cond (not (is_eq r)) (e ∷ kept) kept) above ∙ ap (λ l. e ∷ l) (unmet k x es p (rest_holds _ _ h))

    remove-where : (k : K) (es : List (K × X)) → T (is_sorted R es) → remove_entry (is_at (R k)) es ≡ where_key R (λ y. not (eq_by_cmp R k y)) es
    remove-where k [] h = refl
    remove-where k (e ∷ es) h =
        let kept = where_key R (λ y. not (eq_by_cmp R k y)) es in
        let rest = remove-where k es (rest_holds _ _ h) in
        elim (R k e.0) as (λ r. R k e.0 ≡ r → cond (is_eq r) es (e ∷ remove_entry (is_at (R k)) es) ≡ cond (not (is_eq r)) (e ∷ kept) kept) [
          | Less ↦ λ p. ap (λ l. e ∷ l) rest
          | Equal ↦ λ p. sym (unmet k e.0 es p (front_holds _ _ h))
          | Greater ↦ λ p. ap (λ l. e ∷ l) rest
        ] refl

    -- an insert keeps the order
    pub ordered-insert : (es : List (K × X)) (k : K) (v : X) → is_sorted R es ≡ true → is_sorted R (insert_entry R es k v) ≡ true
    ordered-insert es k v h = ap (is_sorted R) (insert-put es k v) ∙ is_true _ (is_sorted-put R o k v es (holds _ h))

    -- a removal keeps the order
    pub ordered-remove : (es : List (K × X)) (k : K) → is_sorted R es ≡ true → is_sorted R (remove_entry (is_at (R k)) es) ≡ true
    ordered-remove es k h = ap (is_sorted R) (remove-where k es (holds _ h)) ∙ is_true _ (is_sorted-where_key R (λ y. not (eq_by_cmp R k y)) es (holds _ h))

    -- a filter of the keys keeps the order
    pub ordered-where : (p : K → Bool) (es : List (K × X)) → is_sorted R es ≡ true → is_sorted R (where_key R p es) ≡ true
    ordered-where p es h = is_true _ (is_sorted-where_key R p es (holds _ h))

    -- what is found after an insert
    pub lookup-insert : (es : List (K × X)) (k : K) (v : X) (q : K) → lookup (is_at (R q)) (insert_entry R es k v) ≡ cond (is_eq (R q k)) (Some v) (lookup (is_at (R q)) es)
    lookup-insert es k v q =
        ap (lookup (is_at (R q))) (insert-put es k v) ∙ lookup-find q (put R k v es) ∙ find-put R o q k v es
        ∙ ap (cond (is_eq (R q k)) (Some v)) (sym (lookup-find q es))

    -- what is found after a removal
    pub lookup-remove : (es : List (K × X)) (k q : K) → is_sorted R es ≡ true → lookup (is_at (R q)) (remove_entry (is_at (R k)) es) ≡ cond (is_eq (R q k)) None (lookup (is_at (R q)) es)
    lookup-remove es k q h =
        ap (lookup (is_at (R q))) (remove-where k es (holds _ h)) ∙ lookup-find q (where_key R (λ y. not (eq_by_cmp R k y)) es)
        ∙ find-where_key R (λ y. not (eq_by_cmp R k y)) q (λ x t. ap (λ r. not (is_eq r)) (sym (alike_right o q x k t))) es
        ∙ turned (eq_by_cmp R k q) (find R q es) None ∙ ap (λ b. cond b None (find R q es)) ((eq_by_cmp_equiv o).symm k q)
        ∙ ap (cond (is_eq (R q k)) None) (sym (lookup-find q es))

    -- what is found after a filter of the keys, where keys that compare equal are one
    pub lookup-where : ((x y : K) → R x y ≡ Equal → x ≡ y) → (p : K → Bool) (es : List (K × X)) (q : K) → lookup (is_at (R q)) (where_key R p es) ≡ cond (p q) (lookup (is_at (R q)) es) None
    lookup-where exact p es q =
        lookup-find q (where_key R p es) ∙ find-where_key R p q (λ x t. ap p (sym (exact q x t))) es
        ∙ ap (λ found. cond (p q) found None) (sym (lookup-find q es))

    -- entries in order that answer alike are equal, where keys that compare equal are one
    pub same_by_lookup : ((x y : K) → R x y ≡ Equal → x ≡ y) → (es fs : List (K × X)) → is_sorted R es ≡ true → is_sorted R fs ≡ true → ((q : K) → lookup (is_at (R q)) es ≡ lookup (is_at (R q)) fs) → es ≡ fs
    same_by_lookup exact es fs g h alike = same_entries R o exact es fs (holds _ g) (holds _ h) (λ q. sym (lookup-find q es) ∙ alike q ∙ lookup-find q fs)
