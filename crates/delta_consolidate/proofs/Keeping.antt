-- The first last changes are enough for a chunk.
use Rattle.std.proofs.Common.{◌≡◌, ℕ, zero, suc, ◌+◌, ◌-◌, ◌*◌, ◌<◌, ◌≤◌, Bool, true, false, cond, nat_lt, nat_le, List, [], ◌∷◌, length, take, filter, Option, Some, None, Ordering, Less, Equal, Greater, is_eq, true≢false, refl, sym, ap, subst, ◌∙◌, arith, inl, inr, length-take}
use Rattle.std.specs.Ordering.{match_ordering}
use Rattle.std.specs.Map.{lookup}
use Rattle.std.specs.BTreeMap.{is_at, insert_entry}
use Rattle.std.specs.FinMap.{is_sorted}
use Rattle.std.specs.Cmp.{Equal-is}
use Rattle.std.proofs.lemmas.List.{take_all, take-map}
use Rattle.std.proofs.lemmas.Bool.{cases_Bool, cases_lt, lt-ltb, leb-true}
use Rattle.bus_types.specs.declared.change.Key.{Key}
use Rattle.bus_types.specs.declared.change.Key.TheVariants.{Long}
use Rattle.bus_types.specs.declared.change.Change.{Change}
use Rattle.bus_types.specs.declared.change.RowName.{RowName}
use Rattle.bus_types.specs.declared.row.Cursor.{Cursor}
use Rattle.bus_types.specs.Change.{Test, accepted, name_cmp, name_of, head_size, payload_size, change_size}
use Rattle.bus_types.specs.Rows.{is_after}
use Rattle.bus_types.specs.Latest.{Latest, latest_after, changes_after}
use Rattle.bus_types.proofs.Names.{name_cmp_total, name_cmp_exact}
use Rattle.bus_types.proofs.Entries.{ordered-insert, ordered-where, lookup-insert, lookup-where, same_by_lookup}
use Rattle.event_codec.specs.declared.answer.Answer.TheVariants.{TooSmall}
use Rattle.event_codec.specs.Chunks.{frame_size, items_within, chunk_of}
use Rattle.event_codec.specs.Questions.{Reply}
use Rattle.event_codec.specs.Questions.Reply.{Only}
use Rattle.delta_consolidate.specs.Latest.{kept, kept_after, changes_of}

-- ---- fronts

fewer : {X : Type 0} (m n : ℕ) (xs : List X) → m ≤ n → take m (take n xs) ≡ take m xs
fewer zero n xs h = refl
fewer (suc m) zero xs h = absurd (omega arith)
fewer (suc m) (suc n) [] h = refl
fewer (suc m) (suc n) (x ∷ xs) h = ap (λ l. x ∷ l) (fewer m n xs (omega arith))

behind_one : {X : Type 0} (n : ℕ) (x : X) (xs : List X) → take n (x ∷ take n xs) ≡ take n (x ∷ xs)
behind_one zero x xs = refl
behind_one (suc n) x xs = ap (λ l. x ∷ l) (fewer n (suc n) xs (omega arith))

-- an insert into a front has the front of an insert
front_insert : {K X : Type 0} (R : K → K → Ordering) (n : ℕ) (es : List (K × X)) (k : K) (v : X) → take n (insert_entry R (take n es) k v) ≡ take n (insert_entry R es k v)
front_insert R zero es k v = refl
front_insert R (suc n) [] k v = refl
front_insert R (suc n) (e ∷ es) k v =
    let rest = front_insert R n es k v in
    elim (R k e.0) as (λ r. take (suc n) (match_ordering r ((k, v) ∷ e ∷ take n es) ((e.0, v) ∷ take n es) (e ∷ insert_entry R (take n es) k v)) ≡ take (suc n) (match_ordering r ((k, v) ∷ e ∷ es) ((e.0, v) ∷ es) (e ∷ insert_entry R es k v))) [
      | Less ↦ ap (λ l. (k, v) ∷ l) (behind_one n e es)
      | Equal ↦ ap (λ l. (e.0, v) ∷ l) (fewer n n es (omega arith))
      | Greater ↦ ap (λ l. e ∷ l) rest
    ]

-- the changes that are kept are the first of all
kept_front : (test : Test) (cursor : Cursor) (n : ℕ) (es : Latest) (cs : List Change) → kept_after test cursor n (take n es) cs ≡ take n (latest_after es (changes_after cursor (accepted test cs)))
kept_front test cursor n es [] = refl
kept_front test cursor n es (c ∷ cs) =
    let name = name_of c in
    let rest = accepted test cs in
    elim (test c.source c.key) as (λ t. kept_after test cursor n (cond t (cond (is_after cursor name) (kept n (take n es) name c.put) (take n es)) (take n es)) cs ≡ take n (latest_after es (changes_after cursor (cond t (c ∷ rest) rest)))) [
      | true ↦ elim (is_after cursor name) as (λ a. kept_after test cursor n (cond a (kept n (take n es) name c.put) (take n es)) cs ≡ take n (latest_after es (cond a (c ∷ changes_after cursor rest) (changes_after cursor rest)))) [
        | true ↦ ap (λ fs. kept_after test cursor n fs cs) (front_insert name_cmp n es name c.put) ∙ kept_front test cursor n (insert_entry name_cmp es name c.put) cs
        | false ↦ kept_front test cursor n es cs
      ]
      | false ↦ kept_front test cursor n es cs
    ]

-- ---- behind a cursor

kept_both : {X : Type 0} (p b : Bool) (v : X) (found : Option X) → (b ≡ true → p ≡ true) → cond p (cond b (Some v) found) None ≡ cond b (Some v) (cond p found None)
kept_both true true v found h = refl
kept_both true false v found h = refl
kept_both false true v found h = absurd (true≢false (sym (h refl)))
kept_both false false v found h = refl

kept_neither : {X : Type 0} (p b : Bool) (v : X) (found : Option X) → (b ≡ true → p ≡ false) → cond p (cond b (Some v) found) None ≡ cond p found None
kept_neither true true v found h = absurd (true≢false (h refl))
kept_neither true false v found h = refl
kept_neither false b v found h = refl

abbrev where_name : (RowName → Bool) → Latest → Latest
where_name p es = filter (λ e. p e.0) es

same_name : (q k : RowName) → is_eq (name_cmp q k) ≡ true → q ≡ k
same_name q k e = name_cmp_exact q k ((Equal-is (name_cmp q k)).0 e)

-- a filter of the names and an insert, in either order
where_insert : (p : RowName → Bool) (es : Latest) (k : RowName) (v : Option (List ℕ)) → is_sorted name_cmp es ≡ true → where_name p (insert_entry name_cmp es k v) ≡ cond (p k) (insert_entry name_cmp (where_name p es) k v) (where_name p es)
where_insert p es k v h =
    let grown = ordered-where name_cmp name_cmp_total p (insert_entry name_cmp es k v) (ordered-insert name_cmp name_cmp_total es k v h) in
    let left = ordered-where name_cmp name_cmp_total p es h in
    let found : (q : RowName) → lookup (is_at (name_cmp q)) (where_name p (insert_entry name_cmp es k v)) ≡ cond (p q) (cond (is_eq (name_cmp q k)) (Some v) (lookup (is_at (name_cmp q)) es)) None = λ q.
    lookup-where name_cmp name_cmp_total name_cmp_exact p (insert_entry name_cmp es k v) q
    ∙ ap (λ o. cond (p q) o None) (lookup-insert name_cmp name_cmp_total es k v q) in
    elim (cases_Bool (p k)) [
      | inl t ↦
          let more = ordered-insert name_cmp name_cmp_total (where_name p es) k v left in
          same_by_lookup name_cmp name_cmp_total name_cmp_exact _ _ grown more (λ q.
          found q
          ∙ kept_both (p q) (is_eq (name_cmp q k)) v (lookup (is_at (name_cmp q)) es) (λ e. ap p (same_name q k e) ∙ t)
          ∙ ap (cond (is_eq (name_cmp q k)) (Some v)) (sym (lookup-where name_cmp name_cmp_total name_cmp_exact p es q))
          ∙ sym (lookup-insert name_cmp name_cmp_total (where_name p es) k v q))
          ∙ ap (λ b. cond b (insert_entry name_cmp (where_name p es) k v) (where_name p es)) (sym t)
      | inr f ↦
          same_by_lookup name_cmp name_cmp_total name_cmp_exact _ _ grown left (λ q.
          found q
          ∙ kept_neither (p q) (is_eq (name_cmp q k)) v (lookup (is_at (name_cmp q)) es) (λ e. ap p (same_name q k e) ∙ f)
          ∙ sym (lookup-where name_cmp name_cmp_total name_cmp_exact p es q))
          ∙ ap (λ b. cond b (insert_entry name_cmp (where_name p es) k v) (where_name p es)) (sym f)
    ]

one_more : (a : Bool) (c : Change) (es : Latest) (rest : List Change) → latest_after (cond a (insert_entry name_cmp es (name_of c) c.put) es) rest ≡ latest_after es (cond a (c ∷ rest) rest)
one_more true c es rest = refl
one_more false c es rest = refl

-- the last of the changes behind a cursor are the last changes behind it
behind_latest : (cursor : Cursor) (es : Latest) (cs : List Change) → is_sorted name_cmp es ≡ true → latest_after (where_name (is_after cursor) es) (changes_after cursor cs) ≡ where_name (is_after cursor) (latest_after es cs)
behind_latest cursor es [] h = refl
behind_latest cursor es (c ∷ cs) h =
    let name = name_of c in
    let grown = ordered-insert name_cmp name_cmp_total es name c.put h in
    sym (one_more (is_after cursor name) c (where_name (is_after cursor) es) (changes_after cursor cs))
    ∙ ap (λ fs. latest_after fs (changes_after cursor cs)) (sym (where_insert (is_after cursor) es name c.put h))
    ∙ behind_latest cursor (insert_entry name_cmp es name c.put) cs grown

-- entries behind a cursor, as changes
behind_changes : (cursor : Cursor) (es : Latest) → changes_after cursor (changes_of es) ≡ changes_of (where_name (is_after cursor) es)
behind_changes cursor [] = refl
behind_changes cursor (e ∷ es) =
    let c : Change = record { source = e.0.source; key = e.0.key; put = e.1 } in
    let rest = behind_changes cursor es in
    elim (is_after cursor e.0) as (λ b. cond b (c ∷ changes_after cursor (changes_of es)) (changes_after cursor (changes_of es)) ≡ changes_of (cond b (e ∷ where_name (is_after cursor) es) (where_name (is_after cursor) es))) [
      | true ↦ ap (λ l. c ∷ l) rest
      | false ↦ rest
    ]

-- ---- chunks

size_least : (key : Key) (n : ℕ) → 23 ≤ head_size key + n
size_least (Long k) n = omega arith

-- so many items hold the longest run
within_front : (n room : ℕ) (cs : List Change) → room < 23 * n → items_within room (take n cs) ≡ items_within room cs
within_front zero room cs h = absurd (omega (arith, h))
within_front (suc n) room [] h = refl
within_front (suc n) room (c ∷ cs) h =
    let size = change_size c in
    let least : 23 ≤ size = size_least c.key (payload_size c.put) in
    elim (cases_Bool (nat_le size room)) [
      | inl fits ↦
          let rest = within_front n (room - size) cs (omega (arith, h, least, leb-true size room fits)) in
          ap (λ l. cond (nat_le size room) (c ∷ l) []) rest
      | inr large ↦ ap (λ b. cond b (c ∷ items_within (room - size) (take n cs)) []) large ∙ sym (ap (λ b. cond b (c ∷ items_within (room - size) cs) []) large)
    ]

-- the longest run has fewer items
run_short : (n room : ℕ) (cs : List Change) → room < 23 * n → length (items_within room cs) < n
run_short zero room cs h = absurd (omega (arith, h))
run_short (suc n) room [] h = omega arith
run_short (suc n) room (c ∷ cs) h =
    let size = change_size c in
    let least : 23 ≤ size = size_least c.key (payload_size c.put) in
    elim (cases_Bool (nat_le size room)) [
      | inl fits ↦
          let rest = run_short n (room - size) cs (omega (arith, h, least, leb-true size room fits)) in
          subst (λ b. length (cond b (c ∷ items_within (room - size) cs) []) < suc n) (sym fits) (omega (arith, rest))
      | inr large ↦ subst (λ b. length (cond b (c ∷ items_within (room - size) cs) []) < suc n) (sym large) (omega arith)
    ]

left_front : {X : Type 0} (r n : ℕ) (xs : List X) → r < n → nat_lt r (length (take n xs)) ≡ nat_lt r (length xs)
left_front r n xs h =
    elim (cases_lt n (length xs)) [
      | inl more ↦ lt-ltb r (length (take n xs)) (omega (arith, h, more, length-take n xs)) ∙ sym (lt-ltb r (length xs) (omega (arith, h, more)))
      | inr few ↦ ap (λ l. nat_lt r (length l)) (take_all n xs few)
    ]

-- a chunk of the first items is the chunk of all
chunk_front : (make : List Change → Bool → Reply) (most n : ℕ) (cs : List Change) → most - frame_size < 23 * n → chunk_of make most (take n cs) ≡ chunk_of make most cs
chunk_front make most zero cs h = absurd (omega (arith, h))
chunk_front make most (suc n) [] h = refl
chunk_front make most (suc n) (c ∷ cs) h =
    let room = most - frame_size in
    let size = change_size c in
    let run = items_within room (c ∷ cs) in
    let all = λ (items : List Change) (more : Bool). cond (nat_lt most (size + frame_size)) (Only (TooSmall (size + frame_size))) (make items more) in
    ap (λ items. all items (nat_lt (length items) (length (c ∷ take n cs)))) (within_front (suc n) room (c ∷ cs) h)
    ∙ ap (all run) (left_front (length run) (suc n) (c ∷ cs) (run_short (suc n) room (c ∷ cs) h))

-- the chunk of the changes that were kept is the chunk of the last changes behind the cursor
pub chunk_kept : (make : List Change → Bool → Reply) (test : Test) (cursor : Cursor) (most n : ℕ) (cs : List Change) → most - frame_size < 23 * n
    → chunk_of make most (changes_of (kept_after test cursor n [] cs)) ≡ chunk_of make most (changes_after cursor (changes_of (latest_after [] (accepted test cs))))
chunk_kept make test cursor most n cs h =
    let behind = where_name (is_after cursor) (latest_after [] (accepted test cs)) in
    let front : kept_after test cursor n [] cs ≡ take n behind = ap (λ es. kept_after test cursor n es cs) (sym (take_all n [] (omega arith))) ∙ kept_front test cursor n [] cs ∙ ap (take n) (behind_latest cursor [] (accepted test cs) refl) in
    ap (λ es. chunk_of make most (changes_of es)) front
    ∙ ap (chunk_of make most) (sym (take-map _ n behind))
    ∙ chunk_front make most n (changes_of behind) h
    ∙ ap (chunk_of make most) (sym (behind_changes cursor (latest_after [] (accepted test cs))))
