-- A name behind all that there are.
use Rattle.std.proofs.Common.{◌≡◌, ℕ, suc, true, false, List, [], ◌∷◌, ◌++◌, length, take, Option, Ordering, Less, Equal, Greater, is_lt, true≢false, refl, sym, ap, subst, ◌∙◌, arith}
use Rattle.std.specs.Ordering.{match_ordering, ordering_reverse}
use Rattle.std.specs.Map.{keys_of}
use Rattle.std.specs.List.{All}
use Rattle.std.specs.BTreeMap.{insert_entry}
use Rattle.bus_types.specs.declared.change.RowName.{RowName}
use Rattle.bus_types.specs.contracts.change.RowNameOrd.TheImpl.{cmp-value}
use Rattle.bus_types.specs.Change.{name_cmp}
use Rattle.bus_types.specs.Latest.{Latest}
use Rattle.bus_types.proofs.Names.{name_cmp_total}
use Rattle.bus_stores.proofs.Rooms.{names_cmp}
use Rattle.delta_consolidate.specs.Latest.{kept}
use Rattle.delta_consolidate.proofs.Appending.{front}

-- no name is above this one
abbrev AreUpto : (RowName → RowName → Ordering) → RowName → Latest → Type 0
AreUpto R last es = All (λ q. is_lt (R last q) ≡ false) (keys_of es)

less : (r : Ordering) → is_lt r ≡ true → r ≡ Less
less Less e = refl
less Equal e = absurd (true≢false (sym e))
less Greater e = absurd (true≢false (sym e))

-- a name that is not above another stands before what is
before : (last q k : RowName) → is_lt (name_cmp last q) ≡ false → name_cmp last k ≡ Less → name_cmp q k ≡ Less
before last q k upto above =
    elim (name_cmp last q) as (λ r. name_cmp last q ≡ r → is_lt r ≡ false → name_cmp q k ≡ Less) [
      | Less ↦ λ e h. absurd (true≢false h)
      | Equal ↦ λ e h. sym (name_cmp_total.congr last q k e) ∙ above
      | Greater ↦ λ e h. name_cmp_total.trans q last k (name_cmp_total.antisymm q last ∙ ap ordering_reverse e) above
    ] refl upto

-- an insert behind all names
inserted_last : (last k : RowName) (put : Option (List ℕ)) (es : Latest) → AreUpto name_cmp last es → name_cmp last k ≡ Less → insert_entry name_cmp es k put ≡ es ++ (k, put) ∷ []
inserted_last last k put [] upto above = refl
inserted_last last k put (e ∷ es) upto above =
    let rest = inserted_last last k put es (λ n d h. upto (suc n) d (omega (arith, h))) above in
    let first : is_lt (name_cmp last e.0) ≡ false = upto 0 e.0 (omega arith) in
    let greater = name_cmp_total.antisymm k e.0 ∙ ap ordering_reverse (before last e.0 k first above) in
    ap (λ r. match_ordering r ((k, put) ∷ e ∷ es) ((e.0, put) ∷ es) (e ∷ insert_entry name_cmp es k put)) greater ∙ ap (λ l. e ∷ l) rest

-- it changes no front that has all of them
pub beyond : (most : ℕ) (last k : RowName) (put : Option (List ℕ)) (es : Latest) → length es ≡ most → AreUpto cmp-value.it last es → is_lt (name_cmp last k) ≡ true → kept most es k put ≡ es
beyond most last k put es full upto above =
    let lower = subst (λ R. AreUpto R last es) names_cmp upto in
    ap (take most) (inserted_last last k put es lower (less (name_cmp last k) above))
    ∙ ap (λ n. take n (es ++ (k, put) ∷ [])) (sym full)
    ∙ front es ((k, put) ∷ [])
