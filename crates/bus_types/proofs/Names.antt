-- The order of the names of rows. Only key_cmp_total and key_cmp_exact look into keys.
use Rattle.std.proofs.Common.{◌≡◌, Ordering, Less, Equal, Greater, nat_cmp, refl, ap}
use Rattle.std.specs.Ordering.{ordering_then, ordering_reverse}
use Rattle.std.specs.Cmp.{IsTotalOrder}
use Rattle.std.specs.FinMap.{nat_cmp-IsAntisymmetric}
use Rattle.std.proofs.lemmas.Cmp.{nat_cmp_total, on_total, then_total}
use Rattle.bus_types.specs.declared.change.Key.{Key}
use Rattle.bus_types.specs.declared.change.Key.TheVariants.{Long}
use Rattle.bus_types.specs.declared.change.RowName.{RowName}
use Rattle.bus_types.specs.Change.{key_cmp, name_cmp}

keys_turned : (a b : Key) → key_cmp a b ≡ ordering_reverse (key_cmp b a)
keys_turned (Long a) (Long b) = nat_cmp_total.antisymm a b

keys_chained : (a b c : Key) → key_cmp a b ≡ Less → key_cmp b c ≡ Less → key_cmp a c ≡ Less
keys_chained (Long a) (Long b) (Long c) p q = nat_cmp_total.trans a b c p q

keys_alike : (a b c : Key) → key_cmp a b ≡ Equal → key_cmp a c ≡ key_cmp b c
keys_alike (Long a) (Long b) (Long c) p = nat_cmp_total.congr a b c p

-- the order of keys is total
pub key_cmp_total : IsTotalOrder key_cmp
key_cmp_total = record { antisymm = keys_turned; trans = keys_chained; congr = keys_alike }

-- keys that compare equal are one
pub key_cmp_exact : (a b : Key) → key_cmp a b ≡ Equal → a ≡ b
key_cmp_exact (Long a) (Long b) e = ap Long (nat_cmp-IsAntisymmetric a b e)

-- the order of names is total
pub name_cmp_total : IsTotalOrder name_cmp
name_cmp_total = then_total (on_total (λ (n : RowName). n.source) nat_cmp_total) (on_total (λ (n : RowName). n.key) key_cmp_total)

both_equal : (r s : Ordering) → ordering_then r s ≡ Equal → (r ≡ Equal) × (s ≡ Equal)
both_equal Less s e = absurd (cc)
both_equal Equal s e = (refl, e)
both_equal Greater s e = absurd (cc)

-- names that compare equal are one
pub name_cmp_exact : (a b : RowName) → name_cmp a b ≡ Equal → a ≡ b
name_cmp_exact a b e =
    let parts = both_equal (nat_cmp a.source b.source) (key_cmp a.key b.key) e in
    let source = nat_cmp-IsAntisymmetric a.source b.source parts.0 in
    let key = key_cmp_exact a.key b.key parts.1 in
    λ i. record { source = source i; key = key i }
