-- The sizes of the windows that a feeder has not evicted, as it publishes one more.
use Rattle.std.proofs.Common.{◌≡◌, ℕ, ◌+◌, ◌-◌, ◌<◌, ◌≤◌, true, false, ◌&&◌, nat_le, List, [], ◌∷◌, ◌++◌, length, length-append, get_or, drop, refl, sym, ap, subst, ◌∙◌, arith}
use Rattle.std.proofs.lemmas.List.{drop_more, drop_all, drop-drop, drop-append-le, length-drop}
use Rattle.bus_types.specs.Relay.{Room, IsRoom, sum_of, has_room, surplus}
use Rattle.bus_types.proofs.Floors.{sum_of-append, roomy_from, roomy_parts, surplus_nil, surplus_none, surplus_first, surplus_roomy}
use Rattle.range_ring.specs.declared.words.Limits.{Limits}
use Rattle.range_ring.specs.Words.{room_of}
use Rattle.range_ring.specs.Stocked.{surplus_for, StockIs, IsStock, grown}
use Rattle.range_ring.proofs.Evictions.{last_stays}

pub sum_snoc : (xs : List ℕ) (y : ℕ) → sum_of xs + y ≡ sum_of (xs ++ y ∷ [])
sum_snoc xs y = omega (arith, sum_of-append xs (y ∷ []))

pub drop_next : (xs : List ℕ) (n : ℕ) → drop 1 (drop n xs) ≡ drop (n + 1) xs
drop_next xs n = drop-drop 1 n xs

-- where there is room for all, none is evicted
surplus_kept : (room : Room) (xs : List ℕ) → has_room room xs ≡ true → surplus room xs ≡ 0
surplus_kept room [] h = surplus_nil room
surplus_kept room (x ∷ xs) h = surplus_none room x xs h

-- what a search for the surplus knows once so many of the oldest are thought away
pub record Left (limits : Limits) (xs : List ℕ) (size gone total : ℕ) : Type 0 where
  pub total_is : total ≡ sum_of (drop gone xs) + size
  pub surplus_is : surplus_for limits xs size ≡ gone + surplus_for limits (drop gone xs) size

room_is : (limits : Limits) (xs : List ℕ) (size count total : ℕ) → count ≡ length xs + 1 → total ≡ sum_of xs + size → (nat_le count limits.windows && nat_le total limits.bytes) ≡ has_room (room_of limits) (xs ++ size ∷ [])
room_is limits xs size count total c t =
    let counted : count ≡ length (xs ++ size ∷ []) = omega (arith, length-append xs (size ∷ [])) in
    λ i. nat_le (counted i) limits.windows && nat_le ((t ∙ sum_snoc xs size) i) limits.bytes

-- there is room for the rest
pub stops : (limits : Limits) (xs : List ℕ) (size gone total count : ℕ) → count ≡ length (drop gone xs) + 1 → Left limits xs size gone total → (nat_le count limits.windows && nat_le total limits.bytes) ≡ true → gone ≡ surplus_for limits xs size
stops limits xs size gone total count c left h =
    let none = surplus_kept (room_of limits) (drop gone xs ++ size ∷ []) (sym (room_is limits (drop gone xs) size count total c left.total_is) ∙ h) in
    let is = left.surplus_is in
    omega arith

-- there is none
pub goes_on : (limits : Limits) (xs : List ℕ) (size gone total count x : ℕ) → gone < length xs → x ≡ get_or xs gone x → count ≡ length (drop gone xs) + 1 → Left limits xs size gone total → (nat_le count limits.windows && nat_le total limits.bytes) ≡ false → Left limits xs size (gone + 1) (total - x)
goes_on limits xs size gone total count x lt here c left h =
    let split : drop gone xs ≡ x ∷ drop (gone + 1) xs = drop_more xs gone x lt ∙ ap (λ (y : ℕ). y ∷ drop (gone + 1) xs) (sym here) in
    let full : has_room (room_of limits) (x ∷ drop (gone + 1) xs ++ size ∷ []) ≡ false =
    subst (λ (zs : List ℕ). has_room (room_of limits) (zs ++ size ∷ []) ≡ false) split (sym (room_is limits (drop gone xs) size count total c left.total_is) ∙ h) in
    let first = surplus_first (room_of limits) x (drop (gone + 1) xs ++ size ∷ []) full in
    let total_is : total ≡ (x + sum_of (drop (gone + 1) xs)) + size = left.total_is ∙ ap (λ (zs : List ℕ). sum_of zs + size) split in
    let surplus_is : surplus_for limits xs size ≡ gone + surplus (room_of limits) (x ∷ drop (gone + 1) xs ++ size ∷ []) = left.surplus_is ∙ ap (λ (zs : List ℕ). gone + surplus (room_of limits) (zs ++ size ∷ [])) split in
    record { total_is = omega arith; surplus_is = omega arith }

-- the last one is kept
pub ends : (limits : Limits) (xs : List ℕ) (size total : ℕ) → IsRoom (room_of limits) → size ≤ 1048576 → Left limits xs size (length xs) total → length xs ≡ surplus_for limits xs size
ends limits xs size total room small left =
    let bytes = room.bytes.0 in
    let windows = room.windows.0 in
    let fits : has_room (room_of limits) (size ∷ []) ≡ true = roomy_from (room_of limits) (size ∷ []) (omega arith) (omega arith) in
    let none = surplus_none (room_of limits) size [] fits in
    let is : surplus_for limits xs size ≡ length xs + surplus (room_of limits) (size ∷ []) = left.surplus_is ∙ ap (λ (zs : List ℕ). length xs + surplus (room_of limits) (zs ++ size ∷ [])) (drop_all (length xs) xs (omega arith)) in
    omega arith

pub begins : (limits : Limits) (xs : List ℕ) (size : ℕ) → Left limits xs size 0 (sum_of xs + size)
begins limits xs size = record { total_is = refl; surplus_is = omega arith }

-- ---- one more window

pub record Grows (s : StockIs) (bound size gone : ℕ) : Type 0 where
  pub room : length (drop gone s.sizes) < bound
  pub total : sum_of (drop gone s.sizes) + size < 18446744073709551616
  pub stock : IsStock (record { limits = s.limits; evicted = s.evicted + gone; published = s.published + 1; sizes = drop gone s.sizes ++ size ∷ [] }) bound
  pub is : record { limits = s.limits; evicted = s.evicted + gone; published = s.published + 1; sizes = drop gone s.sizes ++ size ∷ [] } ≡ grown s size

pub grows : (s : StockIs) (bound size gone : ℕ) → IsStock s bound → size ≤ 1048576 → s.published < 9223372036854775808 → gone ≡ surplus_for s.limits s.sizes size → Grows s bound size gone
grows s bound size gone h small early is =
    let bytes = h.room.bytes in
    let windows = h.room.windows.0 in
    let few : gone ≤ length s.sizes = subst (λ (n : ℕ). n ≤ length s.sizes) (sym is) (last_stays (room_of s.limits) s.sizes size (omega arith) (omega arith)) in
    let rest : drop gone (s.sizes ++ size ∷ []) ≡ drop gone s.sizes ++ size ∷ [] = drop-append-le gone s.sizes (size ∷ []) few in
    let kept : has_room (room_of s.limits) (drop gone s.sizes ++ size ∷ []) ≡ true =
    subst (λ (zs : List ℕ). has_room (room_of s.limits) zs ≡ true) (ap (λ (n : ℕ). drop n (s.sizes ++ size ∷ [])) (sym is) ∙ rest) (surplus_roomy (room_of s.limits) (s.sizes ++ size ∷ [])) in
    let parts = roomy_parts (room_of s.limits) (drop gone s.sizes ++ size ∷ []) kept in
    let long = length-append (drop gone s.sizes) (size ∷ []) in
    let left = length-drop gone s.sizes in
    let count = h.count in
    let most = h.most in
    record {
      room = (let p = parts.0 in omega arith);
      total = (let p = parts.1 in omega (arith, sum_snoc (drop gone s.sizes) size));
      stock = record { count = omega arith; fits = kept; room = h.room; most = h.most; small = omega arith };
      is = λ i. record { limits = s.limits; evicted = s.evicted + is i; published = s.published + 1; sizes = (sym rest ∙ ap (λ (n : ℕ). drop n (s.sizes ++ size ∷ [])) is) i };
    }
