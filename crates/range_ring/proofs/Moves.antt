-- The six kinds of step keep the rule.
use Rattle.std.proofs.Common.{◌≡◌, ◌≢◌, ℕ, zero, suc, ◌+◌, ◌<◌, ◌≤◌, min, max, ⊎_elim, true, false, List, [], ◌∷◌, ◌++◌, length, Option, Some, None, refl, sym, ap, subst, ◌∙◌, arith}
use Rattle.std.specs.Prelude.{slice_index, slice_set}
use Rattle.std.proofs.Math.Nat.{max-le, le-max_left, max-eq_left, max-eq_right, min-eq_left, le-min}
use Rattle.std.proofs.lemmas.Bool.{both_ways}
use mathlib.Core.Option.{some, none, some-injective, some-ne-none}
use lib.ListN.{get_elem?}
use Rattle.atomic_table.specs.Table.{State, Me, step, Act, keeps, Valid, carried_after, Allows, Splits, Joins, opening}
use Rattle.atomic_table.proofs.Lists.{at_set, at_snoc, set_again}
use Rattle.bus_types.specs.Window.{Span}
use Rattle.bus_types.specs.Timeline.{IsTold}
use Rattle.bus_types.specs.Relay.{IsRoom}
use Rattle.range_ring.specs.declared.words.Limits.{Limits}
use Rattle.range_ring.specs.declared.words.View.{View}
use Rattle.range_ring.specs.Words.{room_of, evicted_at, IsSeen, InTime, WordsStand, Agrees, Kept, feeding, floor_seen, tail_seen, floor_raised, tail_raised, copied, met, spent, MayEvict, MayPublish}
use Rattle.range_ring.proofs.Evictions.{Evicts, evicts, evicts_nothing}

abbrev pub Rule : Limits → Option (List Span) → State ℕ View → Type 0
Rule limits told s = Kept limits told s.words s.views

abbrev Each : ℕ → ℕ → ℕ → List View → Type 0
Each feeder floor tail views = (number : ℕ) (v : View) → get_elem? views number ≡ some v → Agrees feeder floor tail number v

-- ---- views

-- one view changes, and the words may rise for the others
each_set : (feeder floor tail other end id : ℕ) (views : List View) (w : View) → Each feeder floor tail views → Agrees feeder other end id w
    → ((number : ℕ) (v : View) → number ≢ id → Agrees feeder floor tail number v → Agrees feeder other end number v) → Each feeder other end (slice_set views id w)
each_set feeder floor tail other end id views w each mine others number v there =
    ⊎_elim
    (λ here. subst (λ (u : View). Agrees feeder other end number u) here.1 (subst (λ (n : ℕ). Agrees feeder other end n w) (sym here.0) mine))
    (λ apart. others number v apart.0 (each number v apart.1))
    (at_set views id number w v there)

-- a seat's view is one of those that the rule speaks of
each_same : (feeder floor tail id : ℕ) (views : List View) (w : View) → Each feeder floor tail views → Agrees feeder floor tail id w → Each feeder floor tail (slice_set views id w)
each_same feeder floor tail id views w each mine = each_set feeder floor tail floor tail id views w each mine (λ number v apart agrees. agrees)

each_snoc : (feeder floor tail : ℕ) (views : List View) (w : View) → Each feeder floor tail views → ((number : ℕ) → Agrees feeder floor tail number w) → Each feeder floor tail (views ++ w ∷ [])
each_snoc feeder floor tail views w each mine number v there =
    ⊎_elim
    (λ old. each number v old)
    (λ same. subst (λ (u : View). Agrees feeder floor tail number u) same (mine number))
    (at_snoc views w v number there)

-- a view that does not feed
watches : (feeder floor tail number : ℕ) (v : View) → v.feeds ≡ false → v.evicted ≤ floor → v.published ≤ tail → Agrees feeder floor tail number v
watches feeder floor tail number v idle e p = record { feeds = λ busy. absurd (both_ways v.feeds idle busy); evicted = e; published = p }

-- ---- the start

each_first : (limits : Limits) → Each 0 0 0 (feeding limits ∷ [])
each_first limits zero v there =
    subst (λ (u : View). Agrees 0 0 0 0 u) (some-injective (feeding limits) v there) (record { feeds = λ busy. (refl, refl, refl); evicted = omega arith; published = omega arith })
each_first limits (suc number) v there = absurd (some-ne-none v (sym there))

pub begins : (limits : Limits) (told : Option (List Span)) (slots : List ℕ) → Rule limits told (opening (0 ∷ 0 ∷ []) slots (feeding limits))
begins limits None slots = record { floor = 0; tail = 0; feeder = 0; words_are = refl; lawful = omega arith; each = each_first limits }
begins limits (Some ws) slots = record {
  floor = 0;
  tail = 0;
  feeder = 0;
  words_are = refl;
  lawful = record { least = omega (arith, evicts_nothing limits ws); most = omega arith; order = omega arith; end = omega arith };
  each = each_first limits;
}

-- ---- loads

pub loads_floor : (limits : Limits) (told : Option (List Span)) (slots id : ℕ) (me : Me ℕ View) → Allows (Rule limits told) slots id me 0 (λ n. n) (floor_seen (step slots 0 0 0 none) me)
loads_floor limits told slots id me s h homes there small =
    let mine = h.each id me.0 there in
    let seen : View = record me.0 { evicted = h.floor; floor_loads = me.0.floor_loads + 1 } in
    let agrees : Agrees h.feeder h.floor h.tail id seen = record {
      feeds = λ busy. ((mine.feeds busy).0, refl, (mine.feeds busy).2);
      evicted = omega arith;
      published = mine.published;
    } in
    let after : Kept limits told (h.floor ∷ h.tail ∷ []) (slice_set s.views id seen) = record {
      floor = h.floor;
      tail = h.tail;
      feeder = h.feeder;
      words_are = refl;
      lawful = h.lawful;
      each = each_same h.feeder h.floor h.tail id s.views seen h.each agrees;
    } in
    subst (λ (ws : List ℕ). (w : View) × (a : Act ℕ) × Valid s.homes me.1 a × Kept limits told (slice_set ws 0 (slice_index ws 0)) (slice_set s.views id w) × floor_seen (step slots 0 0 0 none) me (slice_index ws 0) (w, carried_after me.1 a))
    (sym h.words_are)
    (seen, keeps, tt, after, (refl, mine.evicted))

-- what is seen once TAIL was loaded
tail_lawful : (limits : Limits) (told : Option (List Span)) (evicted floor tail : ℕ) → evicted ≤ floor → WordsStand limits told floor tail → IsSeen limits told evicted tail
tail_lawful limits None evicted floor tail le h = tt
tail_lawful limits (Some ws) evicted floor tail le h = let most = h.most in (h.end, omega arith)

-- no more were evicted than published
words_order : (limits : Limits) (told : Option (List Span)) (floor tail : ℕ) → WordsStand limits told floor tail → floor ≤ tail
words_order limits None floor tail h = h
words_order limits (Some ws) floor tail h = h.order

pub loads_tail : (limits : Limits) (told : Option (List Span)) (slots id : ℕ) (me : Me ℕ View) → me.0.limits ≡ limits → Allows (Rule limits told) slots id me 1 (λ n. n) (tail_seen told (step slots 1 0 0 none) me)
loads_tail limits told slots id me same s h homes there small =
    let mine = h.each id me.0 there in
    let seen : View = record me.0 { published = h.tail; tail_loads = me.0.tail_loads + 1 } in
    let agrees : Agrees h.feeder h.floor h.tail id seen = record {
      feeds = λ busy. ((mine.feeds busy).0, (mine.feeds busy).1, refl);
      evicted = mine.evicted;
      published = omega arith;
    } in
    let after : Kept limits told (h.floor ∷ h.tail ∷ []) (slice_set s.views id seen) = record {
      floor = h.floor;
      tail = h.tail;
      feeder = h.feeder;
      words_are = refl;
      lawful = h.lawful;
      each = each_same h.feeder h.floor h.tail id s.views seen h.each agrees;
    } in
    let lawful : IsSeen me.0.limits told me.0.evicted h.tail = subst (λ (l : Limits). IsSeen l told me.0.evicted h.tail) (sym same) (tail_lawful limits told me.0.evicted h.floor h.tail mine.evicted h.lawful) in
    subst (λ (ws : List ℕ). (w : View) × (a : Act ℕ) × Valid s.homes me.1 a × Kept limits told (slice_set ws 1 (slice_index ws 1)) (slice_set s.views id w) × tail_seen told (step slots 1 0 0 none) me (slice_index ws 1) (w, carried_after me.1 a))
    (sym h.words_are)
    (seen, keeps, tt, after, (refl, mine.published, (let e = mine.evicted in omega (arith, words_order limits told h.floor h.tail h.lawful)), lawful))

-- ---- seats

pub splits : (limits : Limits) (told : Option (List Span)) (id : ℕ) (v : View) → Splits (Rule limits told) id v v (copied v)
splits limits told id v s h there =
    let mine = h.each id v there in
    let more = each_snoc h.feeder h.floor h.tail s.views (copied v) h.each (λ number. watches h.feeder h.floor h.tail number (copied v) refl mine.evicted mine.published) in
    record {
      floor = h.floor;
      tail = h.tail;
      feeder = h.feeder;
      words_are = h.words_are;
      lawful = h.lawful;
      each = subst (λ (views : List View). Each h.feeder h.floor h.tail (views ++ copied v ∷ [])) (sym (set_again s.views id v there)) more;
    }

pub joins : (limits : Limits) (told : Option (List Span)) (id : ℕ) (v : View) (other : ℕ) (w : View) → Joins (Rule limits told) id v other w (met v w) spent
joins limits told id v other w s h there apart beside =
    let mine = h.each id v there in
    let theirs : Agrees h.feeder h.floor h.tail other w = ⊎_elim (λ here. absurd (apart here.0)) (λ old. h.each other w old.1) (at_set s.views id other (met v w) w beside) in
    let agrees : Agrees h.feeder h.floor h.tail id (met v w) = record {
      feeds = λ busy. let same = mine.feeds busy in
          (same.0, max-eq_left (subst (λ (n : ℕ). w.evicted ≤ n) (sym same.1) theirs.evicted) ∙ same.1, max-eq_left (subst (λ (n : ℕ). w.published ≤ n) (sym same.2) theirs.published) ∙ same.2);
      evicted = max-le mine.evicted theirs.evicted;
      published = max-le mine.published theirs.published;
    } in
    let first = each_same h.feeder h.floor h.tail id s.views (met v w) h.each agrees in
    record {
      floor = h.floor;
      tail = h.tail;
      feeder = h.feeder;
      words_are = h.words_are;
      lawful = h.lawful;
      each = each_same h.feeder h.floor h.tail other (slice_set s.views id (met v w)) spent first (watches h.feeder h.floor h.tail other spent refl (omega arith) (omega arith));
    }

-- ---- raises

floor_in_time : (evict : ℕ → ℕ) (count floor tail to : ℕ) → Evicts evict count → InTime evict count floor tail → tail < count → to ≡ evict (tail + 1) → InTime evict count (max floor to) tail
floor_in_time evict count floor tail to facts h more is =
    let next : min (tail + 1) count ≡ tail + 1 = min-eq_left (omega arith) in
    let most : to ≡ evict (min (tail + 1) count) = is ∙ ap evict (sym next) in
    let low : floor ≤ to = subst (λ (m : ℕ). floor ≤ m) (sym most) h.most in
    let below = facts.below (tail + 1) (omega arith) (omega arith) in
    let least = h.least in
    let raised : InTime evict count to tail = record { least = omega arith; most = subst (λ (m : ℕ). to ≤ m) most (omega arith); order = omega arith; end = h.end } in
    subst (λ (m : ℕ). InTime evict count m tail) (sym (max-eq_right low)) raised

tail_in_time : (evict : ℕ → ℕ) (count floor tail : ℕ) → Evicts evict count → InTime evict count floor tail → tail < count → floor ≡ evict (tail + 1) → InTime evict count floor (tail + 1)
tail_in_time evict count floor tail facts h more is =
    let rises = facts.rises (tail + 1) (min (tail + 1 + 1) count) (le-min (omega arith) (omega arith)) in
    let order = h.order in
    record { least = omega arith; most = omega arith; order = omega arith; end = omega arith }

floor_stands : (limits : Limits) (told : Option (List Span)) (floor to : ℕ) (v : View) → IsRoom (room_of limits) → IsTold told → WordsStand limits told floor v.published → MayEvict limits told v to → WordsStand limits told (max floor to) v.published
floor_stands limits None floor to v room lawful h may = max-le h may
floor_stands limits (Some ws) floor to v room lawful h may = floor_in_time (evicted_at limits ws) (length ws) floor v.published to (evicts limits ws room lawful) h may.0 may.1

tail_stands : (limits : Limits) (told : Option (List Span)) (v : View) → IsRoom (room_of limits) → IsTold told → WordsStand limits told v.evicted v.published → MayPublish limits told v → WordsStand limits told v.evicted (v.published + 1)
tail_stands limits None v room lawful h may = omega arith
tail_stands limits (Some ws) v room lawful h may = tail_in_time (evicted_at limits ws) (length ws) v.evicted v.published (evicts limits ws room lawful) h may.0 may.1

-- the words rise, and the feeder knows them
higher : (feeder floor tail other end number id : ℕ) (v : View) → floor ≤ other → tail ≤ end → id ≡ feeder → number ≢ id → Agrees feeder floor tail number v → Agrees feeder other end number v
higher feeder floor tail other end number id v up on is apart h = record {
  feeds = λ busy. absurd (apart ((h.feeds busy).0 ∙ sym is));
  evicted = (let e = h.evicted in omega arith);
  published = (let p = h.published in omega arith);
}

pub raises_floor : (limits : Limits) (told : Option (List Span)) (slots id : ℕ) (me : Me ℕ View) (to : ℕ) → IsRoom (room_of limits) → IsTold told → me.0.feeds ≡ true → MayEvict limits told me.0 to → Allows (Rule limits told) slots id me 0 (λ n. max n to) (floor_raised (step slots 0 to 0 none) me)
raises_floor limits told slots id me to room lawful busy may s h homes there small =
    let mine = h.each id me.0 there in
    let same = mine.feeds busy in
    let seen : View = record me.0 { evicted = max me.0.evicted to } in
    let stands : WordsStand limits told (max h.floor to) h.tail =
    subst (λ (n : ℕ). WordsStand limits told (max h.floor to) n) same.2
    (floor_stands limits told h.floor to me.0 room lawful (subst (λ (n : ℕ). WordsStand limits told h.floor n) (sym same.2) h.lawful) may) in
    let level : max me.0.evicted to ≡ max h.floor to = ap (λ (n : ℕ). max n to) same.1 in
    let agrees : Agrees h.feeder (max h.floor to) h.tail id seen = record { feeds = λ feeds. (same.0, level, same.2); evicted = omega arith; published = mine.published } in
    let after : Kept limits told (max h.floor to ∷ h.tail ∷ []) (slice_set s.views id seen) = record {
      floor = max h.floor to;
      tail = h.tail;
      feeder = h.feeder;
      words_are = refl;
      lawful = stands;
      each = each_set h.feeder h.floor h.tail (max h.floor to) h.tail id s.views seen h.each agrees
          (λ number v apart old. higher h.feeder h.floor h.tail (max h.floor to) h.tail number id v (le-max_left h.floor to) (omega arith) same.0 apart old);
    } in
    subst (λ (ws : List ℕ). (w : View) × (a : Act ℕ) × Valid s.homes me.1 a × Kept limits told (slice_set ws 0 (max (slice_index ws 0) to)) (slice_set s.views id w) × floor_raised (step slots 0 to 0 none) me (slice_index ws 0) (w, carried_after me.1 a))
    (sym h.words_are)
    (seen, keeps, tt, after, refl)

pub raises_tail : (limits : Limits) (told : Option (List Span)) (slots id : ℕ) (me : Me ℕ View) (to : ℕ) → IsRoom (room_of limits) → IsTold told → me.0.feeds ≡ true → to ≡ me.0.published + 1 → MayPublish limits told me.0 → Allows (Rule limits told) slots id me 1 (λ n. max n to) (tail_raised (step slots 1 to 0 none) me)
raises_tail limits told slots id me to room lawful busy next may s h homes there small =
    let mine = h.each id me.0 there in
    let same = mine.feeds busy in
    let seen : View = record me.0 { published = max me.0.published to } in
    let known : WordsStand limits told me.0.evicted me.0.published =
    subst (λ (n : ℕ). WordsStand limits told me.0.evicted n) (sym same.2) (subst (λ (n : ℕ). WordsStand limits told n h.tail) (sym same.1) h.lawful) in
    let up : max h.tail to ≡ me.0.published + 1 = max-eq_right (let p = same.2 in omega arith) ∙ next in
    let stands : WordsStand limits told h.floor (max h.tail to) =
    subst (λ (n : ℕ). WordsStand limits told h.floor n) (sym up) (subst (λ (n : ℕ). WordsStand limits told n (me.0.published + 1)) same.1 (tail_stands limits told me.0 room lawful known may)) in
    let level : max me.0.published to ≡ max h.tail to = ap (λ (n : ℕ). max n to) same.2 in
    let agrees : Agrees h.feeder h.floor (max h.tail to) id seen = record { feeds = λ feeds. (same.0, same.1, level); evicted = mine.evicted; published = omega arith } in
    let after : Kept limits told (h.floor ∷ max h.tail to ∷ []) (slice_set s.views id seen) = record {
      floor = h.floor;
      tail = max h.tail to;
      feeder = h.feeder;
      words_are = refl;
      lawful = stands;
      each = each_set h.feeder h.floor h.tail h.floor (max h.tail to) id s.views seen h.each agrees
          (λ number v apart old. higher h.feeder h.floor h.tail h.floor (max h.tail to) number id v (omega arith) (le-max_left h.tail to) same.0 apart old);
    } in
    subst (λ (ws : List ℕ). (w : View) × (a : Act ℕ) × Valid s.homes me.1 a × Kept limits told (slice_set ws 1 (max (slice_index ws 1) to)) (slice_set s.views id w) × tail_raised (step slots 1 to 0 none) me (slice_index ws 1) (w, carried_after me.1 a))
    (sym h.words_are)
    (seen, keeps, tt, after, refl)
