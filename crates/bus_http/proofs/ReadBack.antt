-- An ask that is written is read as that ask.
use Rattle.std.proofs.Common.{◌≡◌, ℕ, ◌^◌, ◌<◌, ◌≤◌, inl, ◌==◌, ◌&&◌, nat_lt, not, Bool, true, false, List, [], ◌∷◌, ◌++◌, length, codes, decimal, All as Each, Some, Result, Ok, refl, sym, ap, subst, ◌∙◌, append_assoc, length-append, take_all, arith, lit<}
use Rattle.std.specs.List.{list_all}
use Rattle.std.proofs.lemmas.List.{drop_all}
use Rattle.std.proofs.lemmas.Bool.{and_parts, ltb-true}
use Rattle.std.proofs.lemmas.Fmt.{length-decimal-le}
use Rattle.std.proofs.lemmas.List.Elements.{All-nil, All-cons, All-append}
use Rattle.httparse.specs.Grammar.{trim_ows}
use Rattle.bus_types.specs.declared.change.Key.TheVariants.{Long}
use Rattle.bus_types.specs.declared.row.Cursor.{Cursor}
use Rattle.bus_types.specs.declared.row.Cursor.TheVariants.{Start, After}
use Rattle.bus_types.specs.Text.{cut_at, IsCursor, cursor_text}
use Rattle.bus_types.proofs.Cuts.{Lacks, Lacks-from_test, cut_again}
use Rattle.partition_filter.proofs.FilterTexts.{short_text}
use Rattle.bus_wire.specs.declared.ask.Ask.{Ask}
use Rattle.bus_wire.specs.declared.ask.Ask.TheVariants as asks
use Rattle.bus_wire.specs.Asks.{IsAsk}
use Rattle.bus_http.specs.declared.fault.RequestFault.{RequestFault}
use Rattle.bus_http.specs.declared.request.Request.{Request}
use Rattle.bus_http.specs.declared.route.Side.{Side}
use Rattle.bus_http.specs.declared.route.Side.TheVariants.{Relay, Boot}
use Rattle.bus_http.specs.Route.{parts_of, boot_route, route_of, AsksOf}
use Rattle.bus_http.specs.Head.{answered, requested, meaning, Means}
use Rattle.bus_http.specs.Requests.{First, Settled}
use Rattle.bus_http.specs.Asking.{flag_text, path_of, pairs_of, ask_text, IsInRange}
use Rattle.bus_http.proofs.AsksAgain.{route_by, form_of, query_again}
use Rattle.bus_http.proofs.AskHeads.{IsVisible, visible_form, head_tail, whole_text, ends_text, head_of, is_head, most_size, form_size}
use Rattle.bus_http.proofs.Firsts.{settled_head}

-- ---- the target

abbrev target_of : Ask → List ℕ
target_of ask = path_of ask ++ codes "?" ++ form_of ask

regroup : (a b c d e : List ℕ) → a ++ b ++ c ++ d ++ e ≡ a ++ (b ++ c ++ d ++ e)
regroup a b c d e =
    ap (λ (x : List ℕ). x ++ d ++ e) (append_assoc a b c) ∙ ap (λ (x : List ℕ). x ++ e) (append_assoc a (b ++ c) d) ∙ append_assoc a (b ++ c ++ d) e

text_is : (ask : Ask) → ask_text ask ≡ whole_text (target_of ask)
text_is ask = regroup (codes "GET ") (path_of ask) (codes "?") (form_of ask) head_tail

abbrev is_visible : ℕ → Bool
is_visible b = nat_lt 32 b && nat_lt b 127

visible_literal : (bs : List ℕ) → list_all is_visible bs ≡ true → Each IsVisible bs
visible_literal [] all = All-nil IsVisible
visible_literal (b ∷ bs) all =
    let parts = and_parts (is_visible b) (list_all is_visible bs) all in
    let both = and_parts (nat_lt 32 b) (nat_lt b 127) parts.0 in
    All-cons IsVisible b bs (ltb-true 32 b both.0, ltb-true b 127 both.1) (visible_literal bs parts.1)

-- what a path is
record IsPath (path : List ℕ) : Type 0 where
  visible : list_all is_visible (path ++ codes "?") ≡ true
  lacks : list_all (λ b. not (b == 63)) path ≡ true
  short : length path ≤ 8

is_path : (ask : Ask) → IsPath (path_of ask)
is_path (asks.Stream scn filter max) = record { visible = refl; lacks = refl; short = omega arith }
is_path (asks.Start since fresh) = record { visible = refl; lacks = refl; short = omega arith }
is_path (asks.Scan start cursor filter max) = record { visible = refl; lacks = refl; short = omega arith }
is_path (asks.Target start atleast) = record { visible = refl; lacks = refl; short = omega arith }
is_path (asks.Catchup at target filter max) = record { visible = refl; lacks = refl; short = omega arith }
is_path (asks.Delta since target cursor filter max) = record { visible = refl; lacks = refl; short = omega arith }

visible_target : (ask : Ask) → Each IsVisible (target_of ask)
visible_target ask =
    All-append IsVisible (path_of ask ++ codes "?") (form_of ask) (visible_literal (path_of ask ++ codes "?") (is_path ask).visible) (visible_form [] (pairs_of ask) (All-nil IsVisible))

cut_target : (path form : List ℕ) → Lacks 63 path → cut_at 63 (path ++ codes "?" ++ form) ≡ Some (path, form)
cut_target path form lacks = ap (cut_at 63) (append_assoc path (codes "?") form) ∙ cut_again 63 path form lacks

parts_again : (path form : List ℕ) → Lacks 63 path → parts_of (path ++ codes "?" ++ form) ≡ (path, form)
parts_again path form lacks = rw (cut_target path form lacks) refl

route_again : (side : Side) (ask : Ask) → AsksOf side ask → route_of side (path_of ask) ≡ Some (route_by ask)
unfolding route_of boot_route
route_again Relay (asks.Stream scn filter max) h = refl
route_again Relay (asks.Start since fresh) h = absurd h
route_again Relay (asks.Scan start cursor filter max) h = absurd h
route_again Relay (asks.Target start atleast) h = absurd h
route_again Relay (asks.Catchup at target filter max) h = absurd h
route_again Relay (asks.Delta since target cursor filter max) h = absurd h
route_again Boot (asks.Stream scn filter max) h = absurd h
route_again Boot (asks.Start since fresh) h = refl
route_again Boot (asks.Scan start cursor filter max) h = refl
route_again Boot (asks.Target start atleast) h = refl
route_again Boot (asks.Catchup at target filter max) h = refl
route_again Boot (asks.Delta since target cursor filter max) h = refl

-- ---- what its head means

abbrev Answer : Type 0
Answer = Result Request RequestFault

abbrev asked : Ask → Answer
asked ask = Ok record { ask = ask; close = false }

answered_again : (side : Side) (ask : Ask) → IsAsk ask → IsInRange ask → AsksOf side ask → answered false (route_of side (path_of ask)) (form_of ask) ≡ asked ask
unfolding answered
answered_again side ask rules range h = rw (route_again side ask h, query_again ask rules range) refl

means_get : (side : Side) (target : List ℕ) → meaning side (head_of target) ≡ answered false (route_of side (parts_of target).0) (parts_of target).1
unfolding requested trim_ows
means_get side target = refl

means_again : (side : Side) (ask : Ask) → IsAsk ask → IsInRange ask → AsksOf side ask → asked ask ≡ meaning side (head_of (target_of ask))
means_again side ask rules range h =
    let lacks : Lacks 63 (path_of ask) = Lacks-from_test (λ b. not (b == 63)) 63 (path_of ask) refl (is_path ask).lacks in
    sym (means_get side (target_of ask) ∙ ap (λ (p : List ℕ × List ℕ). answered false (route_of side p.0) p.1) (parts_again (path_of ask) (form_of ask) lacks)
    ∙ answered_again side ask rules range h)

-- ---- how long it is

number_size : (n : ℕ) → n < 2 ^ 64 → length (decimal n) ≤ 20
number_size n fits = length-decimal-le 20 n (lit< tt) (omega (arith, fits)) fits

cursor_size : (cursor : Cursor) → IsCursor cursor → length (cursor_text cursor) ≤ 41
cursor_size Start h = omega arith
cursor_size (After source (Long key)) h =
    omega (arith, number_size source (omega (arith, h.0)), number_size key h.1, length-append (decimal source ++ codes "/") (decimal key), length-append (decimal source) (codes "/"))

flag_size : (fresh : Bool) → length (flag_text fresh) ≤ 1
flag_size true = omega arith
flag_size false = omega arith

pairs_size : (ask : Ask) → IsAsk ask → IsInRange ask → most_size (pairs_of ask) ≤ 16000
pairs_size (asks.Stream scn filter max) rules range =
    omega (arith, number_size scn (omega (arith, rules)), short_text filter range.0, number_size max (omega (arith, range.2)))
pairs_size (asks.Start since fresh) rules range = omega (arith, number_size since (omega (arith, rules)), flag_size fresh)
pairs_size (asks.Scan start cursor filter max) rules range =
    omega (arith, number_size start (omega (arith, rules)), cursor_size cursor range.0, short_text filter range.1, number_size max (omega (arith, range.3)))
pairs_size (asks.Target start atleast) rules range = omega (arith, number_size start (omega (arith, rules)), number_size atleast (omega (arith, rules.1)))
pairs_size (asks.Catchup at target filter max) rules range =
    omega (arith, number_size at (omega (arith, rules)), number_size target (omega (arith, rules.1)), short_text filter range.0, number_size max (omega (arith, range.2)))
pairs_size (asks.Delta since target cursor filter max) rules range =
    omega (arith, number_size since (omega (arith, rules)), number_size target (omega (arith, rules.1)), cursor_size cursor range.0, short_text filter range.1, number_size max (omega (arith, range.3)))

text_size : (ask : Ask) → IsAsk ask → IsInRange ask → length (whole_text (target_of ask)) ≤ 16384
text_size ask rules range =
    omega (
      arith,
      pairs_size ask rules range,
      form_size [] (pairs_of ask),
      (is_path ask).short,
      length-append (target_of ask) head_tail,
      length-append (path_of ask ++ codes "?") (form_of ask),
      length-append (path_of ask) (codes "?"),
    )

some_target : (ask : Ask) → 0 < length (target_of ask)
some_target ask = omega (arith, length-append (path_of ask ++ codes "?") (form_of ask), length-append (path_of ask) (codes "?"))

-- ---- the request

settled_text : (side : Side) (ask : Ask) → IsAsk ask → IsInRange ask → AsksOf side ask → Settled side (whole_text (target_of ask)) (Ok (Some record { ask = ask; close = false })) []
settled_text side ask rules range h =
    let target = target_of ask in
    let text : List ℕ = whole_text target in
    settled_head side (length text) text [] (Ok (Some record { ask = ask; close = false })) (text_size ask rules range)
    (record { within = omega arith; ends = λ rest. ends_text target rest (visible_target ask) })
    (record {
      answer = asked ask;
      means = subst (λ (t : List ℕ). Means side t (asked ask)) (sym (take_all (length text) text (omega arith)))
          (inl (head_of target, is_head target (some_target ask) (visible_target ask), means_again side ask rules range h));
      result_is = refl;
      rest_is = sym (drop_all (length text) text (omega arith));
    })

pub asked_again : (ask : Ask) → IsAsk ask → IsInRange ask → (side : Side) → AsksOf side ask → (rest : List ℕ) → First side (ask_text ask ++ rest) (Ok (Some record { ask = ask; close = false })) rest
asked_again ask rules range side h rest =
    subst (λ (t : List ℕ). First side (t ++ rest) (Ok (Some record { ask = ask; close = false })) rest) (sym (text_is ask)) (settled_text side ask rules range h rest)
