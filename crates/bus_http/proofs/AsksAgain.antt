-- The query of an ask is read as that ask.
use Rattle.std.proofs.Common.{◌≡◌, ℕ, ◌<◌, ◌≤◌, ◌^◌, Bool, true, false, List, [], codes, decimal, Some, Ok, refl, lit<, arith}
use Rattle.std.proofs.lemmas.Bool.{le-leb, lt-ltb}
use Rattle.form_urlencoded.specs.Form.{extend_pairs}
use Rattle.bus_types.specs.declared.limits.TheConstants.{MAX_SCN}
use Rattle.bus_types.specs.declared.row.Cursor.{Cursor}
use Rattle.bus_types.specs.Text.{IsCursor, cursor_text}
use Rattle.bus_types.proofs.Numbers.{number_again}
use Rattle.bus_types.proofs.CursorTexts.{cursor_again}
use Rattle.partition_filter.specs.Selection.{Selection}
use Rattle.partition_filter.specs.Spelling.{filter_text, IsFilter}
use Rattle.partition_filter.proofs.FilterTexts.{read_back}
use Rattle.bus_wire.specs.declared.ask.Ask.{Ask}
use Rattle.bus_wire.specs.declared.ask.Ask.TheVariants as asks
use Rattle.bus_http.specs.declared.route.Route.{Route}
use Rattle.bus_http.specs.declared.route.Route.TheVariants as routes
use Rattle.bus_http.specs.Query.{parameter, scn_in, scn_from, scn_above, max_in, filter_in, flag_of, fresh_in, cursor_in}
use Rattle.bus_http.specs.Route.{stream_in, start_in, scan_in, target_in, catchup_in, delta_in, ask_in}
use Rattle.bus_http.specs.Asking.{flag_text, pairs_of, IsInRange}
use Rattle.bus_wire.specs.Asks.{IsAsk}
use Rattle.bus_http.proofs.Forms.{AreTexts, parameter_again, number_low, cursor_low, flag_low, filter_low}

scn_again : (name query : List ℕ) (scn : ℕ) → parameter name query ≡ Some (decimal scn) → scn ≤ MAX_SCN → scn_in name query ≡ Some scn
unfolding scn_in
scn_again name query scn is le = rw (is, number_again MAX_SCN scn (lit< tt) le) refl

from_again : (least : ℕ) (name query : List ℕ) (scn : ℕ) → parameter name query ≡ Some (decimal scn) → least ≤ scn → scn ≤ MAX_SCN → scn_from least name query ≡ Some scn
unfolding scn_from
from_again least name query scn is low le = rw (scn_again name query scn is le, le-leb least scn low) refl

above_again : (low : ℕ) (name query : List ℕ) (scn : ℕ) → parameter name query ≡ Some (decimal scn) → low < scn → scn ≤ MAX_SCN → scn_above low name query ≡ Some scn
unfolding scn_above
above_again low name query scn is less le = rw (scn_again name query scn is le, lt-ltb low scn less) refl

max_again : (query : List ℕ) (max : ℕ) → parameter (codes "max") query ≡ Some (decimal max) → 1 ≤ max → max ≤ 16777216 → max_in query ≡ Some max
unfolding max_in
max_again query max is some le = rw (is, number_again 16777216 max (lit< tt) le, le-leb 1 max some) refl

filter_again : (query : List ℕ) (filter : Selection) → parameter (codes "filter") query ≡ Some (filter_text filter) → IsFilter filter → filter_in query ≡ Some filter
unfolding filter_in
filter_again query filter is good = rw (is, read_back filter good) refl

place_again : (query : List ℕ) (cursor : Cursor) → parameter (codes "cursor") query ≡ Some (cursor_text cursor) → IsCursor cursor → cursor_in query ≡ Some cursor
unfolding cursor_in
place_again query cursor is good = rw (is, cursor_again cursor good) refl

flag_again : (flag : Bool) → flag_of (flag_text flag) ≡ Some flag
unfolding flag_of
flag_again true = refl
flag_again false = refl

fresh_again : (query : List ℕ) (flag : Bool) → parameter (codes "fresh") query ≡ Some (flag_text flag) → fresh_in query ≡ Some flag
unfolding fresh_in
fresh_again query flag is = rw (is, flag_again flag) refl

-- the route of an ask
abbrev pub route_by : Ask → Route
route_by (asks.Stream scn filter max) = routes.Stream
route_by (asks.Start since fresh) = routes.Start
route_by (asks.Scan start cursor filter max) = routes.Scan
route_by (asks.Target start atleast) = routes.Target
route_by (asks.Catchup at target filter max) = routes.Catchup
route_by (asks.Delta since target cursor filter max) = routes.Delta

low_of : (n : ℕ) → n ≤ MAX_SCN → n < 2 ^ 64
low_of n le = omega (arith, le)

-- the texts of its parameters are ASCII
pub pairs_low : (ask : Ask) → IsAsk ask → IsInRange ask → AreTexts (pairs_of ask)
pairs_low (asks.Stream scn filter max) rules range = (refl, number_low scn (low_of scn rules), (refl, filter_low filter range.0, (refl, number_low max (omega (arith, range.2)), tt)))
pairs_low (asks.Start since fresh) rules range = (refl, number_low since (low_of since rules), (refl, flag_low fresh, tt))
pairs_low (asks.Scan start cursor filter max) rules range =
    (refl, number_low start (low_of start rules), (refl, cursor_low cursor range.0, (refl, filter_low filter range.1, (refl, number_low max (omega (arith, range.3)), tt))))
pairs_low (asks.Target start atleast) rules range = (refl, number_low start (omega (arith, rules)), (refl, number_low atleast (low_of atleast rules.1), tt))
pairs_low (asks.Catchup at target filter max) rules range =
    (refl, number_low at (omega (arith, rules)), (refl, number_low target (low_of target rules.1), (refl, filter_low filter range.0, (refl, number_low max (omega (arith, range.2)), tt))))
pairs_low (asks.Delta since target cursor filter max) rules range =
    (refl, number_low since (omega (arith, rules)), (refl, number_low target (low_of target rules.1), (refl, cursor_low cursor range.0, (refl, filter_low filter range.1, (refl, number_low max (omega (arith, range.3)), tt)))))

abbrev pub form_of : Ask → List ℕ
form_of ask = extend_pairs [] (pairs_of ask)

-- the query of an ask is read as the ask
pub query_again : (ask : Ask) → IsAsk ask → IsInRange ask → ask_in (route_by ask) (form_of ask) ≡ Ok ask
unfolding ask_in stream_in start_in scan_in target_in catchup_in delta_in
query_again (asks.Stream scn filter max) rules range =
    let ask = asks.Stream scn filter max in
    let of = λ (name : List ℕ). parameter_again name (pairs_of ask) (pairs_low ask rules range) in
    rw (scn_again (codes "scn") (form_of ask) scn (of (codes "scn")) rules, filter_again (form_of ask) filter (of (codes "filter")) range.0, max_again (form_of ask) max (of (codes "max")) range.1 range.2) refl
query_again (asks.Start since fresh) rules range =
    let ask = asks.Start since fresh in
    let of = λ (name : List ℕ). parameter_again name (pairs_of ask) (pairs_low ask rules range) in
    rw (scn_again (codes "since") (form_of ask) since (of (codes "since")) rules, fresh_again (form_of ask) fresh (of (codes "fresh"))) refl
query_again (asks.Scan start cursor filter max) rules range =
    let ask = asks.Scan start cursor filter max in
    let of = λ (name : List ℕ). parameter_again name (pairs_of ask) (pairs_low ask rules range) in
    rw (
      scn_again (codes "start") (form_of ask) start (of (codes "start")) rules,
      place_again (form_of ask) cursor (of (codes "cursor")) range.0,
      filter_again (form_of ask) filter (of (codes "filter")) range.1,
      max_again (form_of ask) max (of (codes "max")) range.2 range.3,
    ) refl
query_again (asks.Target start atleast) rules range =
    let ask = asks.Target start atleast in
    let of = λ (name : List ℕ). parameter_again name (pairs_of ask) (pairs_low ask rules range) in
    rw (scn_again (codes "start") (form_of ask) start (of (codes "start")) (omega (arith, rules)), from_again start (codes "atleast") (form_of ask) atleast (of (codes "atleast")) rules.0 rules.1) refl
query_again (asks.Catchup at target filter max) rules range =
    let ask = asks.Catchup at target filter max in
    let of = λ (name : List ℕ). parameter_again name (pairs_of ask) (pairs_low ask rules range) in
    rw (
      scn_again (codes "at") (form_of ask) at (of (codes "at")) (omega (arith, rules)),
      above_again at (codes "target") (form_of ask) target (of (codes "target")) rules.0 rules.1,
      filter_again (form_of ask) filter (of (codes "filter")) range.0,
      max_again (form_of ask) max (of (codes "max")) range.1 range.2,
    ) refl
query_again (asks.Delta since target cursor filter max) rules range =
    let ask = asks.Delta since target cursor filter max in
    let of = λ (name : List ℕ). parameter_again name (pairs_of ask) (pairs_low ask rules range) in
    rw (
      scn_again (codes "since") (form_of ask) since (of (codes "since")) (omega (arith, rules)),
      above_again since (codes "target") (form_of ask) target (of (codes "target")) rules.0 rules.1,
      place_again (form_of ask) cursor (of (codes "cursor")) range.0,
      filter_again (form_of ask) filter (of (codes "filter")) range.1,
      max_again (form_of ask) max (of (codes "max")) range.2 range.3,
    ) refl
