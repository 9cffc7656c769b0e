-- The parameters that a form was written of are read back from it.
use Rattle.std.proofs.Common.{◌≡◌, ℕ, suc, zero, ◌<◌, ◌≤◌, ◌^◌, nat_lt, nat_le, Bool, true, false, if◌then◌else◌, List, [], ◌∷◌, ◌++◌, map, codes, decimal, bytes_eq, All as Every-one, Option, Some, None, option_map, option_and_then, refl, ap, ◌∙◌, arith, lit<}
use Rattle.std.specs.List.{list_all, AllByRecursion, join_with_byte}
use Rattle.std.proofs.lemmas.Bool.{and_parts, ltb-true, leb-true, lt-ltb}
use Rattle.std.proofs.lemmas.List.Elements.{All-nil, All-cons}
use Rattle.bus_types.specs.declared.change.Key.TheVariants.{Long}
use Rattle.bus_types.specs.declared.row.Cursor.{Cursor}
use Rattle.bus_types.specs.declared.row.Cursor.TheVariants.{Start, After}
use Rattle.bus_types.specs.Text.{is_digit, IsCursor, cursor_text}
use Rattle.bus_types.proofs.Numbers.{all_digits-decimal}
use Rattle.partition_filter.specs.declared.rule.Keys.{Keys}
use Rattle.partition_filter.specs.declared.rule.Keys.TheVariants.{Every, Remainder, Quotient}
use Rattle.partition_filter.specs.declared.rule.Rule.{Rule}
use Rattle.partition_filter.specs.Selection.{Selection}
use Rattle.partition_filter.specs.Selection.Selection.{All, Rules}
use Rattle.partition_filter.specs.Spelling.{listed_text, keys_text, rule_text, filter_text, IsListed, IsKeys, IsRule, IsFilter}
use Rattle.bus_http.specs.Asking.{flag_text}
use Rattle.std.specs.Str.Lossy.{utf8_lossy}
use Rattle.std.specs.Str.{IsAscii}
use Rattle.std.proofs.lemmas.Str.{utf8_lossy-IsUtf8, IsUtf8-from_ascii}
use Rattle.form_urlencoded.specs.Form.{raw_pairs, decode, extend_pairs}
use Rattle.form_urlencoded.proofs.FormLemmas.{round_trip, IsBytePair}
use Rattle.bus_http.specs.Query.{text_of, first_named, unless, parameter}

-- names and values that stand for themselves
abbrev pub plain_first : List ℕ → List (List ℕ × List ℕ) → Option (List ℕ × List (List ℕ × List ℕ))
plain_first name [] = None
plain_first name (pair ∷ pairs) = if bytes_eq pair.0 name then Some (pair.1, pairs) else plain_first name pairs

abbrev pub plain_alone : List ℕ → Option (List ℕ × List (List ℕ × List ℕ)) → Option (List ℕ)
plain_alone name None = None
plain_alone name (Some found) = unless (plain_first name found.1) found.0

-- the value of the one pair of a name
abbrev pub plain_parameter : List ℕ → List (List ℕ × List ℕ) → Option (List ℕ)
plain_parameter name pairs = plain_alone name (plain_first name pairs)

-- what encoded pairs stand for
abbrev texts : List (List ℕ × List ℕ) → List (List ℕ × List ℕ)
texts rs = map (λ r. (text_of r.0, text_of r.1)) rs

abbrev found_text : List ℕ × List (List ℕ × List ℕ) → List ℕ × List (List ℕ × List ℕ)
found_text f = (text_of f.0, texts f.1)

first_texts : (name : List ℕ) (rs : List (List ℕ × List ℕ)) → option_map found_text (first_named name rs) ≡ plain_first name (texts rs)
first_texts name [] = refl
first_texts name (r ∷ rs) = by_test (bytes_eq (text_of r.0) name) (first_texts name rs)
  where
    by_test : (t : Bool) → option_map found_text (first_named name rs) ≡ plain_first name (texts rs)
        → option_map found_text (if t then Some (r.1, rs) else first_named name rs) ≡ (if t then Some (text_of r.1, texts rs) else plain_first name (texts rs))
    by_test true h = refl
    by_test false h = h

unless_same : {A B : Type 0} (f : A → B) (o : Option A) (text : List ℕ) → unless o text ≡ unless (option_map f o) text
unless_same f None text = refl
unless_same f (Some a) text = refl

parameter_texts : (name : List ℕ) (rs : List (List ℕ × List ℕ)) → option_and_then (λ found. unless (first_named name found.1) (text_of found.0)) (first_named name rs) ≡ plain_parameter name (texts rs)
parameter_texts name rs = by_first (first_named name rs) (first_texts name rs)
  where
    by_first : (o : Option (List ℕ × List (List ℕ × List ℕ))) → option_map found_text o ≡ plain_first name (texts rs)
        → option_and_then (λ found. unless (first_named name found.1) (text_of found.0)) o ≡ plain_alone name (plain_first name (texts rs))
    by_first None h = ap (plain_alone name) h
    by_first (Some f) h =
        unless_same found_text (first_named name f.1) (text_of f.0) ∙ ap (λ o. unless o (text_of f.0)) (first_texts name f.1) ∙ ap (plain_alone name) h

-- a byte of ASCII
abbrev pub is_low : ℕ → Bool
is_low b = nat_lt b 128

-- names and values of ASCII
abbrev pub AreTexts : List (List ℕ × List ℕ) → Type 0
AreTexts [] = Unit {0}
AreTexts (pair ∷ pairs) = (list_all is_low pair.0 ≡ true) × (list_all is_low pair.1 ≡ true) × AreTexts pairs

abbrev IsByte : ℕ → Type 0
IsByte b = b < 256

ascii_of : (bs : List ℕ) → list_all is_low bs ≡ true → IsAscii bs
ascii_of [] low i = lit< tt
ascii_of (b ∷ bs) low zero = ltb-true b 128 (and_parts (is_low b) (list_all is_low bs) low).0
ascii_of (b ∷ bs) low (suc i) = ascii_of bs (and_parts (is_low b) (list_all is_low bs) low).1 i

bytes_of : (bs : List ℕ) → list_all is_low bs ≡ true → Every-one IsByte bs
bytes_of [] low = All-nil IsByte
bytes_of (b ∷ bs) low =
    let parts = and_parts (is_low b) (list_all is_low bs) low in
    let small : b < 128 = ltb-true b 128 parts.0 in
    All-cons IsByte b bs (omega (arith, small)) (bytes_of bs parts.1)

byte_pairs : (pairs : List (List ℕ × List ℕ)) → AreTexts pairs → Every-one IsBytePair pairs
byte_pairs [] texts = All-nil IsBytePair
byte_pairs (pair ∷ pairs) texts = All-cons IsBytePair pair pairs (bytes_of pair.0 texts.0, bytes_of pair.1 texts.1) (byte_pairs pairs texts.2)

lossy_same : (bs : List ℕ) → list_all is_low bs ≡ true → utf8_lossy bs ≡ bs
lossy_same bs low = utf8_lossy-IsUtf8 bs (IsUtf8-from_ascii bs (ascii_of bs low))

abbrev lossy_pair : List ℕ × List ℕ → List ℕ × List ℕ
lossy_pair p = (utf8_lossy p.0, utf8_lossy p.1)

lossy_pairs : (pairs : List (List ℕ × List ℕ)) → AreTexts pairs → map lossy_pair pairs ≡ pairs
lossy_pairs [] texts = refl
lossy_pairs (pair ∷ pairs) texts = λ i. (lossy_same pair.0 texts.0 i, lossy_same pair.1 texts.1 i) ∷ lossy_pairs pairs texts.2 i

texts_are : (rs : List (List ℕ × List ℕ)) → texts rs ≡ map lossy_pair (map (λ (name, value). (decode name, decode value)) rs)
texts_are [] = refl
texts_are (r ∷ rs) = ap (λ l. (text_of r.0, text_of r.1) ∷ l) (texts_are rs)

pairs_again : (pairs : List (List ℕ × List ℕ)) → AreTexts pairs → texts (raw_pairs (extend_pairs [] pairs)) ≡ pairs
pairs_again pairs are = texts_are (raw_pairs (extend_pairs [] pairs)) ∙ ap (map lossy_pair) (round_trip pairs (byte_pairs pairs are)) ∙ lossy_pairs pairs are

-- a parameter of a form is the one that was written
pub parameter_again : (name : List ℕ) (pairs : List (List ℕ × List ℕ)) → AreTexts pairs → parameter name (extend_pairs [] pairs) ≡ plain_parameter name pairs
unfolding parameter
parameter_again name pairs are = parameter_texts name (raw_pairs (extend_pairs [] pairs)) ∙ ap (plain_parameter name) (pairs_again pairs are)

-- ---- texts of ASCII

pub digits_low : (bs : List ℕ) → list_all is_digit bs ≡ true → list_all is_low bs ≡ true
digits_low [] all = refl
digits_low (b ∷ bs) all =
    let parts = and_parts (is_digit b) (list_all is_digit bs) all in
    let high : b ≤ 57 = leb-true b 57 (and_parts (nat_le 48 b) (nat_le b 57) parts.0).1 in
    rw (lt-ltb b 128 (omega (arith, high)), digits_low bs parts.1) refl

pub number_low : (n : ℕ) → n < 2 ^ 64 → list_all is_low (decimal n) ≡ true
number_low n fits = digits_low (decimal n) (all_digits-decimal n fits)

pub both_low : (xs ys : List ℕ) → list_all is_low xs ≡ true → list_all is_low ys ≡ true → list_all is_low (xs ++ ys) ≡ true
both_low [] ys a b = b
both_low (x ∷ xs) ys a b =
    let parts = and_parts (is_low x) (list_all is_low xs) a in
    rw (parts.0, both_low xs ys parts.1 b) refl

pub cursor_low : (cursor : Cursor) → IsCursor cursor → list_all is_low (cursor_text cursor) ≡ true
cursor_low Start h = refl
cursor_low (After source (Long key)) h =
    both_low (decimal source ++ codes "/") (decimal key) (both_low (decimal source) (codes "/") (number_low source (omega (arith, h.0))) refl) (number_low key h.1)

pub flag_low : (flag : Bool) → list_all is_low (flag_text flag) ≡ true
flag_low true = refl
flag_low false = refl

joined_low : (c : ℕ) (texts : List (List ℕ)) → is_low c ≡ true → AllByRecursion (λ t. list_all is_low t ≡ true) texts → list_all is_low (join_with_byte c texts) ≡ true
joined_low c [] low all = refl
joined_low c (x ∷ []) low all = all.0
joined_low c (x ∷ y ∷ xs) low all = both_low x (c ∷ join_with_byte c (y ∷ xs)) all.0 (rw (low, joined_low c (y ∷ xs) low all.1) refl)

numbers_low : (limit : ℕ) (ns : List ℕ) → limit ≤ 2 ^ 64 → AllByRecursion (λ b. b < limit) ns → AllByRecursion (λ t. list_all is_low t ≡ true) (map decimal ns)
numbers_low limit [] top all = tt
numbers_low limit (n ∷ ns) top all = (number_low n (omega (arith, all.0, top)), numbers_low limit ns top all.1)

listed_low : (limit : ℕ) (ns : List ℕ) → limit ≤ 2 ^ 64 → IsListed limit ns → list_all is_low (listed_text ns) ≡ true
listed_low limit ns top is = joined_low 44 (map decimal ns) refl (numbers_low limit ns top is.below)

keys_low : (keys : Keys) → IsKeys keys → list_all is_low (keys_text keys) ≡ true
keys_low Every h = refl
keys_low (Remainder by listed) h =
    both_low (codes "%") (decimal by ++ (codes ":" ++ listed_text listed)) refl
    (both_low (decimal by) (codes ":" ++ listed_text listed) (number_low by (omega (arith, h.1))) (both_low (codes ":") (listed_text listed) refl (listed_low by listed (omega (arith, h.1)) h.2)))
keys_low (Quotient by listed) h =
    both_low (codes "/") (decimal by ++ (codes ":" ++ listed_text listed)) refl
    (both_low (decimal by) (codes ":" ++ listed_text listed) (number_low by h.1) (both_low (codes ":") (listed_text listed) refl (listed_low (2 ^ 64) listed (omega arith) h.2)))

rules_low : (rules : List Rule) → AllByRecursion IsRule rules → AllByRecursion (λ t. list_all is_low t ≡ true) (map rule_text rules)
rules_low [] all = tt
rules_low (r ∷ rules) all =
    (both_low (decimal r.source) (keys_text r.keys) (number_low r.source (omega (arith, all.0.0))) (keys_low r.keys all.0.1), rules_low rules all.1)

pub filter_low : (filter : Selection) → IsFilter filter → list_all is_low (filter_text filter) ≡ true
filter_low All h = refl
filter_low (Rules rules) h = joined_low 59 (map rule_text rules) refl (rules_low rules h.each)
