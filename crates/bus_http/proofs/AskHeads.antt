-- The request of an ask is one head, and nothing more.
use Rattle.std.proofs.Common.{◌≡◌, ℕ, suc, ◌+◌, ◌<◌, ◌≤◌, ⊎_elim, ◌==◌, nat_lt, Bool, true, false, cond, List, [], ◌∷◌, ◌++◌, length, codes, All as Each, Some, refl, sym, ap, ◌∙◌, append_assoc, append-nil, length-append, arith, lit<}
use Rattle.std.specs.List.{list_all}
use Rattle.std.proofs.lemmas.Bool.{and_parts, lt-ltb, ne_eqb}
use Rattle.std.proofs.lemmas.Bool.Decides.{nat_tests}
use Rattle.std.proofs.lemmas.List.Elements.{All-nil, All-cons, All-append, All-weaker}
use Rattle.form_urlencoded.specs.Form.{IsUnchanged, byte_serialize, serialize_pair, append_pair, separator, extend_pairs}
use Rattle.form_urlencoded.proofs.FormLemmas.{IsSerializedByte, All-byte_serialize}
use Rattle.form_urlencoded.proofs.FormLemmas.{byte_serialize-nil, byte_serialize-cons}
use Rattle.form_urlencoded.specs.Form.{is_unchanged, serialize_byte}
use Rattle.percent_encoding.specs.Percent.{percent_encode_byte}
use Rattle.std.proofs.Common.{IsTrue}
use Rattle.std.proofs.lemmas.Bool.{cond_both}
use Rattle.std.proofs.lemmas.Str.{IsUtf8-from_ascii}
use Rattle.std.proofs.lemmas.Str.Ascii.{IsAscii-from_all}
use Rattle.httparse.specs.Grammar.{crlf, RequestHead, print_request, AllPass, IsToken, is_token_byte, is_uri_byte, is_value_byte, IsField}
use Rattle.bus_http.specs.Head.{IsHead}
use Rattle.bus_http.specs.Ending.{end_inside, head_end}

-- ---- what a target is made of

-- a visible byte of ASCII
abbrev pub IsVisible : ℕ → Type 0
IsVisible b = (32 < b) × (b < 127)

visible_unchanged : (b : ℕ) → IsUnchanged b → IsVisible b
visible_unchanged b kept = (grind (arith, nat_tests), grind (arith, nat_tests))

visible_serialized : (b : ℕ) → IsSerializedByte b → IsVisible b
visible_serialized b h = ⊎_elim (visible_unchanged b) (λ other. (grind arith, grind arith)) h.allowed

visible_text : (bs : List ℕ) → Each IsVisible (byte_serialize bs)
visible_text bs = All-weaker IsSerializedByte IsVisible visible_serialized (byte_serialize bs) (All-byte_serialize bs)

visible_pair : (pair : List ℕ × List ℕ) → Each IsVisible (serialize_pair pair)
visible_pair pair =
    All-append IsVisible (byte_serialize pair.0 ++ 61 ∷ []) (byte_serialize pair.1)
    (All-append IsVisible (byte_serialize pair.0) (61 ∷ []) (visible_text pair.0) (All-cons IsVisible 61 [] (lit< tt, lit< tt) (All-nil IsVisible))) (visible_text pair.1)

visible_separator : (form : List ℕ) → Each IsVisible (separator form)
visible_separator form =
    cond_both (nat_lt 0 (length form)) (38 ∷ []) [] (Each IsVisible) (λ _. All-cons IsVisible 38 [] (lit< tt, lit< tt) (All-nil IsVisible)) (λ _. All-nil IsVisible)

pub visible_form : (form : List ℕ) (pairs : List (List ℕ × List ℕ)) → Each IsVisible form → Each IsVisible (extend_pairs form pairs)
visible_form form [] all = all
visible_form form (pair ∷ pairs) all =
    visible_form (append_pair form pair.0 pair.1) pairs
    (All-append IsVisible (form ++ separator form) (serialize_pair pair) (All-append IsVisible form (separator form) all (visible_separator form)) (visible_pair pair))

-- ---- where the head ends

-- bytes in which no line ends
past_inside : (n : ℕ) (bs rest : List ℕ) → Each IsVisible bs → end_inside n (bs ++ rest) ≡ end_inside (n + length bs) rest
past_inside n [] rest all = ap (λ k. end_inside k rest) (omega arith)
past_inside n (b ∷ bs) rest all =
    let one = all 0 b (omega arith) in
    let not : (b == 10) ≡ false = ne_eqb b 10 (λ e. omega (arith, one.0)) in
    rw not (past_inside (n + 1) bs rest (λ k d lt. all (suc k) d (omega arith)) ∙ ap (λ k. end_inside k rest) (omega arith))

abbrev pub head_tail : List ℕ
head_tail = codes " HTTP/1.1\r\nHost: localhost\r\n\r\n"

ends_tail : (n : ℕ) (rest : List ℕ) → end_inside n (head_tail ++ rest) ≡ Some (n + length head_tail)
ends_tail n rest = ap Some (omega arith)

abbrev pub whole_text : List ℕ → List ℕ
whole_text target = codes "GET " ++ (target ++ head_tail)

pub ends_text : (target rest : List ℕ) → Each IsVisible target → head_end (whole_text target ++ rest) ≡ Some (length (whole_text target))
unfolding head_end
ends_text target rest all =
    ap (end_inside 4) (append_assoc target head_tail rest) ∙ past_inside 4 target (head_tail ++ rest) all ∙ ends_tail (4 + length target) rest
    ∙ ap Some (omega (arith, length-append target head_tail))

-- ---- the head

-- the head of a request for a target
abbrev pub head_of : List ℕ → RequestHead
head_of target = record {
  blank = [];
  method = codes "GET";
  target = target;
  minor = 1;
  line_end = crlf;
  fields = record { name = codes "Host"; raw = codes " localhost"; end = crlf } ∷ [];
  last = crlf;
}

four : (a b c d : List ℕ) → a ++ (b ++ (c ++ d)) ≡ (((a ++ b) ++ c) ++ d) ++ []
four a b c d = sym (append_assoc a b (c ++ d)) ∙ sym (append_assoc (a ++ b) c d) ∙ sym (append-nil (((a ++ b) ++ c) ++ d))

printed : (target : List ℕ) → whole_text target ≡ print_request (head_of target) ++ []
unfolding print_request
printed target = ap (λ (l : List ℕ). codes "GET " ++ l) (four target (codes " HTTP/1.1") (codes "\r\n") (codes "Host: localhost\r\n\r\n"))

all_pass : (test : ℕ → Bool) (bs : List ℕ) → list_all test bs ≡ true → AllPass test bs
all_pass test [] all = All-nil (λ b. IsTrue (test b))
all_pass test (b ∷ bs) all =
    let parts = and_parts (test b) (list_all test bs) all in
    All-cons (λ b. IsTrue (test b)) b bs parts.0 (all_pass test bs parts.1)

get_token : IsToken (codes "GET")
unfolding is_token_byte
get_token = (lit< tt, all_pass is_token_byte (codes "GET") refl)

host_field : IsField record { name = codes "Host"; raw = codes " localhost"; end = crlf }
unfolding is_token_byte
host_field = record { name = (lit< tt, all_pass is_token_byte (codes "Host") refl); raw = all_pass is_value_byte (codes " localhost") refl }

uri_visible : (b : ℕ) → IsVisible b → IsTrue (is_uri_byte b)
uri_visible b h = rw (lt-ltb 32 b h.0, ne_eqb b 127 (λ e. omega (arith, h.1))) refl

pub is_head : (target : List ℕ) → 0 < length target → Each IsVisible target → IsHead (whole_text target) (head_of target)
is_head target some all = record {
  reads = (
    record {
      method = get_token;
      target = (some, All-weaker IsVisible (λ b. IsTrue (is_uri_byte b)) uri_visible target all);
      target_text = IsUtf8-from_ascii target (IsAscii-from_all target (All-weaker IsVisible (λ b. b < 128) (λ b h. omega (arith, h.1)) target all));
      minor = omega arith;
      fields = All-cons IsField record { name = codes "Host"; raw = codes " localhost"; end = crlf } [] host_field (All-nil IsField);
    },
    printed target,
  );
  lines = omega arith;
}

-- ---- how long it is

byte_size : (b : ℕ) → length (serialize_byte b) ≤ 3
unfolding percent_encode_byte
byte_size b =
    cond_both (is_unchanged b) (b ∷ []) (cond (b == 32) (43 ∷ []) (percent_encode_byte b)) (λ l. length l ≤ 3)
    (λ _. omega arith) (λ _. cond_both (b == 32) (43 ∷ []) (percent_encode_byte b) (λ l. length l ≤ 3) (λ _. omega arith) (λ _. omega arith))

text_size : (bs : List ℕ) → length (byte_serialize bs) ≤ length bs + length bs + length bs
text_size [] = rw byte_serialize-nil (omega arith)
text_size (b ∷ bs) = rw byte_serialize-cons (omega (arith, byte_size b, text_size bs, length-append (serialize_byte b) (byte_serialize bs)))

-- how long a form of these pairs is at most
abbrev pub most_size : List (List ℕ × List ℕ) → ℕ
most_size [] = 0
most_size (pair ∷ pairs) = 2 + (length pair.0 + length pair.0 + length pair.0) + (length pair.1 + length pair.1 + length pair.1) + most_size pairs

separator_size : (form : List ℕ) → length (separator form) ≤ 1
separator_size form = cond_both (nat_lt 0 (length form)) (38 ∷ []) [] (λ l. length l ≤ 1) (λ _. omega arith) (λ _. omega arith)

pair_size : (pair : List ℕ × List ℕ) → length (serialize_pair pair) ≤ 1 + (length pair.0 + length pair.0 + length pair.0) + (length pair.1 + length pair.1 + length pair.1)
pair_size pair =
    omega (arith, text_size pair.0, text_size pair.1, length-append (byte_serialize pair.0 ++ 61 ∷ []) (byte_serialize pair.1), length-append (byte_serialize pair.0) (61 ∷ []))

pub form_size : (form : List ℕ) (pairs : List (List ℕ × List ℕ)) → length (extend_pairs form pairs) ≤ length form + most_size pairs
form_size form [] = omega arith
form_size form (pair ∷ pairs) =
    omega (arith, form_size (append_pair form pair.0 pair.1) pairs, pair_size pair, separator_size form, length-append (form ++ separator form) (serialize_pair pair), length-append form (separator form))
