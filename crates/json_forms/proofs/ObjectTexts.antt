-- JSON objects and their one text.
use Rattle.std.proofs.Common.{◌≡◌, ℕ, ◌+◌, Bool, true, false, nat_lt, List, [], ◌∷◌, ◌++◌, length, decimal, Option, Some, None, option_and_then, IsUtf8, refl, sym, ap, ◌∙◌, append_assoc, append-nil, length-append, arith}
use Rattle.std.specs.List.{list_all}
use Rattle.std.proofs.lemmas.Bool.{and_parts}
use Rattle.std.proofs.lemmas.Bool.Decides.{nat_tests}
use Rattle.std.proofs.lemmas.Fmt.{IsAscii-decimal}
use Rattle.std.proofs.lemmas.Str.{IsUtf8-append, IsUtf8-from_ascii}
use Rattle.json.specs.Lex.{tokens}
use Rattle.json.specs.Json as json
use Rattle.json.specs.Print.{escape}
use Rattle.json.specs.Tree.{json_tokens, depth, members_depth, HasNumbers, MembersHaveNumbers}
use Rattle.json.proofs.Printed.Decimals.{IsNumber-decimal}
use Rattle.json.proofs.Printed.Strings.{escape_byte_plain}
use Rattle.json.proofs.Printed.Tokens.{tokens-print}
use Rattle.json.proofs.Printed.Trees.{value-json_tokens, ArePrintable-json_tokens}
use Rattle.json.proofs.Printed.Utf8.{are_ascii, IsUtf8-are_ascii}
use Rattle.serde_json.specs.Data.{Data, Members, no_members, put}
use Rattle.serde_json.specs.Read.{of_json, of_members, max_depth, read}
use Rattle.serde_json.specs.Written as written
use Rattle.serde_json.specs.Written.{outline, members_outline, has_float, members_have_float, compact_text, comma_if}
use Rattle.serde_json.proofs.Numbers.{number_of-decimal}
use Rattle.serde_json.proofs.Texts.{print-outline}
use Rattle.json_forms.specs.Objects.{Part, Number, Text, Fixed, Member, is_plain, IsPlain, IsPart, AreMembers, part_data, members_data, object_data, quote, part_text, members_text, object_text, put_all, ObjectForm}

-- ---- plain texts

-- a plain byte is printable ASCII, and no quote and no backslash
escape-plain : (text : List ℕ) → IsPlain text → escape text ≡ text
escape-plain [] h = refl
escape-plain (b ∷ bs) h =
    let parts = and_parts (is_plain b) (list_all is_plain bs) h in
    rw (escape_byte_plain b (λ e. grind (arith, nat_tests)) (λ e. grind (arith, nat_tests)) (grind (arith, nat_tests)), escape-plain bs parts.1) refl

ascii-plain : (text : List ℕ) → IsPlain text → are_ascii text ≡ true
ascii-plain [] h = refl
ascii-plain (b ∷ bs) h =
    let parts = and_parts (is_plain b) (list_all is_plain bs) h in
    let low : nat_lt b 128 ≡ true = grind (arith, nat_tests) in
    rw (low, ascii-plain bs parts.1) refl

-- ---- what JSON prints

printed-part : (part : Part) → IsPart part → compact_text (part_data part) ≡ part_text part
printed-part (Number n) h = refl
printed-part (Text text) h = rw (escape-plain text h) refl
printed-part (Fixed text) h = rw (escape-plain text h) refl

printed-members : (later : Bool) (ms : List Member) → AreMembers ms → written.members_text later (members_data ms) ≡ members_text (comma_if later) ms
printed-members later [] h = refl
printed-members later (m ∷ ms) h = rw (escape-plain m.0 h.0.0, printed-part m.1 h.0.1, printed-members true ms h.1) refl

printed : (ms : List Member) → AreMembers ms → compact_text (object_data ms) ≡ object_text ms
printed ms h = ap (λ (l : List ℕ). 123 ∷ l) (printed-members false ms h)

no_float-members : (ms : List Member) → members_have_float (members_data ms) ≡ false
no_float-members [] = refl
no_float-members (m ∷ ms) = rw (part m.1, no_float-members ms) refl
  where
    part : (p : Part) → has_float (part_data p) ≡ false
    part (Number n) = refl
    part p = refl

-- what a writer says of the text of a value without a float
pub printed_object : (ms : List Member) (d : Data) (text : List ℕ) → AreMembers ms → d ≡ object_data ms → (has_float d ≡ false → text ≡ compact_text d) → text ≡ object_text ms
printed_object ms d text h is says = says (ap has_float is ∙ no_float-members ms) ∙ ap compact_text is ∙ printed ms h

-- ---- what JSON reads

numbers : (ms : List Member) → AreMembers ms → MembersHaveNumbers (members_outline (members_data ms))
numbers [] h = tt
numbers (m ∷ ms) h = (part m.1 h.0.1, numbers ms h.1)
  where
    part : (p : Part) → IsPart p → HasNumbers (outline (part_data p))
    part (Number n) h = IsNumber-decimal n h
    part p h = tt

shallow : (ms : List Member) → members_depth (members_outline (members_data ms)) ≡ 0
shallow [] = refl
shallow (m ∷ ms) = rw (part m.1, shallow ms) refl
  where
    part : (p : Part) → depth (outline (part_data p)) ≡ 0
    part (Number n) = refl
    part p = refl

of_outline : (ms : List Member) (found : Members) → AreMembers ms → of_members (members_outline (members_data ms)) found ≡ Some (put_all ms found)
of_outline [] found h = refl
of_outline (m ∷ ms) found h = rw (part m.1 h.0.1) (of_outline ms (put m.0 (part_data m.1) found) h.1)
  where
    part : (p : Part) → IsPart p → of_json (outline (part_data p)) ≡ Some (part_data p)
    part (Number n) h = rw (number_of-decimal n h) refl
    part p h = refl

read-object_text : (ms : List Member) → AreMembers ms → put_all ms no_members ≡ members_data ms → read (object_text ms) ≡ Some (object_data ms)
read-object_text ms h ordered =
    let d = object_data ms in
    let j = outline d in
    let made : of_json j ≡ Some d = rw (of_outline ms no_members h, ordered) refl in
    let low = shallow ms in
    let listed : tokens (compact_text d) ≡ json_tokens j ++ [] =
    ap tokens (sym (print-outline d)) ∙ tokens-print (json_tokens j) (ArePrintable-json_tokens j (numbers ms h)) ∙ sym (append-nil (json_tokens j)) in
    let whole = ap (json.value max_depth) listed ∙ value-json_tokens j max_depth [] (omega arith) in
    ap read (sym (printed ms h)) ∙ ap (λ o. option_and_then of_json (option_and_then (λ p. json.if_last p.0 p.1) o)) whole ∙ made

-- ---- bytes

utf8-quote : (text : List ℕ) → IsPlain text → IsUtf8 (quote text)
utf8-quote text h = IsUtf8-append (34 ∷ text) (34 ∷ []) (IsUtf8-are_ascii (34 ∷ text) (ascii-plain text h)) (IsUtf8-are_ascii (34 ∷ []) refl)

utf8-part : (part : Part) → IsPart part → IsUtf8 (part_text part)
utf8-part (Number n) h = IsUtf8-from_ascii (decimal n) (IsAscii-decimal n h)
utf8-part (Text text) h = utf8-quote text h
utf8-part (Fixed text) h = utf8-quote text h

utf8-members : (front : List ℕ) (ms : List Member) → are_ascii front ≡ true → AreMembers ms → IsUtf8 (members_text front ms)
utf8-members front [] ascii h = IsUtf8-are_ascii (125 ∷ []) refl
utf8-members front (m ∷ ms) ascii h =
    let rest = IsUtf8-append (part_text m.1) (members_text (44 ∷ []) ms) (utf8-part m.1 h.0.1) (utf8-members (44 ∷ []) ms refl h.1) in
    let behind = IsUtf8-append (58 ∷ []) (part_text m.1 ++ members_text (44 ∷ []) ms) (IsUtf8-are_ascii (58 ∷ []) refl) rest in
    IsUtf8-append front _ (IsUtf8-are_ascii front ascii) (IsUtf8-append (quote m.0) _ (utf8-quote m.0 h.0.0) behind)

utf8-object : (ms : List Member) → AreMembers ms → IsUtf8 (object_text ms)
utf8-object ms h = IsUtf8-append (123 ∷ []) (members_text [] ms) (IsUtf8-are_ascii (123 ∷ []) refl) (utf8-members [] ms refl h)

-- ---- how long

abbrev pub part_size : Part → ℕ
part_size (Number n) = length (decimal n)
part_size (Text text) = length text + 2
part_size (Fixed text) = length text + 2

abbrev pub members_size : ℕ → List Member → ℕ
members_size front [] = 1
members_size front (m ∷ ms) = front + (length m.0 + 3) + part_size m.1 + members_size 1 ms

length-quote : (text : List ℕ) → length (quote text) ≡ length text + 2
length-quote text = omega (arith, length-append text (34 ∷ []))

length-part : (part : Part) → length (part_text part) ≡ part_size part
length-part (Number n) = refl
length-part (Text text) = length-quote text
length-part (Fixed text) = length-quote text

length-members : (front : List ℕ) (ms : List Member) → length (members_text front ms) ≡ members_size (length front) ms
length-members front [] = refl
length-members front (m ∷ ms) =
    let rest = part_text m.1 ++ members_text (44 ∷ []) ms in
    omega (
      arith,
      length-append front (quote m.0 ++ 58 ∷ rest),
      length-append (quote m.0) (58 ∷ rest),
      length-append (part_text m.1) (members_text (44 ∷ []) ms),
      length-quote m.0,
      length-part m.1,
      length-members (44 ∷ []) ms,
    )

pub length-object : (ms : List Member) → length (object_text ms) ≡ 1 + members_size 0 ms
length-object ms = omega (arith, length-members [] ms)

-- ---- the text as literals, numbers and texts one after another

-- a part behind what was written and a literal that wasn't yet
abbrev step : (List ℕ → List ℕ → List ℕ) → List ℕ → List ℕ → Part → List ℕ
step behind done literal (Number n) = behind (done ++ literal ++ decimal n) []
step behind done literal (Text text) = behind (done ++ (literal ++ 34 ∷ []) ++ text) (34 ∷ [])
step behind done literal (Fixed text) = behind done (literal ++ quote text)

abbrev written_from : List ℕ → List ℕ → List ℕ → List Member → List ℕ
written_from done literal front [] = done ++ (literal ++ 125 ∷ [])
written_from done literal front (m ∷ ms) = step (λ d l. written_from d l (44 ∷ []) ms) done (literal ++ (front ++ (quote m.0 ++ 58 ∷ []))) m.1

-- grouped to the left, as a text with its literals is said
abbrev pub in_pieces : List Member → List ℕ
in_pieces members = written_from [] (123 ∷ []) [] members

number_behind : (done literal text rest : List ℕ) → (done ++ literal ++ text) ++ rest ≡ done ++ (literal ++ (text ++ rest))
number_behind done literal text rest = simp append_assoc

text_behind : (done literal text rest : List ℕ) → (done ++ (literal ++ 34 ∷ []) ++ text) ++ 34 ∷ rest ≡ done ++ (literal ++ 34 ∷ ((text ++ 34 ∷ []) ++ rest))
text_behind done literal text rest = simp append_assoc

fixed_behind : (done literal text rest : List ℕ) → done ++ ((literal ++ text) ++ rest) ≡ done ++ (literal ++ (text ++ rest))
fixed_behind done literal text rest = simp append_assoc

key_behind : (done literal front key rest : List ℕ) → done ++ ((literal ++ (front ++ (key ++ 58 ∷ []))) ++ rest) ≡ done ++ (literal ++ (front ++ (key ++ 58 ∷ rest)))
key_behind done literal front key rest = simp append_assoc

step_is : (part : Part) (behind : List ℕ → List ℕ → List ℕ) (rest : List ℕ) → ((done literal : List ℕ) → behind done literal ≡ done ++ (literal ++ rest))
    → (done literal : List ℕ) → step behind done literal part ≡ done ++ (literal ++ (part_text part ++ rest))
step_is (Number n) behind rest is done literal = is (done ++ literal ++ decimal n) [] ∙ number_behind done literal (decimal n) rest
step_is (Text text) behind rest is done literal = is (done ++ (literal ++ 34 ∷ []) ++ text) (34 ∷ []) ∙ text_behind done literal text rest
step_is (Fixed text) behind rest is done literal = is done (literal ++ quote text) ∙ fixed_behind done literal (quote text) rest

written_is : (ms : List Member) (done literal front : List ℕ) → written_from done literal front ms ≡ done ++ (literal ++ members_text front ms)
written_is [] done literal front = refl
written_is (m ∷ ms) done literal front =
    step_is m.1 (λ d l. written_from d l (44 ∷ []) ms) (members_text (44 ∷ []) ms) (λ d l. written_is ms d l (44 ∷ [])) done (literal ++ (front ++ (quote m.0 ++ 58 ∷ [])))
    ∙ key_behind done literal front (quote m.0) (part_text m.1 ++ members_text (44 ∷ []) ms)

pub in_pieces-is : (ms : List Member) → in_pieces ms ≡ object_text ms
in_pieces-is ms = written_is ms [] (123 ∷ []) []

-- ---- a form of objects

-- the text of a value is what a writer says of its object
pub written_value : {X : Type 0} {Is : X → Type 0} {text : X → List ℕ} {members : X → List Member} {find : Data → Option X} → ObjectForm Is text members find
    → (x : X) (d : Data) (bytes : List ℕ) → Is x → d ≡ object_data (members x) → (has_float d ≡ false → bytes ≡ compact_text d) → bytes ≡ text x
written_value {members = members} form x d bytes is same says = printed_object (members x) d bytes (form.members_are x is) same says ∙ sym (form.spelled x)

-- the value's object is read
read_value : {X : Type 0} {Is : X → Type 0} {text : X → List ℕ} {members : X → List Member} {find : Data → Option X} → ObjectForm Is text members find
    → (x : X) → Is x → read (text x) ≡ Some (object_data (members x))
read_value {members = members} form x is = ap read (form.spelled x) ∙ read-object_text (members x) (form.members_are x is) (form.ordered x)

-- the value is in each object that its text is read as
pub only_value : {X : Type 0} {Is : X → Type 0} {text : X → List ℕ} {members : X → List Member} {find : Data → Option X} → ObjectForm Is text members find
    → (bytes : List ℕ) (d : Data) (x : X) → read bytes ≡ Some d → Is x → bytes ≡ text x → find d ≡ Some x
only_value {members = members} {find = find} form bytes d x got is same =
    let again : Some (object_data (members x)) ≡ Some d = sym (read_value form x is) ∙ ap read (sym same) ∙ got in
    let whole : object_data (members x) ≡ d = cc again in
    ap find (sym whole) ∙ form.found x is

-- no text is the text of two values
pub one_value : {X : Type 0} {Is : X → Type 0} {text : X → List ℕ} {members : X → List Member} {find : Data → Option X} → ObjectForm Is text members find
    → (x y : X) → Is x → Is y → text x ≡ text y → x ≡ y
one_value {text = text} {members = members} form x y is_x is_y same =
    let twice : Some x ≡ Some y = sym (form.found x is_x) ∙ only_value form (text x) (object_data (members x)) y (read_value form x is_x) is_y same in
    cc twice

-- a text that JSON refuses is no value's
pub refused_value : {X : Type 0} {Is : X → Type 0} {text : X → List ℕ} {members : X → List Member} {find : Data → Option X} → ObjectForm Is text members find
    → (bytes : List ℕ) → (IsUtf8 bytes → read bytes ≡ None) → (x : X) → Is x → bytes ≡ text x → ⊥
refused_value {members = members} form bytes none x is same =
    let fine : IsUtf8 bytes = rw (same, form.spelled x) (utf8-object (members x) (form.members_are x is)) in
    let both = sym (none fine) ∙ ap read same ∙ read_value form x is in
    cc both
