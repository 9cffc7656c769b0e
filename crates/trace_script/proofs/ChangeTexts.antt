-- Changes and their one text.
use Rattle.std.proofs.Common.{◌≡◌, ℕ, ◌^◌, ◌<◌, ◌≤◌, true, false, ◌==◌, List, [], ◌∷◌, ◌++◌, length, map, codes, Option, Some, None, refl, sym, ap, ◌∙◌, append_assoc, arith, lit<}
use Rattle.std.specs.Prelude.{decimal}
use Rattle.std.specs.List.{list_all, AllByRecursion}
use Rattle.std.proofs.lemmas.Bool.{eqb-true}
use Rattle.std.proofs.lemmas.Bool.Decides.{nat_tests}
use Rattle.std.proofs.lemmas.Fmt.{decimal_nonempty}
use Rattle.std.proofs.lemmas.List.{nil_from_length, length-append}
use Rattle.std.proofs.lemmas.List.Elements.{All-nil, All-cons, All-append}
use Rattle.std.proofs.lemmas.Option.{cond_some}
use Rattle.hex.specs.Hex.{encode_lower}
use Rattle.bus_types.specs.declared.change.Key.{Key}
use Rattle.bus_types.specs.declared.change.Key.TheVariants.{Long}
use Rattle.bus_types.specs.declared.change.Change.{Change}
use Rattle.bus_types.specs.declared.limits.TheConstants.{MAX_PAYLOAD}
use Rattle.bus_types.specs.Change.{IsKey, IsChange, AreChanges, payload_size, key_text}
use Rattle.bus_types.specs.Text.{number_of, is_digit, max_u64, cut_at}
use Rattle.bus_types.proofs.Options.{bind_some, map_some}
use Rattle.bus_types.proofs.Cuts.{cut_taken, cut_again, cut_none}
use Rattle.bus_types.specs.Form.{Form}
use Rattle.bus_types.specs.Lists.{each_of}
use Rattle.bus_types.proofs.Tests.{list_all-both, each_weaker, each_both}
use Rattle.bus_types.proofs.Combinators.{number_form, below_form, wider_form, form_lacks, both}
use Rattle.bus_types.proofs.ListForms.{all_texts, each_taken, each_again}
use Rattle.trace_script.specs.Words.{is_word_byte, is_lower_hex, key_of, put_or_delete, change_of, changes_of}
use Rattle.trace_script.specs.Spelling.{put_text, change_text, AreBytesOf}
use Rattle.trace_script.proofs.HexText.{payload_form}
use Rattle.trace_script.proofs.WordTexts.{IsWord, digit_in_word}

-- ---- keys

pub u64_form : Form (λ n. n ≤ max_u64) decimal (number_of max_u64) is_digit
u64_form = number_form max_u64 (lit< tt)

key_taken : (text : List ℕ) (key : Key) → key_of text ≡ Some key → IsKey key × (text ≡ key_text key)
unfolding key_of
key_taken text key h =
    let read = map_some (number_of max_u64 text) Long key h in
    let number = u64_form.taken text read.0 read.1 in
    rw (← read.2) (omega (arith, number.0), number.1)

key_again : (key : Key) → IsKey key → key_of (key_text key) ≡ Some key
unfolding key_of
key_again (Long k) fits = rw (u64_form.again k (omega arith)) refl

key_bytes : (key : Key) → IsKey key → list_all is_digit (key_text key) ≡ true
key_bytes (Long k) fits = u64_form.bytes k (omega arith)

key_form : Form IsKey key_text key_of is_digit
key_form = record { taken = key_taken; again = key_again; bytes = key_bytes }

-- ---- what stands behind the slash

-- the texts of a row and what is done to it
abbrev row_text : Key → Option (List ℕ) → List ℕ
row_text key put = key_text key ++ put_text put

-- a change with the source, and the text behind the slash, that it was read from
record IsRead (from : ℕ) (rest : List ℕ) (c : Change) : Type 0 where
  source : c.source ≡ from
  text : rest ≡ row_text c.key c.put
  key : IsKey c.key
  payload : payload_size c.put ≤ MAX_PAYLOAD
  bytes : AreBytesOf c.put

row_taken : (source : ℕ) (rest : List ℕ) (cut : Option (List ℕ × List ℕ)) (c : Change) → cut_at 61 rest ≡ cut → put_or_delete source rest cut ≡ Some c → IsRead source rest c
unfolding put_or_delete
row_taken source rest (Some parts) c cut h =
    let make : Key → List ℕ → Change = λ key payload. record { source = source; key = key; put = Some payload } in
    let p = both key_form (λ key is. payload_form) make parts.0 parts.1 c h in
    rw (← p.made) record {
      source = refl;
      text = rw (← p.first_text, ← p.second_text) (cut_taken 61 rest parts cut);
      key = p.first_is;
      payload = p.second_is.0;
      bytes = p.second_is.1;
    }
row_taken source rest None c cut h =
    let parts = bind_some (cut_at 45 rest) _ c h in
    let key = bind_some (key_of parts.0.0) _ c parts.2 in
    let end = cond_some (length parts.0.1 == 0) (record { source = source; key = key.0; put = None }) c key.2 in
    let named = key_taken parts.0.0 key.0 key.1 in
    let none = nil_from_length parts.0.1 (eqb-true (length parts.0.1) 0 end.0) in
    rw (← end.1) record {
      source = refl;
      text = rw (← named.1, ← none) (cut_taken 45 rest parts.0 parts.1);
      key = named.0;
      payload = omega arith;
      bytes = tt;
    }

row_again : (source : ℕ) (key : Key) (put : Option (List ℕ)) → IsKey key → payload_size put ≤ MAX_PAYLOAD → AreBytesOf put
    → put_or_delete source (row_text key put) (cut_at 61 (row_text key put)) ≡ Some (record { source = source; key = key; put = put })
unfolding put_or_delete
row_again source key (Some payload) fits short bytes =
    rw (cut_again 61 (key_text key) (encode_lower payload) (form_lacks 61 refl key_form key fits), key_again key fits, payload_form.again payload (short, bytes)) refl
row_again source key None fits short bytes =
    let none = cut_none 61 (key_text key ++ 45 ∷ [])
    (All-append (λ b. (b == 61) ≡ false) (key_text key) (45 ∷ []) (form_lacks 61 refl key_form key fits) (All-cons (λ b. (b == 61) ≡ false) 45 [] refl (All-nil (λ b. (b == 61) ≡ false)))) in
    rw (none, cut_again 45 (key_text key) [] (form_lacks 45 refl key_form key fits), key_again key fits) refl

-- ---- changes

source_form : Form (λ n. n < 2 ^ 16) decimal (number_of 65535) is_digit
source_form = below_form 65535 (2 ^ 16) refl (lit< tt)

-- a change whose put is of bytes
abbrev IsSpelled : Change → Type 0
IsSpelled c = IsChange c × AreBytesOf c.put

regroup : (source key put : List ℕ) → source ++ 47 ∷ [] ++ key ++ put ≡ source ++ 47 ∷ (key ++ put)
regroup source key put = simp append_assoc

change_taken : (text : List ℕ) (c : Change) → change_of text ≡ Some c → IsSpelled c × (text ≡ change_text c)
unfolding change_of
change_taken text c h =
    let parts = bind_some (cut_at 47 text) _ c h in
    let source = bind_some (number_of 65535 parts.0.0) _ c parts.2 in
    let number = source_form.taken parts.0.0 source.0 source.1 in
    let row = row_taken source.0 parts.0.1 (cut_at 61 parts.0.1) c refl source.2 in
    let fits : c.source < 2 ^ 16 = rw row.source number.0 in
    let front : parts.0.0 ≡ decimal c.source = number.1 ∙ ap decimal (sym row.source) in
    ((record { source = fits; key = row.key; payload = row.payload }, row.bytes), cut_taken 47 text parts.0 parts.1 ∙ rw (front, row.text) (sym (regroup (decimal c.source) (key_text c.key) (put_text c.put))))

change_parts_again : (source : ℕ) (key : Key) (put : Option (List ℕ)) → source < 2 ^ 16 → IsKey key → payload_size put ≤ MAX_PAYLOAD → AreBytesOf put
    → change_of (decimal source ++ 47 ∷ row_text key put) ≡ Some (record { source = source; key = key; put = put })
unfolding change_of
change_parts_again source key put small fits short bytes =
    rw (cut_again 47 (decimal source) (row_text key put) (form_lacks 47 refl source_form source small), source_form.again source small) (row_again source key put fits short bytes)

change_again : (c : Change) → IsSpelled c → change_of (change_text c) ≡ Some c
change_again c h =
    rw (regroup (decimal c.source) (key_text c.key) (put_text c.put)) (change_parts_again c.source c.key c.put h.0.source h.0.key h.0.payload h.1)

lower_hex_in_word : (b : ℕ) → is_lower_hex b ≡ true → is_word_byte b ≡ true
lower_hex_in_word b h = grind (arith, nat_tests)

put_bytes : (put : Option (List ℕ)) → payload_size put ≤ MAX_PAYLOAD → AreBytesOf put → list_all is_word_byte (put_text put) ≡ true
put_bytes None short bytes = refl
put_bytes (Some payload) short bytes = list_all-both is_word_byte (codes "=") (encode_lower payload) refl ((wider_form is_word_byte lower_hex_in_word payload_form).bytes payload (short, bytes))

change_bytes : (c : Change) → IsSpelled c → list_all is_word_byte (change_text c) ≡ true
change_bytes c h =
    let source = (wider_form is_word_byte digit_in_word source_form).bytes c.source h.0.source in
    let key = (wider_form is_word_byte digit_in_word key_form).bytes c.key h.0.key in
    let front = list_all-both is_word_byte (decimal c.source ++ codes "/") (key_text c.key) (list_all-both is_word_byte (decimal c.source) (codes "/") source refl) key in
    list_all-both is_word_byte (decimal c.source ++ codes "/" ++ key_text c.key) (put_text c.put) front (put_bytes c.put h.0.payload h.1)

change_form : Form IsSpelled change_text change_of is_word_byte
change_form = record { taken = change_taken; again = change_again; bytes = change_bytes }

-- ---- words of changes

IsWord-change : (c : Change) → IsSpelled c → IsWord (change_text c)
IsWord-change c h =
    let small = h.0.source in
    let some = decimal_nonempty c.source (omega arith) in
    (simp length-append (omega arith), change_bytes c h)

changes_are : (words : List (List ℕ)) → changes_of words ≡ each_of change_of words
unfolding changes_of each_of
changes_are [] = refl
changes_are (word ∷ words) = rw (changes_are words) refl

pub changes_taken : (words : List (List ℕ)) (changes : List Change) → changes_of words ≡ Some changes
    → (words ≡ map change_text changes) × AreChanges changes × AllByRecursion (λ c. AreBytesOf c.put) changes
changes_taken words changes h =
    let each = each_taken change_form words changes (sym (changes_are words) ∙ h) in
    (each.1, each_weaker IsSpelled IsChange (λ c k. k.0) changes each.0, each_weaker IsSpelled (λ c. AreBytesOf c.put) (λ c k. k.1) changes each.0)

pub changes_again : (changes : List Change) → AreChanges changes → AllByRecursion (λ c. AreBytesOf c.put) changes → changes_of (map change_text changes) ≡ Some changes
changes_again changes within bytes = changes_are (map change_text changes) ∙ each_again change_form changes (each_both IsChange (λ c. AreBytesOf c.put) changes within bytes)

pub words-changes : (changes : List Change) → AreChanges changes → AllByRecursion (λ c. AreBytesOf c.put) changes → AllByRecursion IsWord (map change_text changes)
words-changes changes within bytes = all_texts IsSpelled change_text IsWord IsWord-change changes (each_both IsChange (λ c. AreBytesOf c.put) changes within bytes)
