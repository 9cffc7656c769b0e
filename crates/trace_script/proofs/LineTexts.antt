-- Lines and their texts.
use Rattle.std.proofs.Common.{◌≡◌, ℕ, ◌<◌, ◌≤◌, Bool, true, false, not, ◌&&◌, if◌then◌else◌, ◌==◌, inl, inr, List, [], ◌∷◌, length, codes, Option, Some, None, Result, Ok, Err, refl, sym, ap, ◌∙◌, arith, lit<}
use Rattle.std.specs.Prelude.{decimal, bytes_eq, IfOk, IsErrOf}
use Rattle.std.specs.List.{list_all, list_any, AllByRecursion, join_with_byte}
use Rattle.std.proofs.lemmas.Bool.{and_from, not_from_false, cases_Bool}
use Rattle.std.proofs.lemmas.List.{length-map}
use Rattle.std.proofs.lemmas.List.Splits.{join_with_byte-slice_split}
use Rattle.std.proofs.lemmas.Option.{cond_some}
use Rattle.std.proofs.lemmas.Slice.Eq.{bytes_eq-Decides}
use Rattle.bus_types.specs.declared.limits.TheConstants.{MAX_SCN}
use Rattle.bus_types.specs.Text.{is_digit, number_of, max_u64}
use Rattle.bus_types.proofs.Options.{bind_some, chosen}
use Rattle.bus_types.specs.Form.{Form}
use Rattle.bus_types.proofs.Combinators.{number_form, by_name, made, both}
use Rattle.partition_filter.specs.Selection.{Selection}
use Rattle.trace_script.specs.declared.fault.LineFault.{LineFault}
use Rattle.trace_script.specs.declared.fault.LineFault.TheVariants.{BadLine, NoMemory}
use Rattle.trace_script.specs.declared.line.Line.{Line}
use Rattle.trace_script.specs.declared.line.Line.TheVariants.{Blank, Relay, Consumer, Commit, Gen, Feed, Poll, Show, Sum, Crash, Stop, Stream, Log, Apply, Trim, RestartBoot}
use Rattle.trace_script.specs.Words.{words_of, is_line_byte, may_be_words, number_in, changes_of}
use Rattle.trace_script.specs.Lines.{is_blank, relay_of, consumer_of, commit_of, gen_of, feed_of, poll_of, show_of, sum_of, crash_of, stop_of, stream_of, log_of, apply_of, trim_of, restart_of, words_line, line_of}
use Rattle.trace_script.specs.Spelling.{IsCount, IsMost, IsLine, Spells, change_text, line_words}
use Rattle.trace_script.specs.Reading.{Reads}
use Rattle.trace_script.proofs.ChangeTexts.{u64_form, changes_taken, changes_again, words-changes}
use Rattle.trace_script.proofs.FilterTexts.{filter_form, IsWord-filter}
use Rattle.trace_script.proofs.WordTexts.{IsWord, words_again, line_bytes, no_return, none_empty, number_in_form, name_form, when_form, IsWord-decimal, IsWord-name, IsWord-when}

-- ---- the numbers of lines

bytes_form : Form (λ n. (1048576 ≤ n) × (n ≤ 268435456)) decimal (number_in 1048576 268435456) is_digit
bytes_form = number_in_form 1048576 268435456 (lit< tt)

windows_form : Form (λ n. (1 ≤ n) × (n ≤ 65536)) decimal (number_in 1 65536) is_digit
windows_form = number_in_form 1 65536 (lit< tt)

seed_form : Form (λ n. n ≤ 2147483647) decimal (number_of 2147483647) is_digit
seed_form = number_form 2147483647 (lit< tt)

generated_form : Form (λ n. (1 ≤ n) × (n ≤ 100000)) decimal (number_in 1 100000) is_digit
generated_form = number_in_form 1 100000 (lit< tt)

count_form : Form IsCount decimal (number_in 1 1000000) is_digit
count_form = number_in_form 1 1000000 (lit< tt)

most_form : Form IsMost decimal (number_in 1 16777216) is_digit
most_form = number_in_form 1 16777216 (lit< tt)

scn_form : Form (λ n. n ≤ MAX_SCN) decimal (number_of MAX_SCN) is_digit
scn_form = number_form MAX_SCN (lit< tt)

-- ---- what is read is spelled so

-- words that a line, which isn't blank, has
abbrev HasWords : List (List ℕ) → Line → Type 0
HasWords words Blank = ⊥
HasWords words line = IsLine line × (words ≡ line_words line)

relay_taken : (words : List (List ℕ)) (line : Line) → relay_of words ≡ Some line → HasWords (codes "relay" ∷ words) line
unfolding relay_of
relay_taken (bytes ∷ count ∷ []) line h =
    let p = both bytes_form (λ b is. windows_form) Relay bytes count line h in
    rw (← p.made) ((p.first_is.0, p.first_is.1, p.second_is.0, p.second_is.1), cc (p.first_text, p.second_text))
relay_taken words line h = cc h

consumer_taken : (words : List (List ℕ)) (line : Line) → consumer_of words ≡ Some line → HasWords (codes "consumer" ∷ words) line
unfolding consumer_of
consumer_taken (name ∷ filter ∷ []) line h =
    let p = both name_form (λ n is. filter_form) Consumer name filter line h in
    rw (← p.made) ((p.first_is, p.second_is), cc (p.first_text, p.second_text))
consumer_taken words line h = cc h

commit_taken : (words : List (List ℕ)) (line : Line) → commit_of words ≡ Some line → HasWords (codes "commit" ∷ words) line
unfolding commit_of
commit_taken (scn ∷ change ∷ words) line h =
    let number = bind_some (number_of max_u64 scn) _ line h in
    let changes = bind_some (changes_of (change ∷ words)) _ line number.2 in
    let whole : Commit number.0 changes.0 ≡ line = cc (changes.2) in
    let spelled = u64_form.taken scn number.0 number.1 in
    let all = changes_taken (change ∷ words) changes.0 changes.1 in
    let long : 0 < length changes.0 = omega (arith, ap length all.0, length-map changes.0 change_text) in
    rw (← whole) ((omega (arith, spelled.0), long, all.1, all.2), cc (spelled.1, all.0))
commit_taken words line h = cc h

gen_taken : (words : List (List ℕ)) (line : Line) → gen_of words ≡ Some line → HasWords (codes "gen" ∷ words) line
unfolding gen_of
gen_taken (seed ∷ count ∷ []) line h =
    let p = both seed_form (λ n is. generated_form) Gen seed count line h in
    rw (← p.made) ((p.first_is, p.second_is.0, p.second_is.1), cc (p.first_text, p.second_text))
gen_taken words line h = cc h

feed_taken : (words : List (List ℕ)) (line : Line) → feed_of words ≡ Some line → HasWords (codes "feed" ∷ words) line
unfolding feed_of
feed_taken (count ∷ []) line h =
    let p = made count_form Feed count line h in
    rw (← p.made) (p.is, cc (p.spelled))
feed_taken words line h = cc h

poll_taken : (words : List (List ℕ)) (line : Line) → poll_of words ≡ Some line → HasWords (codes "poll" ∷ words) line
unfolding poll_of
poll_taken (name ∷ max ∷ []) line h =
    let p = both name_form (λ n is. most_form) Poll name max line h in
    rw (← p.made) ((p.first_is, p.second_is), cc (p.first_text, p.second_text))
poll_taken words line h = cc h

show_taken : (words : List (List ℕ)) (line : Line) → show_of words ≡ Some line → HasWords (codes "show" ∷ words) line
unfolding show_of
show_taken (name ∷ []) line h =
    let p = made name_form Show name line h in
    rw (← p.made) (p.is, cc (p.spelled))
show_taken words line h = cc h

sum_taken : (words : List (List ℕ)) (line : Line) → sum_of words ≡ Some line → HasWords (codes "sum" ∷ words) line
unfolding sum_of
sum_taken (name ∷ []) line h =
    let p = made name_form Sum name line h in
    rw (← p.made) (p.is, cc (p.spelled))
sum_taken words line h = cc h

crash_taken : (words : List (List ℕ)) (line : Line) → crash_of words ≡ Some line → HasWords (codes "crash" ∷ words) line
unfolding crash_of
crash_taken (name ∷ []) line h =
    let p = made name_form Crash name line h in
    rw (← p.made) (p.is, cc (p.spelled))
crash_taken words line h = cc h

stop_taken : (words : List (List ℕ)) (line : Line) → stop_of words ≡ Some line → HasWords (codes "stop" ∷ words) line
unfolding stop_of
stop_taken (name ∷ when ∷ []) line h =
    let p = both name_form (λ n is. when_form) Stop name when line h in
    rw (← p.made) (p.first_is, cc (p.first_text, p.second_text))
stop_taken words line h = cc h

stream_taken : (words : List (List ℕ)) (line : Line) → stream_of words ≡ Some line → HasWords (codes "stream" ∷ words) line
unfolding stream_of
stream_taken (scn ∷ filter ∷ max ∷ []) line h =
    let number = bind_some (number_of MAX_SCN scn) _ line h in
    let make : ℕ → Selection → Line = λ most rows. Stream number.0 rows most in
    let p = both most_form (λ n is. filter_form) make max filter line number.2 in
    let first = scn_form.taken scn number.0 number.1 in
    rw (← p.made) ((first.0, p.second_is, p.first_is), cc (first.1, p.second_text, p.first_text))
stream_taken words line h = cc h

log_taken : (words : List (List ℕ)) (line : Line) → log_of words ≡ Some line → HasWords (codes "log" ∷ words) line
unfolding log_of
log_taken (count ∷ []) line h =
    let p = made count_form Log count line h in
    rw (← p.made) (p.is, cc (p.spelled))
log_taken words line h = cc h

apply_taken : (words : List (List ℕ)) (line : Line) → apply_of words ≡ Some line → HasWords (codes "apply" ∷ words) line
unfolding apply_of
apply_taken (count ∷ []) line h =
    let p = made count_form Apply count line h in
    rw (← p.made) (p.is, cc (p.spelled))
apply_taken words line h = cc h

trim_taken : (words : List (List ℕ)) (line : Line) → trim_of words ≡ Some line → HasWords (codes "trim" ∷ words) line
unfolding trim_of
trim_taken (scn ∷ []) line h =
    let p = made scn_form Trim scn line h in
    rw (← p.made) (p.is, cc (p.spelled))
trim_taken words line h = cc h

restart_taken : (words : List (List ℕ)) (line : Line) → restart_of words ≡ Some line → HasWords (codes "restart" ∷ words) line
unfolding restart_of
restart_taken (word ∷ []) line h =
    let boot = cond_some (bytes_eq word (codes "boot")) RestartBoot line h in
    rw (← boot.1) (tt, cc ((bytes_eq-Decides word (codes "boot")).0 boot.0))
restart_taken words line h = cc h

-- a line whose first word is this name or another word
by_word : (word name : List ℕ) (words : List (List ℕ)) (line : Line) (named others : Option Line)
    → (if bytes_eq word name then named else others) ≡ Some line
    → (named ≡ Some line → HasWords (name ∷ words) line) → (others ≡ Some line → HasWords (word ∷ words) line) → HasWords (word ∷ words) line
by_word word name words line named others = by_name (λ w. HasWords (w ∷ words) line) word name named others line

words_taken : (words : List (List ℕ)) (line : Line) → words_line words ≡ Some line → HasWords words line
unfolding words_line
words_taken [] line h = cc h
words_taken (word ∷ words) line h =
    by_word word (codes "commit") words line (commit_of words) _ h (commit_taken words line)
    (λ h. by_word word (codes "consumer") words line (consumer_of words) _ h (consumer_taken words line)
    (λ h. by_word word (codes "stream") words line (stream_of words) _ h (stream_taken words line)
    (λ h. by_word word (codes "feed") words line (feed_of words) _ h (feed_taken words line)
    (λ h. by_word word (codes "gen") words line (gen_of words) _ h (gen_taken words line)
    (λ h. by_word word (codes "poll") words line (poll_of words) _ h (poll_taken words line)
    (λ h. by_word word (codes "show") words line (show_of words) _ h (show_taken words line)
    (λ h. by_word word (codes "sum") words line (sum_of words) _ h (sum_taken words line)
    (λ h. by_word word (codes "crash") words line (crash_of words) _ h (crash_taken words line)
    (λ h. by_word word (codes "stop") words line (stop_of words) _ h (stop_taken words line)
    (λ h. by_word word (codes "log") words line (log_of words) _ h (log_taken words line)
    (λ h. by_word word (codes "apply") words line (apply_of words) _ h (apply_taken words line)
    (λ h. by_word word (codes "trim") words line (trim_of words) _ h (trim_taken words line)
    (λ h. by_word word (codes "restart") words line (restart_of words) _ h (restart_taken words line)
    (λ h. by_word word (codes "relay") words line (relay_of words) None h (relay_taken words line) (λ h. cc h)))))))))))))))

joined : (text : List ℕ) (words : List (List ℕ)) → words_of text ≡ words → text ≡ join_with_byte 32 words
joined text words same = sym (join_with_byte-slice_split 32 text) ∙ ap (join_with_byte 32) same

text_taken : (text : List ℕ) (line : Line) → HasWords (words_of text) line → Spells text line
text_taken text Blank h = absurd h
text_taken text line h = (h.0, joined text _ h.1)

pub line_taken : (text : List ℕ) (line : Line) → line_of text ≡ Some line → Spells text line
unfolding line_of
line_taken text line h =
    elim (chosen (list_any (λ b. b == 13) text) None _ (Some line) h) [
      | inl bad ↦ cc bad.1
      | inr fine ↦ elim (chosen (is_blank text) (Some Blank) (words_line (words_of text)) (Some line) fine.1) [
        | inl blank ↦
            let whole : Blank ≡ line = cc (blank.1) in
            rw (← whole) (blank.0, fine.0)
        | inr full ↦ text_taken text line (words_taken (words_of text) line full.1)
      ]
    ]

-- ---- the words of a line

words_are : (line : Line) → IsLine line → AllByRecursion IsWord (line_words line)
words_are Blank h = tt
words_are (Relay bytes windows) h = ((lit< tt, refl), (IsWord-decimal bytes (omega arith), (IsWord-decimal windows (omega arith), tt)))
words_are (Consumer name filter) h = ((lit< tt, refl), (IsWord-name name h.0, (IsWord-filter filter h.1, tt)))
words_are (Commit scn changes) h = ((lit< tt, refl), (IsWord-decimal scn h.0, words-changes changes h.2 h.3))
words_are (Gen seed count) h = ((lit< tt, refl), (IsWord-decimal seed (omega arith), (IsWord-decimal count (omega arith), tt)))
words_are (Feed count) h = ((lit< tt, refl), (IsWord-decimal count (omega arith), tt))
words_are (Poll name max) h = ((lit< tt, refl), (IsWord-name name h.0, (IsWord-decimal max (omega arith), tt)))
words_are (Show name) h = ((lit< tt, refl), (IsWord-name name h, tt))
words_are (Sum name) h = ((lit< tt, refl), (IsWord-name name h, tt))
words_are (Crash name) h = ((lit< tt, refl), (IsWord-name name h, tt))
words_are (Stop name after) h = ((lit< tt, refl), (IsWord-name name h, (IsWord-when after, tt)))
words_are (Stream scn filter max) h = ((lit< tt, refl), (IsWord-decimal scn (omega arith), (IsWord-filter filter h.1, (IsWord-decimal max (omega arith), tt))))
words_are (Log count) h = ((lit< tt, refl), (IsWord-decimal count (omega arith), tt))
words_are (Apply count) h = ((lit< tt, refl), (IsWord-decimal count (omega arith), tt))
words_are (Trim scn) h = ((lit< tt, refl), (IsWord-decimal scn (omega arith), tt))
words_are RestartBoot h = ((lit< tt, refl), ((lit< tt, refl), tt))

-- words of a line are its words
words_are_its : (words : List (List ℕ)) (line : Line) → HasWords words line → IsLine line × (words ≡ line_words line)
words_are_its words Blank h = absurd h
words_are_its words line h = h

-- ---- texts that are no line

abbrev has_empty : List (List ℕ) → Bool
has_empty words = list_any (λ word. length word == 0) words

none_taken : (read : Option Line) → ((line : Line) → read ≡ Some line → ⊥) → read ≡ None
none_taken None h = refl
none_taken (Some line) h = absurd (h line refl)

-- a text that can't be words is no line
no_words : (text : List ℕ) → may_be_words text ≡ false → words_line (words_of text) ≡ None
no_words text bad = none_taken (words_line (words_of text)) (λ line read.
    let its = words_are_its (words_of text) line (words_taken (words_of text) line read) in
    let are = words_are line its.0 in
    let full : has_empty (words_of text) ≡ false = rw its.1 (none_empty (line_words line) are) in
    let bytes : list_all is_line_byte text ≡ true = rw (joined text (line_words line) its.1) (line_bytes (line_words line) are) in
    cc (bad, and_from (list_all is_line_byte text) (not (has_empty (words_of text))) bytes (not_from_false (has_empty (words_of text)) full)))

pub no_line : (text : List ℕ) → is_blank text ≡ false → may_be_words text ≡ false → line_of text ≡ None
unfolding line_of
no_line text full bad =
    elim (cases_Bool (list_any (λ b. b == 13) text)) [
      | inl return ↦ rw return refl
      | inr none ↦ rw (none, full) (no_words text bad)
    ]

-- nor is one with a CR
pub line_of_return : (text : List ℕ) → list_any (λ b. b == 13) text ≡ true → line_of text ≡ None
unfolding line_of
line_of_return text h = rw h refl

and_not : (b c : Bool) → c ≡ true → (b && not c) ≡ false
and_not true c h = rw h refl
and_not false c h = refl

-- nor one with an empty word
pub line_of_empty : (text : List ℕ) → is_blank text ≡ false → has_empty (words_of text) ≡ true → line_of text ≡ None
line_of_empty text full empty = no_line text full (and_not (list_all is_line_byte text) (has_empty (words_of text)) empty)

-- any other is the line of its words
pub line_of_some : (text : List ℕ) → is_blank text ≡ false → list_any (λ b. b == 13) text ≡ false → line_of text ≡ words_line (words_of text)
unfolding line_of
line_of_some text full none = rw (none, full) refl

-- ---- what is spelled so is read

from_words : (word : List ℕ) (words : List (List ℕ)) (line : Line) → AllByRecursion IsWord (word ∷ words)
    → is_blank (join_with_byte 32 (word ∷ words)) ≡ false → words_line (word ∷ words) ≡ Some line → line_of (join_with_byte 32 (word ∷ words)) ≡ Some line
unfolding line_of
from_words word words line all full read = rw (no_return (word ∷ words) all, full, words_again word words all) read

-- the words of a line are read
words_back : (line : Line) → HasWords (line_words line) line → words_line (line_words line) ≡ Some line
unfolding words_line relay_of consumer_of commit_of gen_of feed_of poll_of show_of sum_of crash_of stop_of stream_of log_of apply_of trim_of restart_of
words_back Blank h = absurd h
words_back (Relay bytes windows) h = rw (bytes_form.again bytes (h.0.0, h.0.1), windows_form.again windows (h.0.2, h.0.3)) refl
words_back (Consumer name filter) h = rw (name_form.again name h.0.0, filter_form.again filter h.0.1) refl
words_back (Commit scn []) h = absurd (omega (arith, h.0.1))
words_back (Commit scn (c ∷ cs)) h = rw (u64_form.again scn (omega (arith, h.0.0)), changes_again (c ∷ cs) h.0.2 h.0.3) refl
words_back (Gen seed count) h = rw (seed_form.again seed h.0.0, generated_form.again count (h.0.1, h.0.2)) refl
words_back (Feed count) h = rw (count_form.again count h.0) refl
words_back (Poll name max) h = rw (name_form.again name h.0.0, most_form.again max h.0.1) refl
words_back (Show name) h = rw (name_form.again name h.0) refl
words_back (Sum name) h = rw (name_form.again name h.0) refl
words_back (Crash name) h = rw (name_form.again name h.0) refl
words_back (Stop name after) h = rw (name_form.again name h.0, when_form.again after tt) refl
words_back (Stream scn filter max) h = rw (scn_form.again scn h.0.0, most_form.again max h.0.2, filter_form.again filter h.0.1) refl
words_back (Log count) h = rw (count_form.again count h.0) refl
words_back (Apply count) h = rw (count_form.again count h.0) refl
words_back (Trim scn) h = rw (scn_form.again scn h.0) refl
words_back RestartBoot h = refl

pub line_again : (text : List ℕ) (line : Line) → Spells text line → line_of text ≡ Some line
unfolding line_of
line_again text Blank h = rw (h.1, h.0) refl
line_again text line h = rw h.1 (from_words _ _ _ (words_are line h.0) refl (words_back line (h.0, refl)))

-- ---- what a call answered

pub found : (result : Result Line LineFault) (text : List ℕ) → Reads (λ line. line) result (line_of text) → IfOk result (λ line. Spells text line)
found (Ok line) text h = line_taken text line h
found (Err fault) text h = tt

pub bad : (result : Result Line LineFault) (text : List ℕ) → Reads (λ line. line) result (line_of text) → IsErrOf result BadLine → (line : Line) → Spells text line → ⊥
bad (Ok read) text h is line spelled = cc is
bad (Err BadLine) text h is line spelled = cc (sym h ∙ line_again text line spelled)
bad (Err NoMemory) text h is line spelled = cc is
