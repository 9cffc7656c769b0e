-- What a reader of command lines makes of words that are of the plain form.
use Rattle.std.proofs.Common.{◌≡◌, ◌∙◌, ◌<◌, ◌≤◌, ◌+◌, ◌*◌, ℕ, zero, suc, Bool, true, false, cond, not, ◌&&◌, ◌||◌, eqb, List, [], ◌∷◌, ◌++◌, map, length, take, get_or, take-suc, is_some, Option, Some, None, refl, sym, ap, ap₂, arith, true≢false, append-nil, append_assoc}
use Rattle.std.specs.List.{list_any, list_all, find, fold, count_by}
use Rattle.std.specs.Str.{bytes_eq}
use Rattle.std.specs.Borrow.{Bor}
use Rattle.std.specs.Option.{option_map}
use Rattle.std.specs.Prelude.{option_and_then, slice_get}
use Rattle.std.proofs.lemmas.Slice.Eq.{bytes_eq-Decides}
use Rattle.std.proofs.lemmas.List.{map-append}
use Rattle.std.proofs.lemmas.Bool.{eqb-true}
use Rattle.clap.specs.Lexer.{long_of, short_of}
use Rattle.clap.specs.Walk.{Held, Row, Rule, Walk, arg_by_id, arg_by_long, at_row, finished, first_of, has_row, is_early_multiple, more_values, nothing_held, option, rows_after, rows_of, settled, settled_rows, walk, walk_from, walked, with_default, with_values}
use Rattle.clap.specs.Simple.{App, HasMatchesOf, Shape, app_of, app_of_fields, built, filled, filled_from, is_simple, matches_of, new_app, new_shape, with_index, with_rule}
use Rattle.clap.specs.Takes.{built_takes, default_passes, is_given, settle_passes, takes, turn_passes, walk_passes}
use Rattle.clap.specs.declared.builder.value_parser.Reading.TheVariants.{AsWritten}
use Rattle.clap.specs.declared.parser.matches.ValueSource.TheVariants.{CommandLine}
use Rattle.clap.specs.Matches.{found_of, first_value}
use Rattle.clap.specs.declared.parser.matches.ArgMatches.{ArgMatches}
use Rattle.clap.specs.declared.builder.command.Command.{Command}
use Rattle.clap.specs.declared.builder.command.Command.TheViews.{out-Command}
use Rattle.clap.specs.declared.builder.command.Command.TheOpen.{Command-F}
use Rattle.clap.proofs.WalkLemmas.{first_value-rows}
use Rattle.bus_node.specs.Words.{Pair, in_pairs, value_of, values_of, option_word, is_plain_value, is_said, has_options}
use Rattle.bus_node.specs.Options.{option_rule, options_app, said_by, AreNames}
use Rattle.bus_node.proofs.Once.{Each, Stands, same_text, times, times_named, once_each, named_once}

-- ---- the options that a command has

-- an option as the command has it once it is built
abbrev pub built_option : List ℕ → Rule
built_option name = with_index 1 (filled (option_rule name))

built_are : (names : List (List ℕ)) → filled_from 1 (map option_rule names) ≡ map built_option names
built_are [] = refl
built_are (n ∷ ns) = ap (λ (rs : List Rule). built_option n ∷ rs) (built_are ns)

-- a name whose word finds its own option in a command
pub record Known (rules : List Rule) (name : List ℕ) : Type 0 where
  pub long : long_of (option_word name) ≡ Some (name, None)
  pub dashes : bytes_eq (option_word name) (45 ∷ 45 ∷ []) ≡ false
  pub by_id : arg_by_id rules name ≡ Some (built_option name)
  pub by_long : arg_by_long rules name ≡ Some (built_option name)

no_dashes : (name : List ℕ) → long_of (option_word name) ≡ Some (name, None) → bytes_eq (option_word name) (45 ∷ 45 ∷ []) ≡ false
no_dashes [] h = cc
no_dashes (x ∷ xs) h = refl

by_id : (names : List (List ℕ)) (x : List ℕ) → list_any (λ n. bytes_eq n x) names ≡ true → arg_by_id (map built_option names) x ≡ Some (built_option x)
by_id [] x h = absurd (true≢false (sym h))
by_id (n ∷ ns) x h = go (bytes_eq n x) refl (λ k. by_id ns x k)
  where
    go : (t : Bool) → bytes_eq n x ≡ t → (list_any (λ m. bytes_eq m x) ns ≡ true → arg_by_id (map built_option ns) x ≡ Some (built_option x))
        → arg_by_id (map built_option (n ∷ ns)) x ≡ Some (built_option x)
    go true e rest = rw e (ap (λ (w : List ℕ). Some (built_option w)) ((bytes_eq-Decides n x).0 e))
    go false e rest = rw e (rest (rw e at h))

by_long : (names : List (List ℕ)) (x : List ℕ) → list_any (λ n. bytes_eq n x) names ≡ true → arg_by_long (map built_option names) x ≡ Some (built_option x)
by_long [] x h = absurd (true≢false (sym h))
by_long (n ∷ ns) x h = go (bytes_eq n x) refl (λ k. by_long ns x k)
  where
    go : (t : Bool) → bytes_eq n x ≡ t → (list_any (λ m. bytes_eq m x) ns ≡ true → arg_by_long (map built_option ns) x ≡ Some (built_option x))
        → arg_by_long (map built_option (n ∷ ns)) x ≡ Some (built_option x)
    go true e rest = rw e (ap (λ (w : List ℕ). Some (built_option w)) ((bytes_eq-Decides n x).0 e))
    go false e rest = rw e (rest (rw e at h))

or_true : (a b : Bool) → b ≡ true → (a || b) ≡ true
or_true true b h = refl
or_true false b h = h

known_of : (all names : List (List ℕ)) → AreNames names → ((x : List ℕ) → list_any (λ n. bytes_eq n x) names ≡ true → list_any (λ n. bytes_eq n x) all ≡ true)
    → Each (Known (map built_option all)) names
known_of all [] apart within = tt
known_of all (n ∷ ns) apart within =
    let here : list_any (λ m. bytes_eq m n) all ≡ true = within n (rw (same_text n) refl) in (
      record { long = apart.0; dashes = no_dashes n apart.0; by_id = by_id all n here; by_long = by_long all n here },
      known_of all ns apart.2 (λ x h. within x (or_true (bytes_eq n x) _ h)),
    )

-- ---- the walk

abbrev pub row_for : Pair → Row
row_for o = record { id = o.0; values = o.1 ∷ []; count = None; source = Some CommandLine; reading = AsWritten }

abbrev pub as_words : Pair → Pair
as_words o = (option_word o.0, o.1)

-- the words of some options
abbrev pub words_for : List Pair → List (List ℕ)
words_for [] = []
words_for (o ∷ os) = option_word o.0 ∷ o.1 ∷ words_for os

abbrev pub Fits : List Rule → Pair → Type 0
Fits rules o = Known rules o.0 × (is_plain_value o.1 ≡ true)

-- none of these options stands among those before it
abbrev pub Fresh : List Pair → List Pair → Type 0
Fresh done [] = Unit {0}
Fresh done (o ∷ os) = (has_row o.0 (map row_for done) ≡ false) × Fresh (done ++ o ∷ []) os

absent : (id : List ℕ) (change : Row → List Row) (missing rows : List Row) → has_row id rows ≡ false → at_row id change missing rows ≡ rows ++ missing
absent id change missing [] h = refl
absent id change missing (r ∷ rs) h = go (bytes_eq r.id id) refl (λ k. absent id change missing rs k)
  where
    go : (t : Bool) → bytes_eq r.id id ≡ t → (has_row id rs ≡ false → at_row id change missing rs ≡ rs ++ missing)
        → at_row id change missing (r ∷ rs) ≡ (r ∷ rs) ++ missing
    go true e rest =
        let bad : true ≡ false = rw e at h in
        absurd (true≢false bad)
    go false e rest = rw e (ap (λ (l : List Row). r ∷ l) (rest (rw e at h)))

not_true : (t : Bool) → not t ≡ true → t ≡ false
not_true true e = sym e
not_true false e = refl

-- a word that begins with no hyphen is none of the words that do
no_end : (b : ℕ) (bs : List ℕ) → eqb b 45 ≡ false → bytes_eq (b ∷ bs) (45 ∷ 45 ∷ []) ≡ false
no_end b bs other = rw other refl

no_long : (b : ℕ) (bs : List ℕ) → eqb b 45 ≡ false → long_of (b ∷ bs) ≡ None
no_long b bs other = rw other refl

no_short : (b : ℕ) (bs : List ℕ) → eqb b 45 ≡ false → short_of (b ∷ bs) ≡ None
no_short b bs other = rw other refl

module _ (s : Shape) where
  -- what is held once some options were read, of which the last is not used yet
  abbrev held_at : List Pair → Option Pair → Held
  held_at done last = record { rows = map row_for done; pending = option_map (λ (o : Pair). (o.0, o.1 ∷ [])) last; skip = 0 }

  abbrev with_last : List Pair → Option Pair → List Pair
  with_last done None = done
  with_last done (Some o) = done ++ o ∷ []

  abbrev Ready : List Pair → Option Pair → Type 0
  Ready done None = Unit {0}
  Ready done (Some o) = Known s.rules o.0 × (has_row o.0 (map row_for done) ≡ false)

  last_used : (done : List Pair) (last : Option Pair) → Ready done last → settled_rows s.rules (held_at done last).pending (map row_for done) ≡ map row_for (with_last done last)
  last_used done None h = refl
  last_used done (Some o) h =
      rw h.0.by_id
      (let kept : at_row o.0 (λ _. []) [] (map row_for done) ≡ map row_for done = absent o.0 (λ _. []) [] (map row_for done) h.1 ∙ append-nil (map row_for done) in
      ap (with_values o.0 AsWritten CommandLine (o.1 ∷ [])) kept ∙ absent o.0 (more_values CommandLine (o.1 ∷ [])) (row_for o ∷ []) (map row_for done) h.1 ∙ sym (map-append row_for done (o ∷ [])))

  last_passes : (done : List Pair) (last : Option Pair) → Ready done last → settle_passes s.rules s.args_override_self (held_at done last) ≡ true
  last_passes done None h = refl
  last_passes done (Some o) h = rw (h.0.by_id, h.1) refl

  -- after the word of an option
  abbrev waiting_for : List Pair → List ℕ → Walk
  waiting_for done name = record (walk_from (record { rows = map row_for done; pending = Some (name, []); skip = 0 })) { waiting = option name }

  word_walked : (done : List Pair) (last : Option Pair) (name : List ℕ) → Ready done last → Known s.rules name
      → walked s.rules [] (walk_from (held_at done last)) (option_word name) ≡ waiting_for (with_last done last) name
  unfolding walked
  word_walked done last name h k = rw (k.dashes, k.long, k.by_long)
      (ap (λ (rows : List Row). record (walk_from (record { rows = rows; pending = Some (name, []); skip = 0 })) { waiting = option name }) (last_used done last h))

  value_walked : (done : List Pair) (name value : List ℕ) → Known s.rules name → is_plain_value value ≡ true
      → walked s.rules [] (waiting_for done name) value ≡ walk_from (held_at done (Some (name, value)))
  unfolding walked
  value_walked done name [] k plain = rw (k.by_id, same_text name) refl
  value_walked done name (b ∷ bs) k plain =
      let other : eqb b 45 ≡ false = not_true (eqb b 45) plain in
      rw (no_end b bs other, no_long b bs other, no_short b bs other, k.by_id, same_text name) refl

  word_passes_on : (done : List Pair) (last : Option Pair) (name : List ℕ) → Ready done last → Known s.rules name
      → turn_passes s [] (walk_from (held_at done last)) (option_word name) ≡ true
  word_passes_on done last name h k = rw (k.dashes, k.long, k.by_long, last_passes done last h) refl

  value_passes_on : (done : List Pair) (name value : List ℕ) → Known s.rules name → is_plain_value value ≡ true
      → turn_passes s [] (waiting_for done name) value ≡ true
  value_passes_on done name [] k plain = refl
  value_passes_on done name (b ∷ bs) k plain =
      let other : eqb b 45 ≡ false = not_true (eqb b 45) plain in
      rw (no_end b bs other, no_long b bs other, no_short b bs other) refl

  -- what the words of these options come to
  pub record Through (done : List Pair) (last : Option Pair) (os : List Pair) : Type 0 where
    pub stopped : (walk s.rules [] (held_at done last) (words_for os)).stopped ≡ None
    pub rows : (settled s.rules (walk s.rules [] (held_at done last) (words_for os)).held).rows ≡ map row_for (with_last done last ++ os)
    pub passes : walk_passes s [] (walk_from (held_at done last)) (words_for os) ≡ true
    pub settles : settle_passes s.rules s.args_override_self (walk s.rules [] (held_at done last) (words_for os)).held ≡ true

  through : (done : List Pair) (last : Option Pair) (os : List Pair) → Ready done last → Each (Fits s.rules) os → Fresh (with_last done last) os → Through done last os
  unfolding walk_passes
  through done last [] h fit fresh = record {
    stopped = refl;
    rows = last_used done last h ∙ ap (map row_for) (sym (append-nil (with_last done last)));
    passes = refl;
    settles = last_passes done last h;
  }
  through done last (o ∷ os) h fit fresh =
      let rest = through (with_last done last) (Some o) os (fit.0.0, fresh.0) fit.1 fresh.1 in
      let first : walked s.rules [] (walk_from (held_at done last)) (option_word o.0) ≡ waiting_for (with_last done last) o.0 = word_walked done last o.0 h fit.0.0 in
      let second : walked s.rules [] (waiting_for (with_last done last) o.0) o.1 ≡ walk_from (held_at (with_last done last) (Some o)) = value_walked (with_last done last) o.0 o.1 fit.0.0 fit.0.1 in
      let both : walked s.rules [] (walked s.rules [] (walk_from (held_at done last)) (option_word o.0)) o.1 ≡ walk_from (held_at (with_last done last) (Some o)) =
      ap (λ (w : Walk). walked s.rules [] w o.1) first ∙ second in
      let end = λ (w : Walk). fold (walked s.rules []) w (words_for os) in
      record {
        stopped = ap (λ (w : Walk). (end w).stopped) both ∙ rest.stopped;
        rows = ap (λ (w : Walk). (settled s.rules (end w).held).rows) both ∙ rest.rows ∙ ap (map row_for) (append_assoc (with_last done last) (o ∷ []) os);
        passes = all_three _ _ _ (word_passes_on done last o.0 h fit.0.0)
            (ap (λ (w : Walk). turn_passes s [] w o.1) first ∙ value_passes_on (with_last done last) o.0 o.1 fit.0.0 fit.0.1)
            (ap (λ (w : Walk). walk_passes s [] w (words_for os)) both ∙ rest.passes);
        settles = ap (λ (w : Walk). settle_passes s.rules s.args_override_self (end w).held) both ∙ rest.settles;
      }
    where
      all_three : (a b d : Bool) → a ≡ true → b ≡ true → d ≡ true → (a && (b && d)) ≡ true
      all_three a b d x y z = rw (x, y, z) refl

-- ---- from words to options

both_true : (a b : Bool) → (a && b) ≡ true → (a ≡ true) × (b ≡ true)
both_true true b e = (refl, e)
both_true false b e = absurd (true≢false (sym e))

-- as many words as two for each pair
in_words : (words : List (List ℕ)) (n : ℕ) → length words ≡ n * 2 → (os : List Pair) → in_pairs words ≡ map as_words os → words ≡ words_for os
in_words [] n even [] same = refl
in_words [] n even (o ∷ os) same = cc
in_words (w ∷ []) zero even os same = absurd (omega (arith, even))
in_words (w ∷ []) (suc n) even os same = absurd (omega (arith, even))
in_words (w ∷ v ∷ ws) n even [] same = cc
in_words (w ∷ v ∷ ws) zero even (o ∷ os) same = absurd (omega (arith, even))
in_words (w ∷ v ∷ ws) (suc n) even (o ∷ os) same =
    let first : ◌≡◌ {A = Pair} (w, v) (as_words o) = ap (λ (ps : List Pair). head_or (w, v) ps) same in
    let rest : in_pairs ws ≡ map as_words os = ap tail_of same in
    λ i. (first i).0 ∷ (first i).1 ∷ in_words ws n (omega (arith, even)) os rest i
  where
    head_or : Pair → List Pair → Pair
    head_or p [] = p
    head_or p (q ∷ qs) = q

    tail_of : List Pair → List Pair
    tail_of [] = []
    tail_of (q ∷ qs) = qs

-- each pair has its name behind two hyphens, so the pairs are those of some options
abbrev Named : List Rule → Pair → Type 0
Named rules p = (o : Pair) × (p ≡ as_words o) × Fits rules o

options_of_pairs : (rules : List Rule) (pairs : List Pair) → Each (Named rules) pairs → (os : List Pair) × (pairs ≡ map as_words os) × Each (Fits rules) os
options_of_pairs rules [] h = ([], refl, tt)
options_of_pairs rules (p ∷ ps) h =
    let rest = options_of_pairs rules ps h.1 in
    (h.0.0 ∷ rest.0, λ i. h.0.1 i ∷ rest.1 i, (h.0.2, rest.2))

says : (o : Option (List ℕ)) → is_said o ≡ true → (v : List ℕ) × (o ≡ Some v) × (is_plain_value v ≡ true)
says None h = absurd (true≢false (sym h))
says (Some v) h = (v, refl, h)

stand_all : (rules : List Rule) (pairs : List Pair) (names : List (List ℕ)) → Each (Known rules) names → list_all (λ name. is_said (values_of pairs name)) names ≡ true
    → Each (Stands (Named rules) pairs) names
stand_all rules pairs [] known h = tt
stand_all rules pairs (n ∷ ns) known h =
    let parts = both_true _ _ h in
    let said = says (values_of pairs n) parts.0 in
    ((said.0, said.1, ((n, said.0), refl, (known.0, said.2))), stand_all rules pairs ns known.1 parts.1)

-- how often a name stands among options
abbrev often : List ℕ → List Pair → ℕ
often x [] = 0
often x (o ∷ os) = cond (bytes_eq o.0 x) (suc (often x os)) (often x os)

as_often : (x : List ℕ) (os : List Pair) → times x (map as_words os) ≡ often x os
as_often x [] = refl
as_often x (o ∷ os) = ap (λ (k : ℕ). cond (bytes_eq o.0 x) (suc k) k) (as_often x os)

no_row : (x : List ℕ) (os : List Pair) → often x os ≡ 0 → has_row x (map row_for os) ≡ false
no_row x [] h = refl
no_row x (o ∷ os) h = go (bytes_eq o.0 x) refl (λ k. no_row x os k)
  where
    go : (t : Bool) → bytes_eq o.0 x ≡ t → (often x os ≡ 0 → has_row x (map row_for os) ≡ false) → has_row x (map row_for (o ∷ os)) ≡ false
    go true e rest =
        let bad : suc (often x os) ≡ 0 = rw e at h in
        absurd (omega (arith, bad))
    go false e rest = rw e (rest (rw e at h))

one_more_often : (x : List ℕ) (done : List Pair) (o : Pair) → often x (done ++ o ∷ []) ≡ often x done + cond (bytes_eq o.0 x) 1 0
one_more_often x [] o = go (bytes_eq o.0 x)
  where
    go : (t : Bool) → cond t (suc 0) 0 ≡ 0 + cond t 1 0
    go true = refl
    go false = refl
one_more_often x (d ∷ ds) o = go (bytes_eq d.0 x) (often x (ds ++ o ∷ [])) (often x ds) (cond (bytes_eq o.0 x) 1 0) (one_more_often x ds o)
  where
    go : (t : Bool) (k l m : ℕ) → k ≡ l + m → cond t (suc k) k ≡ cond t (suc l) l + m
    go true k l m e = omega (arith, e)
    go false k l m e = e

fresh_on : (done os : List Pair) → ((x : List ℕ) → often x done + often x os ≤ 1) → Fresh done os
fresh_on done [] h = tt
fresh_on done (o ∷ os) h =
    let here : often o.0 (o ∷ os) ≡ suc (often o.0 os) = rw (same_text o.0) refl in
    let none : often o.0 done ≡ 0 = omega (arith, h o.0, here) in (
      no_row o.0 done none,
      fresh_on (done ++ o ∷ []) os (λ x. turn x (bytes_eq o.0 x) refl),
    )
  where
    turn : (x : List ℕ) (t : Bool) → bytes_eq o.0 x ≡ t → often x (done ++ o ∷ []) + often x os ≤ 1
    turn x true e =
        let more : often x (done ++ o ∷ []) ≡ often x done + 1 = rw e at (one_more_often x done o) in
        let all : often x (o ∷ os) ≡ suc (often x os) = rw e refl in
        omega (arith, more, all, h x)
    turn x false e =
        let more : often x (done ++ o ∷ []) ≡ often x done + 0 = rw e at (one_more_often x done o) in
        let all : often x (o ∷ os) ≡ often x os = rw e refl in
        omega (arith, more, all, h x)

-- what the words of a form are: those of some options, each known and none repeated
record IsForm (rules : List Rule) (words : List (List ℕ)) : Type 0 where
  options : List Pair
  said : words ≡ words_for options
  pairs : in_pairs words ≡ map as_words options
  fit : Each (Fits rules) options
  fresh : Fresh [] options

length_pairs : (words : List (List ℕ)) (n : ℕ) → length words ≡ n * 2 → length (in_pairs words) ≡ n
length_pairs [] zero even = refl
length_pairs [] (suc n) even = absurd (omega (arith, even))
length_pairs (w ∷ []) zero even = absurd (omega (arith, even))
length_pairs (w ∷ []) (suc n) even = absurd (omega (arith, even))
length_pairs (w ∷ v ∷ ws) zero even = absurd (omega (arith, even))
length_pairs (w ∷ v ∷ ws) (suc n) even = ap suc (length_pairs ws n (omega (arith, even)))

form_of : (names words : List (List ℕ)) → AreNames names → has_options names words ≡ true → IsForm (map built_option names) words
form_of names words apart h =
    let rules = map built_option names in
    let parts = both_true _ _ h in
    let even : length words ≡ length names * 2 = eqb-true _ _ parts.0 in
    let known : Each (Known (map built_option names)) names = known_of names names apart (λ x e. e) in
    let once = once_each (Named rules) names (in_pairs words) (length_pairs words (length names) even) apart (stand_all rules (in_pairs words) names known parts.1) in
    let found = options_of_pairs rules (in_pairs words) once.0 in
    record {
      options = found.0;
      said = in_words words (length names) even found.0 found.1;
      pairs = found.1;
      fit = found.2;
      fresh = fresh_on [] found.0 (λ x.
          let same : often x found.0 ≡ times_named x names = sym (as_often x found.0) ∙ ap (times x) (sym found.1) ∙ once.1 x in
          omega (arith, same, named_once x names apart));
    }

-- ---- what a command of options makes of a form

simple_all : (names : List (List ℕ)) → list_all (λ a. a.is_simple) (map option_rule names) ≡ true
simple_all [] = refl
simple_all (n ∷ ns) = simple_all ns

built_simple : (names : List (List ℕ)) → list_all (λ a. a.is_simple) (map built_option names) ≡ true
built_simple [] = refl
built_simple (n ∷ ns) = built_simple ns

none_early : (k : ℕ) (names : List (List ℕ)) → list_any (is_early_multiple k) (map built_option names) ≡ false
none_early k [] = refl
none_early k (n ∷ ns) = none_early k ns

defaults_pass : (names : List (List ℕ)) → list_all default_passes (map built_option names) ≡ true
defaults_pass [] = refl
defaults_pass (n ∷ ns) = defaults_pass ns

free_all : (names : List (List ℕ)) → list_all (λ a. a.is_free) (map built_option names) ≡ true
free_all [] = refl
free_all (n ∷ ns) = free_all ns

none_required : (rows : List Row) (names : List (List ℕ)) → list_all (λ a. not a.required || is_given a.id rows) (map built_option names) ≡ true
none_required rows [] = refl
none_required rows (n ∷ ns) = none_required rows ns

no_defaults : (names : List (List ℕ)) (rows : List Row) → fold with_default rows (map built_option names) ≡ rows
no_defaults [] rows = refl
no_defaults (n ∷ ns) rows = ap (λ (r : List Row). fold with_default r (map built_option ns)) (go (has_row n rows)) ∙ no_defaults ns rows
  where
    go : (t : Bool) → cond t rows rows ≡ rows
    go true = refl
    go false = refl

-- the built command
abbrev top_of : List Rule → Shape
top_of rules = record (built (options_app [])).top { rules = rules }

whole : (names words : List (List ℕ)) → (f : IsForm (map built_option names) words) → Through (top_of (map built_option names)) [] None f.options
whole names words f = through (top_of (map built_option names)) [] None f.options tt f.fit f.fresh

first_said : (os : List Pair) (name : List ℕ) → first_of name (map row_for os) ≡ value_of (option_word name) (map as_words os)
first_said [] name = refl
first_said (o ∷ os) name = go (bytes_eq o.0 name) (first_said os name)
  where
    go : (t : Bool) → first_of name (map row_for os) ≡ value_of (option_word name) (map as_words os)
        → option_and_then (λ (r : Row). slice_get r.values 0) (cond t (Some (row_for o)) (find (λ r. bytes_eq r.id name) (map row_for os)))
        ≡ cond t (Some o.1) (value_of (option_word name) (map as_words os))
    go true rest = refl
    go false rest = rest

-- what a name's option says is what the form defines
pub walk_reads : (names words : List (List ℕ)) → AreNames names → has_options names words ≡ true
    → (name : List ℕ) → first_of name (matches_of (options_app names) words) ≡ values_of (in_pairs words) name
walk_reads names words apart h name =
    let f = form_of names words apart h in
    let through_all = whole names words f in
    let by_rules : matches_of (options_app names) words ≡ rows_after (map built_option names) [] words = ap (λ (rules : List Rule). rows_after rules [] words) (built_are names) in
    let by_words : rows_after (map built_option names) [] words ≡ rows_after (map built_option names) [] (words_for f.options) = ap (rows_after (map built_option names) []) f.said in
    let rows : rows_after (map built_option names) [] (words_for f.options) ≡ map row_for f.options = no_defaults names _ ∙ through_all.rows in
    ap (first_of name) (by_rules ∙ by_words ∙ rows) ∙ first_said f.options name ∙ ap (value_of (option_word name)) (sym f.pairs)

-- and a command of options takes each form
simple_options : (names : List (List ℕ)) → is_simple (options_app names) ≡ true
simple_options names = rw (simple_all names, built_are names, built_simple names, none_early (count_by (λ (a : Rule). is_some a.index) (map built_option names)) names) refl

built_takes_form : (names words : List (List ℕ)) (f : IsForm (map built_option names) words)
    → built_takes (record { top = top_of (map built_option names); subs = [] }) nothing_held words ≡ true
built_takes_form names words f =
    let all = whole names words f in
    let rows = finished (map built_option names) (walk (map built_option names) [] nothing_held (words_for f.options)).held in
    ap (built_takes (record { top = top_of (map built_option names); subs = [] }) nothing_held) f.said
    ∙ rw (all.stopped, all.passes, all.settles, defaults_pass names, free_all names, none_required rows names) refl

pub walk_takes : (names words : List (List ℕ)) → AreNames names → has_options names words ≡ true → takes (options_app names) words ≡ true
walk_takes names words apart h =
    let built_takes_all : built_takes (built (options_app names)) nothing_held words ≡ true =
    ap (λ (rules : List Rule). built_takes (record { top = top_of rules; subs = [] }) nothing_held words) (built_are names) ∙ built_takes_form names words (form_of names words apart h) in
    rw (simple_options names, built_takes_all) refl

-- ---- what a caller of the command concludes

-- the command that the options are added to
pub begun : (new without_name without_help : Command) (name : List ℕ) → app_of new ≡ new_app name → out-Command without_name ≡ record (out-Command new) { no_binary_name = true }
    → out-Command without_help ≡ record (out-Command without_name) { disable_help_flag = true }
    → app_of without_help ≡ record { top = record (new_shape name) { no_binary_name = true; disable_help_flag = true }; subs = [] }
begun new without_name without_help name is unnamed unhelped =
    ap app_of_fields (unhelped ∙ ap (λ (f : Command-F Command). record f { disable_help_flag = true }) unnamed)
    ∙ ap (λ (a : App). record { top = record a.top { no_binary_name = true; disable_help_flag = true }; subs = a.subs }) is

-- one more option
pub one_more : (old new : App) (names : List (List ℕ)) (name : List ℕ) (rule : Rule) → old ≡ options_app names → rule ≡ option_rule name → new ≡ with_rule old rule
    → new ≡ options_app (names ++ name ∷ [])
one_more old new names name rule was is added =
    added ∙ ap₂ with_rule was is ∙ ap (λ (rules : List Rule). record (options_app []) { top = record (options_app []).top { rules = rules } }) (sym (map-append option_rule names (name ∷ [])))

pub one_more_taken : (old new : App) (names : List (Bor (List ℕ))) (i : ℕ) (d : Bor (List ℕ)) (rule : Rule) → i < length names
    → old ≡ options_app (map (λ name. name.now) (take i names)) → rule ≡ option_rule (get_or names i d).now → new ≡ with_rule old rule
    → new ≡ options_app (map (λ name. name.now) (take (i + 1) names))
one_more_taken old new names i d rule inside was is added =
    let next : i + 1 ≡ suc i = omega arith in
    let taken : map (λ (name : Bor (List ℕ)). name.now) (take (i + 1) names) ≡ map (λ (name : Bor (List ℕ)). name.now) (take i names) ++ (get_or names i d).now ∷ [] =
    ap (λ (n : ℕ). map (λ (name : Bor (List ℕ)). name.now) (take n names)) next
    ∙ ap (map (λ (name : Bor (List ℕ)). name.now)) (take-suc names i d inside)
    ∙ map-append (λ (name : Bor (List ℕ)). name.now) (take i names) (get_or names i d ∷ []) in
    one_more old new (map (λ name. name.now) (take i names)) (get_or names i d).now rule was is added ∙ ap options_app (sym taken)

pub reads_form : (app : App) (names words : List (List ℕ)) (matches : ArgMatches) → app ≡ options_app names → AreNames names → has_options names words ≡ true
    → HasMatchesOf app words matches → said_by matches ≡ values_of (in_pairs words)
unfolding said_by
reads_form app names words matches is apart h has =
    let rows : rows_of (found_of matches) ≡ matches_of (options_app names) words = (has (ap is_simple is ∙ simple_options names)).0 ∙ ap (λ (a : App). matches_of a words) is in
    let at : (name : List ℕ) → first_value (found_of matches) name ≡ values_of (in_pairs words) name =
    λ name. first_value-rows (found_of matches) name ∙ ap (first_of name) rows ∙ walk_reads names words apart h name in
    λ i name. at name i

pub takes_form : (app : App) (names words : List (List ℕ)) → app ≡ options_app names → AreNames names → has_options names words ≡ true → takes app words ≡ true
takes_form app names words is apart h = ap (λ (a : App). takes a words) is ∙ walk_takes names words apart h

pub ruleset commands = (begun)
