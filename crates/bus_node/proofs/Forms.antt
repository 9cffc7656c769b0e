-- Words whose options say something to a node are of the plain form.
use Rattle.std.proofs.Common.{◌≡◌, ◌∙◌, ◌*◌, ℕ, Bool, true, false, cond, ◌&&◌, eqb, List, [], ◌∷◌, length, codes, is_some, Option, Some, None, refl, sym, ap, true≢false}
use Rattle.std.specs.List.{list_all}
use Rattle.std.specs.Str.{bytes_eq}
use Rattle.bus_types.specs.Text.{◌>>=◌}
use Rattle.bus_node.specs.Words.{Values, in_pairs, values_of, options_of, is_said, has_options, number_at, port_at, count_at, name_at, filter_at, relay_at, bootstrap_at, polling_at, consume_at, relay_words, bootstrap_words, consume_words, relay_node, bootstrap_node, consume_node, node_words, is_plain, relay_names, bootstrap_names, consume_names}
use Rattle.bus_node.specs.declared.words.RelayWords.{RelayWords}
use Rattle.bus_node.specs.declared.words.BootstrapWords.{BootstrapWords}
use Rattle.bus_node.specs.declared.words.ConsumeWords.{ConsumeWords}
use Rattle.bus_node.specs.declared.words.Polling.{Polling}
use Rattle.bus_node.specs.declared.words.NodeWords.{NodeWords}
use Rattle.bus_node.specs.declared.words.NodeWords.TheVariants.{Relay, Bootstrap, Consume}
use Rattle.bus_node.specs.Options.{AreNames}
use Rattle.bus_node.proofs.Hyphens.{said_number, said_name, said_filter}

-- ---- steps in a row that may fail

four : {A B C D E : Type 0} (a : Option A) (b : Option B) (c : Option C) (d : Option D) (f : A → B → C → D → E)
    → is_some (a >>= (λ x. b >>= (λ y. c >>= (λ z. d >>= (λ w. Some (f x y z w)))))) ≡ true
    → (is_some a ≡ true) × (is_some b ≡ true) × (is_some c ≡ true) × (is_some d ≡ true)
four None b c d f h = absurd (true≢false (sym h))
four (Some x) None c d f h = absurd (true≢false (sym h))
four (Some x) (Some y) None d f h = absurd (true≢false (sym h))
four (Some x) (Some y) (Some z) None f h = absurd (true≢false (sym h))
four (Some x) (Some y) (Some z) (Some w) f h = (refl, refl, refl, refl)

three : {A B C E : Type 0} (a : Option A) (b : Option B) (c : Option C) (f : A → B → C → E)
    → is_some (a >>= (λ x. b >>= (λ y. c >>= (λ z. Some (f x y z))))) ≡ true
    → (is_some a ≡ true) × (is_some b ≡ true) × (is_some c ≡ true)
three None b c f h = absurd (true≢false (sym h))
three (Some x) None c f h = absurd (true≢false (sym h))
three (Some x) (Some y) None f h = absurd (true≢false (sym h))
three (Some x) (Some y) (Some z) f h = (refl, refl, refl)

all_of : (a : Bool) (rest : Bool) → a ≡ true → rest ≡ true → (a && rest) ≡ true
all_of a rest h t = rw (h, t) refl

number_said : (name : List ℕ) (least most : ℕ) (values : Values) → is_some (number_at name least most values) ≡ true → is_said (values name) ≡ true
unfolding number_at
number_said name least most values h = said_number least most (values name) h

name_said : (name : List ℕ) (values : Values) → is_some (name_at name values) ≡ true → is_said (values name) ≡ true
unfolding name_at
name_said name values h = said_name (values name) h

filter_said : (name : List ℕ) (values : Values) → is_some (filter_at name values) ≡ true → is_said (values name) ≡ true
unfolding filter_at
filter_said name values h = said_filter (values name) h

-- ---- what is said where a node's options say something

abbrev AllSaid : Values → List (List ℕ) → Type 0
AllSaid values names = list_all (λ name. is_said (values name)) names ≡ true

relay_said : (values : Values) → is_some (relay_at values) ≡ true → AllSaid values relay_names
unfolding relay_at
relay_said values h =
    let is = four {E = RelayWords} (port_at (codes "port") values) (number_at (codes "bytes") 1048576 268435456 values) (number_at (codes "windows") 1 65536 values)
    (count_at (codes "connections") values) (λ port bytes windows connections. record { port = port; bytes = bytes; windows = windows; connections = connections }) h in
    all_of _ _ (number_said (codes "port") 1 65535 values is.0)
    (all_of _ _ (number_said (codes "bytes") 1048576 268435456 values is.1)
    (all_of _ _ (number_said (codes "windows") 1 65536 values is.2)
    (all_of _ _ (number_said (codes "connections") 1 1000000 values is.3) refl)))

bootstrap_said : (values : Values) → is_some (bootstrap_at values) ≡ true → AllSaid values bootstrap_names
unfolding bootstrap_at
bootstrap_said values h =
    let is = four {E = BootstrapWords} (port_at (codes "port") values) (port_at (codes "relay") values) (count_at (codes "rounds") values) (count_at (codes "connections") values)
    (λ port relay rounds connections. record { port = port; relay = relay; rounds = rounds; connections = connections }) h in
    all_of _ _ (number_said (codes "port") 1 65535 values is.0)
    (all_of _ _ (number_said (codes "relay") 1 65535 values is.1)
    (all_of _ _ (number_said (codes "rounds") 1 1000000 values is.2)
    (all_of _ _ (number_said (codes "connections") 1 1000000 values is.3) refl)))

consume_said : (values : Values) → is_some (consume_at values) ≡ true → AllSaid values consume_names
unfolding consume_at polling_at
consume_said values h =
    let is = three {E = ConsumeWords} (name_at (codes "name") values) (polling_at values) (filter_at (codes "filter") values)
    (λ name polling filter. record { name = name; filter = filter; relay = polling.relay; bootstrap = polling.bootstrap; polls = polling.polls; max = polling.max }) h in
    let polls = four {E = Polling} (port_at (codes "relay") values) (port_at (codes "bootstrap") values) (count_at (codes "polls") values) (number_at (codes "max") 1 16777216 values)
    (λ relay bootstrap polls max. record { relay = relay; bootstrap = bootstrap; polls = polls; max = max }) is.1 in
    all_of _ _ (name_said (codes "name") values is.0)
    (all_of _ _ (filter_said (codes "filter") values is.2)
    (all_of _ _ (number_said (codes "relay") 1 65535 values polls.0)
    (all_of _ _ (number_said (codes "bootstrap") 1 65535 values polls.1)
    (all_of _ _ (number_said (codes "polls") 1 1000000 values polls.2)
    (all_of _ _ (number_said (codes "max") 1 16777216 values polls.3) refl)))))

-- ---- the words of a node

module _ {W : Type 0} (at : Values → Option W) (names : List (List ℕ)) (said : (values : Values) → is_some (at values) ≡ true → AllSaid values names) where
  abbrev read_so : List (List ℕ) → Option W
  read_so words = cond (eqb (length words) (length names * 2)) (Some (in_pairs words)) None >>= (λ pairs. at (values_of pairs))

  no_form : (words : List (List ℕ)) → has_options names words ≡ false → None ≡ read_so words
  no_form words h = go (eqb (length words) (length names * 2)) refl (at (values_of (in_pairs words))) refl
    where
      go : (t : Bool) → eqb (length words) (length names * 2) ≡ t → (o : Option W) → at (values_of (in_pairs words)) ≡ o → None ≡ read_so words
      go false e o is = rw e refl
      go true e None is = rw (e, is) refl
      go true e (Some w) is =
          let all : AllSaid (values_of (in_pairs words)) names = said (values_of (in_pairs words)) (ap is_some is) in
          let has : has_options names words ≡ true = rw (e, all) refl in
          absurd (true≢false (sym has ∙ h))

  of_form : (words : List (List ℕ)) (values : Values) → has_options names words ≡ true → values ≡ values_of (in_pairs words) → at values ≡ read_so words
  of_form words values h is =
      let even : eqb (length words) (length names * 2) ≡ true = first_true _ _ h in
      ap at is ∙ rw even refl
    where
      first_true : (a b : Bool) → (a && b) ≡ true → a ≡ true
      first_true true b e = refl
      first_true false b e = e

pub no_relay : (words : List (List ℕ)) → has_options relay_names words ≡ false → None ≡ relay_words words
unfolding relay_words options_of
no_relay words h = no_form relay_at relay_names relay_said words h

pub of_relay : (words : List (List ℕ)) (values : Values) → has_options relay_names words ≡ true → values ≡ values_of (in_pairs words) → relay_at values ≡ relay_words words
unfolding relay_words options_of
of_relay words values h is = of_form relay_at relay_names relay_said words values h is

pub no_bootstrap : (words : List (List ℕ)) → has_options bootstrap_names words ≡ false → None ≡ bootstrap_words words
unfolding bootstrap_words options_of
no_bootstrap words h = no_form bootstrap_at bootstrap_names bootstrap_said words h

pub of_bootstrap : (words : List (List ℕ)) (values : Values) → has_options bootstrap_names words ≡ true → values ≡ values_of (in_pairs words) → bootstrap_at values ≡ bootstrap_words words
unfolding bootstrap_words options_of
of_bootstrap words values h is = of_form bootstrap_at bootstrap_names bootstrap_said words values h is

pub no_consume : (words : List (List ℕ)) → has_options consume_names words ≡ false → None ≡ consume_words words
unfolding consume_words options_of
no_consume words h = no_form consume_at consume_names consume_said words h

pub of_consume : (words : List (List ℕ)) (values : Values) → has_options consume_names words ≡ true → values ≡ values_of (in_pairs words) → consume_at values ≡ consume_words words
unfolding consume_words options_of
of_consume words values h is = of_form consume_at consume_names consume_said words values h is

-- ---- words that start a node are of the plain form

form_where_found : {W : Type 0} (f : W → NodeWords) (form : Bool) (found : Option W) → (form ≡ false → None ≡ found) → is_some (found >>= (λ w. Some (f w))) ≡ true → form ≡ true
form_where_found f true found none h = refl
form_where_found f false found none h = ap (λ o. is_some (o >>= (λ w. Some (f w)))) (none refl) ∙ h

by_word : (words : List (List ℕ)) (a b c : Bool)
    → is_some (cond a (relay_node words) (cond b (bootstrap_node words) (cond c (consume_node words) None))) ≡ true
    → cond a (has_options relay_names words) (cond b (has_options bootstrap_names words) (cond c (has_options consume_names words) false)) ≡ true
unfolding relay_node bootstrap_node consume_node
by_word words true b c h = form_where_found Relay (has_options relay_names words) (relay_words words) (no_relay words) h
by_word words false true c h = form_where_found Bootstrap (has_options bootstrap_names words) (bootstrap_words words) (no_bootstrap words) h
by_word words false false true h = form_where_found Consume (has_options consume_names words) (consume_words words) (no_consume words) h
by_word words false false false h = h

pub plain_where_started : (words : List (List ℕ)) → is_some (node_words words) ≡ true → is_plain words ≡ true
unfolding node_words is_plain
plain_where_started [] h = h
plain_where_started (first ∷ words) h = by_word words (bytes_eq first (codes "relay")) (bytes_eq first (codes "bootstrap")) (bytes_eq first (codes "consume")) h

-- ---- the names of options can be told apart

pub relay_apart : AreNames relay_names
relay_apart = (refl, refl, (refl, refl, (refl, refl, (refl, refl, tt))))

pub bootstrap_apart : AreNames bootstrap_names
bootstrap_apart = (refl, refl, (refl, refl, (refl, refl, (refl, refl, tt))))

pub consume_apart : AreNames consume_names
consume_apart = (refl, refl, (refl, refl, (refl, refl, (refl, refl, (refl, refl, (refl, refl, tt))))))

pub ruleset relays = (no_relay, of_relay, relay_apart)

pub ruleset bootstraps = (no_bootstrap, of_bootstrap, bootstrap_apart)

pub ruleset consumes = (no_consume, of_consume, consume_apart)
