-- Forms of numbers and of names, and forms that are made of others.
use Rattle.std.proofs.Common.{◌≡◌, ℕ, ◌+◌, ◌^◌, ◌<◌, ◌≤◌, Bool, true, false, cond, inl, inr, List, ◌∷◌, ◌++◌, Option, Some, None, refl, sym, ◌∙◌, arith}
use Rattle.std.specs.Prelude.{decimal, bytes_eq}
use Rattle.std.specs.List.{list_all}
use Rattle.std.proofs.lemmas.Bool.{and_from}
use Rattle.std.proofs.lemmas.Option.{cond_some}
use Rattle.std.proofs.lemmas.Slice.Eq.{bytes_eq-Decides}
use Rattle.bus_types.specs.Text.{◌>>=◌, cut_at, is_digit, number_of}
use Rattle.bus_types.proofs.Cuts.{Lacks, Lacks-from_test, cut_again}
use Rattle.bus_types.proofs.Numbers.{all_digits-decimal, number_taken, number_again}
use Rattle.bus_types.proofs.Options.{bind_some, chosen}
use Rattle.bus_types.specs.Form.{Form}
use Rattle.bus_types.proofs.Tests.{list_all-weaker, list_all-both}

-- ---- one value

-- a number in decimal, at most max
pub number_form : (max : ℕ) → max < 2 ^ 64 → Form (λ n. n ≤ max) decimal (number_of max) is_digit
number_form max fits = record {
  taken = λ text n h. let read = number_taken max n text fits h in (read.1, read.0);
  again = λ n small. number_again max n fits small;
  bytes = λ n small. all_digits-decimal n (omega arith);
}

-- the values of a form that pass a test
pub where_form : {X : Type 0} {Is : X → Type 0} {spell : X → List ℕ} {read : List ℕ → Option X} {test : ℕ → Bool} (passes : X → Bool) → Form Is spell read test
    → Form (λ x. Is x × (passes x ≡ true)) spell (λ text. read text >>= λ x. cond (passes x) (Some x) None) test
where_form {read = read} passes form = record {
  taken = λ text x h.
      let one = bind_some (read text) _ x h in
      let fine = cond_some (passes one.0) one.0 x one.2 in
      let spelled = form.taken text one.0 one.1 in
      rw (← fine.1) ((spelled.0, fine.0), spelled.1);
  again = λ x h. rw (form.again x h.0, h.1) refl;
  bytes = λ x h. form.bytes x h.0;
}

-- a form whose values are said in other words
pub same_form : {X : Type 0} {Is Holds : X → Type 0} {spell : X → List ℕ} {read : List ℕ → Option X} {test : ℕ → Bool}
    → ((x : X) → Is x → Holds x) → ((x : X) → Holds x → Is x) → Form Is spell read test → Form Holds spell read test
same_form there back form = record {
  taken = λ text x h. let spelled = form.taken text x h in (there x spelled.0, spelled.1);
  again = λ x h. form.again x (back x h);
  bytes = λ x h. form.bytes x (back x h);
}

-- a number in decimal, below a limit
pub below_form : (max limit : ℕ) → limit ≡ max + 1 → max < 2 ^ 64 → Form (λ n. n < limit) decimal (number_of max) is_digit
below_form max limit above fits = same_form (λ n h. omega arith) (λ n h. omega arith) (number_form max fits)

-- a form that is read in other words
pub read_form : {X : Type 0} {Is : X → Type 0} {spell : X → List ℕ} {read other : List ℕ → Option X} {test : ℕ → Bool}
    → ((text : List ℕ) → other text ≡ read text) → Form Is spell read test → Form Is spell other test
read_form {spell = spell} same form = record {
  taken = λ text x h. form.taken text x (sym (same text) ∙ h);
  again = λ x h. same (spell x) ∙ form.again x h;
  bytes = form.bytes;
}

-- a form whose bytes pass a weaker test
pub wider_form : {X : Type 0} {Is : X → Type 0} {spell : X → List ℕ} {read : List ℕ → Option X} {test : ℕ → Bool} (wider : ℕ → Bool)
    → ((b : ℕ) → test b ≡ true → wider b ≡ true) → Form Is spell read test → Form Is spell read wider
wider_form {spell = spell} {test = test} wider each form = record {
  taken = form.taken;
  again = form.again;
  bytes = λ x h. list_all-weaker test wider each (spell x) (form.bytes x h);
}

-- a byte that doesn't pass is in no text
pub form_lacks : {X : Type 0} {Is : X → Type 0} {spell : X → List ℕ} {read : List ℕ → Option X} {test : ℕ → Bool} (byte : ℕ)
    → test byte ≡ false → Form Is spell read test → (x : X) → Is x → Lacks byte (spell x)
form_lacks {spell = spell} {test = test} byte fails form x h = Lacks-from_test test byte (spell x) fails (form.bytes x h)

-- ---- a choice

-- a text that is a name, or another text
pub by_name : {X : Type 0} (P : List ℕ → Type 0) (text name : List ℕ) (named others : Option X) (x : X) → cond (bytes_eq text name) named others ≡ Some x
    → (named ≡ Some x → P name) → (others ≡ Some x → P text) → P text
by_name P text name named others x h this that =
    elim (chosen (bytes_eq text name) named others (Some x) h) [
      | inl same ↦ rw ((bytes_eq-Decides text name).0 same.0) (this same.1)
      | inr other ↦ that other.1
    ]

-- ---- one behind another

-- one value, made of what a text spells
pub record Made {A C : Type 0} (Is : A → Type 0) (spell : A → List ℕ) (make : A → C) (text : List ℕ) (c : C) : Type 0 where
  pub value : A
  pub made : make value ≡ c
  pub is : Is value
  pub spelled : text ≡ spell value

pub made : {A C : Type 0} {Is : A → Type 0} {spell : A → List ℕ} {read : List ℕ → Option A} {test : ℕ → Bool} → Form Is spell read test
    → (make : A → C) (text : List ℕ) (c : C) → (read text >>= λ a. Some (make a)) ≡ Some c → Made Is spell make text c
made {read = read} form make text c h =
    let one = bind_some (read text) _ c h in
    let spelled = form.taken text one.0 one.1 in
    record { value = one.0; made = cc (one.2); is = spelled.0; spelled = spelled.1 }

-- two values of two texts, of which the second may depend on the first
pub record Both {A B C : Type 0} (IsA : A → Type 0) (IsB : A → B → Type 0) (spellA : A → List ℕ) (spellB : B → List ℕ) (make : A → B → C)
    (front behind : List ℕ) (c : C) : Type 0 where
  pub first : A
  pub second : B
  pub made : make first second ≡ c
  pub first_is : IsA first
  pub second_is : IsB first second
  pub first_text : front ≡ spellA first
  pub second_text : behind ≡ spellB second

pub both : {A B C : Type 0} {IsA : A → Type 0} {IsB : A → B → Type 0} {spellA : A → List ℕ} {spellB : B → List ℕ} {readA : List ℕ → Option A} {readB : A → List ℕ → Option B}
    {testA testB : ℕ → Bool} → Form IsA spellA readA testA → ((a : A) → IsA a → Form (IsB a) spellB (readB a) testB) → (make : A → B → C) (front behind : List ℕ) (c : C)
    → (readA front >>= λ a. readB a behind >>= λ b. Some (make a b)) ≡ Some c → Both IsA IsB spellA spellB make front behind c
both {readA = readA} {readB = readB} formA formB make front behind c h =
    let a = bind_some (readA front) _ c h in
    let b = bind_some (readB a.0 behind) _ c a.2 in
    let first = formA.taken front a.0 a.1 in
    let second = (formB a.0 first.0).taken behind b.0 b.1 in
    record { first = a.0; second = b.0; made = cc (b.2); first_is = first.0; second_is = second.0; first_text = first.1; second_text = second.1 }

-- two texts with a byte between them
pub parted_again : {A B C : Type 0} {IsA : A → Type 0} {IsB : A → B → Type 0} {spellA : A → List ℕ} {spellB : B → List ℕ} {readA : List ℕ → Option A} {readB : A → List ℕ → Option B}
    {testA testB : ℕ → Bool} → Form IsA spellA readA testA → ((a : A) → IsA a → Form (IsB a) spellB (readB a) testB) → (make : A → B → C) (byte : ℕ) → testA byte ≡ false
    → (a : A) (b : B) → IsA a → IsB a b → (cut_at byte (spellA a ++ byte ∷ spellB b) >>= λ parts. readA parts.0 >>= λ x. readB x parts.1 >>= λ y. Some (make x y)) ≡ Some (make a b)
parted_again {spellA = spellA} {spellB = spellB} formA formB make byte fails a b isA isB =
    rw (cut_again byte (spellA a) (spellB b) (form_lacks byte fails formA a isA), formA.again a isA, (formB a isA).again b isB) refl

pub parted_bytes : {A B : Type 0} {IsA : A → Type 0} {IsB : B → Type 0} {spellA : A → List ℕ} {spellB : B → List ℕ} {readA : List ℕ → Option A} {readB : List ℕ → Option B}
    {testA testB : ℕ → Bool} → Form IsA spellA readA testA → Form IsB spellB readB testB → (test : ℕ → Bool) (byte : ℕ) → ((b : ℕ) → testA b ≡ true → test b ≡ true)
    → ((b : ℕ) → testB b ≡ true → test b ≡ true) → test byte ≡ true → (a : A) (b : B) → IsA a → IsB b → list_all test (spellA a ++ byte ∷ spellB b) ≡ true
parted_bytes {spellA = spellA} {spellB = spellB} {testA = testA} {testB = testB} formA formB test byte eachA eachB between a b isA isB =
    list_all-both test (spellA a) (byte ∷ spellB b) (list_all-weaker testA test eachA (spellA a) (formA.bytes a isA))
    (and_from (test byte) (list_all test (spellB b)) between (list_all-weaker testB test eachB (spellB b) (formB.bytes b isB)))
